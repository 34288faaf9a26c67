use Rattle.std.proofs.Common.{◌≡◌, ◌++◌, take}
use Rattle.std.specs.List.{flat_map}
use Rattle.report_text.specs.WritingItems.{proof_text}
use Rattle.report_text.proofs.writing.write_proofs.Given as goal

abbrev pub invariant-loop-proof : goal.invariant-loop-proof
invariant-loop-proof l = l.into.items ≡ l.fn.into.items ++ flat_map proof_text (take l.proof-index l.proofs)
