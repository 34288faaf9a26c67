use Rattle.std.proofs.Common.{◌≡◌, ◌++◌, drop}
use Rattle.merge_reports.specs.Trimmed.{proofs_with}
use Rattle.merge_reports.proofs.trimming.with_steps.Given as goal

abbrev pub invariant-loop-k : goal.invariant-loop-k
invariant-loop-k l = l.made.items ++ proofs_with (drop l.k l.proofs) (drop l.k l.numbers) ≡ proofs_with l.proofs l.numbers
