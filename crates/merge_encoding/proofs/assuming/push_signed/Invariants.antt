use Rattle.std.proofs.Common.{◌≡◌, ◌++◌, drop}
use Rattle.merge_encoding.specs.Assumptions.{signed}
use Rattle.merge_encoding.proofs.assuming.push_signed.Given as goal

abbrev pub invariant-loop-k : goal.invariant-loop-k
invariant-loop-k l = l.lits.items ++ signed (drop l.k l.shared) (drop l.k l.values) ≡ l.initial.lits.items ++ signed l.shared l.values
