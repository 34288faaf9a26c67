use Rattle.std.proofs.Common.{◌≡◌, ◌++◌, drop}
use Rattle.merge_encoding.specs.Assumptions.{signed}
use Rattle.merge_encoding.proofs.assuming.model_lits.Given as goal

abbrev pub invariant-loop-k : goal.invariant-loop-k
invariant-loop-k l = l.lits.items ++ signed (drop l.k l.shared) (drop l.k l.model) ≡ signed l.shared l.model
