use Rattle.std.proofs.Common.{◌≡◌, drop}
use Rattle.clause_store.specs.Truth.{clause_true, values_of}
use Rattle.clause_store.proofs.assignment.Assignment.has_true.Given as goal

abbrev pub invariant-loop-lit : goal.invariant-loop-lit
invariant-loop-lit l = clause_true (values_of l.self) (drop l.lit-index l.lits) ≡ clause_true (values_of l.self) l.lits
