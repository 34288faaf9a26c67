use Rattle.std.proofs.Common.{drop}
use Rattle.std.specs.Prelude.{◌↔◌}
use Rattle.clause_store.specs.Refutes.{Refutes}
use Rattle.log_checker.proofs.refuting.refutes.Given as goal

abbrev pub invariant-loop-lit : goal.invariant-loop-lit
invariant-loop-lit l = Refutes (drop l.lit-index l.clause) l.assumptions ↔ Refutes l.clause l.assumptions
