use Rattle.std.proofs.Common.{◌≡◌, ◌++◌, take}
use Rattle.std.specs.Prelude.{map}
use Rattle.clause_store.specs.Lits.{sorted_clause}
use Rattle.totalizer.specs.Either.{lifts}
use Rattle.totalizer.proofs.disjunction.add_lifts.Given as goal

abbrev pub invariant-loop-var : goal.invariant-loop-var
invariant-loop-var l = record {
  vars : l.clauses.vars ≡ l.initial.clauses.vars;
  list : l.clauses.list ≡ l.initial.clauses.list ++ map sorted_clause (map (lifts l.output) (take l.var-index l.vars));
}
