use Rattle.std.proofs.Common.{◌≡◌, ◌+◌, ◌++◌}
use Rattle.std.specs.Prelude.{map}
use Rattle.clause_store.specs.Lits.{sorted_clause}
use Rattle.clause_store.specs.Fresh.{fresh_vars}
use Rattle.totalizer.specs.Joined.{joined_blocks}
use Rattle.aggregators.specs.Levels.{output_clauses}
use Rattle.aggregators.proofs.max.add_outputs.Given as goal

abbrev pub invariant-loop-k : goal.invariant-loop-k
invariant-loop-k l = record {
  vars : l.clauses.vars ≡ l.initial.clauses.vars + l.k;
  list : l.clauses.list ≡ l.initial.clauses.list ++ map sorted_clause (joined_blocks (output_clauses l.initial.clauses.vars l.aways) l.k);
  outputs : l.outputs.items ≡ fresh_vars l.initial.clauses.vars l.k;
}
