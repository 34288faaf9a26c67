use Rattle.std.proofs.Common.{◌≡◌, ◌++◌}
use Rattle.std.specs.Prelude.{map}
use Rattle.clause_store.specs.Lits.{sorted_clause}
use Rattle.totalizer.specs.Joined.{joined_blocks}
use Rattle.totalizer.specs.Plus.{pair_clauses}
use Rattle.totalizer.proofs.sums.add_row.Given as goal

abbrev pub invariant-loop-j : goal.invariant-loop-j
invariant-loop-j l = record {
  vars : l.clauses.vars ≡ l.initial.clauses.vars;
  list : l.clauses.list ≡ l.initial.clauses.list ++ map sorted_clause (joined_blocks (pair_clauses l.left l.right l.base l.i) l.j);
}
