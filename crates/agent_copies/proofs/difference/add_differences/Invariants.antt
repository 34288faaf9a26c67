use Rattle.std.proofs.Common.{◌≡◌, ◌++◌}
use Rattle.std.specs.Prelude.{map}
use Rattle.clause_store.specs.Lits.{sorted_clause}
use Rattle.totalizer.specs.Joined.{joined_blocks}
use Rattle.agent_copies.specs.Differences.{difference_at}
use Rattle.agent_copies.proofs.difference.add_differences.Given as goal

abbrev pub invariant-loop-i : goal.invariant-loop-i
invariant-loop-i l = record {
  vars : l.clauses.vars ≡ l.initial.clauses.vars;
  list : l.clauses.list ≡ l.initial.clauses.list ++ map sorted_clause (joined_blocks (difference_at l.base l.shared l.own) l.i);
}
