use Rattle.std.proofs.Common.{◌≡◌, ◌≤◌, ◌-◌, length, drop}
use Rattle.clause_store.specs.Truth.{all_true, values_of}
use Rattle.clause_store.proofs.assignment.Assignment.satisfies.Given as goal

abbrev pub invariant-loop-number : goal.invariant-loop-number
invariant-loop-number l = record {
  within : l.number ≤ length l.clauses.list;
  so_far : all_true (values_of l.self) (drop l.number l.clauses.list) ≡ all_true (values_of l.self) l.clauses.list;
}

abbrev pub decreases-loop-number : goal.decreases-loop-number
decreases-loop-number l = length l.clauses.list - l.number
