use Rattle.std.proofs.Common.{◌≡◌, ◌+◌, ◌*◌, ◌≤◌, ◌++◌}
use Rattle.ranks.specs.Ranks.{downs}
use Rattle.clause_store.proofs.Grows.{IsDueStill}
use Rattle.aggregators.specs.Levels.{totals_due}
use Rattle.aggregators.proofs.leximax.add_levels.Given as goal
use Rattle.aggregators.specs.Limits.{level_room}

abbrev pub invariant-loop-left : goal.invariant-loop-left
invariant-loop-left l = record {
  low : l.left ≤ l.top;
  more : l.initial.clauses.vars ≤ l.clauses.vars;
  room : l.clauses.vars + level_room * l.left ≤ l.initial.clauses.vars + level_room * l.top;
  vars : (totals_due (downs l.left) l.clauses.vars l.parts).vars ≡ (totals_due (downs l.top) l.initial.clauses.vars l.parts).vars;
  list : IsDueStill l.initial.clauses.list l.clauses.list (totals_due (downs l.left) l.clauses.vars l.parts).clauses (totals_due (downs l.top) l.initial.clauses.vars l.parts).clauses;
  levels : l.levels.items ++ (totals_due (downs l.left) l.clauses.vars l.parts).levels ≡ (totals_due (downs l.top) l.initial.clauses.vars l.parts).levels;
}

abbrev pub decreases-loop-left : goal.decreases-loop-left
decreases-loop-left l = l.left
