use Rattle.std.proofs.Common.{◌≤◌}
use Rattle.cdcl_core.specs.Replies.{IsLonger}
use Rattle.distance_search.specs.Setting.{IsOver}
use Rattle.closest_listing.specs.Listed.{NoneAbove}
use Rattle.closest_listing.proofs.stepping.next_above.Given as goal

abbrev pub invariant-loop-atom : goal.invariant-loop-atom
invariant-loop-atom g l = record {
  main : IsOver (g.Q.Questions.setting l.questions) l.engine.log;
  longer : IsLonger l.fn.engine.log l.engine.log;
  within : l.atom ≤ l.atoms;
  none : NoneAbove (g.Q.Questions.setting l.questions) l.atom l.last;
}

abbrev pub decreases-loop-atom : goal.decreases-loop-atom
decreases-loop-atom g l = l.atom
