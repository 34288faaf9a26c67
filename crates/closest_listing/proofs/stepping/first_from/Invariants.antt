use Rattle.cdcl_core.specs.Replies.{IsLonger}
use Rattle.distance_search.specs.Setting.{IsOver}
use Rattle.closest_listing.specs.Listed.{IsLowestTo}
use Rattle.closest_listing.proofs.stepping.first_from.Given as goal

abbrev pub invariant-loop-atom : goal.invariant-loop-atom
invariant-loop-atom g l = record {
  main : IsOver (g.Q.Questions.setting l.questions) l.engine.log;
  longer : IsLonger l.fn.engine.log l.engine.log;
  lowest : IsLowestTo (g.Q.Questions.setting l.questions) l.depth l.atom l.found l.lowest;
}
