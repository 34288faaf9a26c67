use Rattle.std.proofs.Common.{◌≡◌}
use Rattle.cdcl_core.specs.Replies.{IsLonger}
use Rattle.merge_model.specs.Merging.{IsModel}
use Rattle.merge_encoding.specs.Claims.{base_at}
use Rattle.distance_search.specs.Setting.{IsOver}
use Rattle.distance_search.proofs.distances.lower_distance.Given as goal

abbrev pub invariant-loop-distance : goal.invariant-loop-distance
invariant-loop-distance g l = record {
  main : IsOver (g.Q.Questions.setting l.questions) l.engine.log;
  longer : IsLonger l.fn.engine.log l.engine.log;
  model : IsModel (g.Q.Questions.setting l.questions).profile.atoms (base_at (g.Q.Questions.setting l.questions).profile l.agent) l.valuation;
  distance : (g.Q.Questions.setting l.questions).dist l.model l.valuation ≡ l.distance;
}

abbrev pub decreases-loop-distance : goal.decreases-loop-distance
decreases-loop-distance g l = l.distance
