use Rattle.cdcl_core.specs.Replies.{IsLonger}
use Rattle.distance_search.specs.Setting.{IsOver}
use Rattle.distance_search.specs.Turns.{AreNearest}
use Rattle.distance_search.proofs.distances.away_from.Given as goal

abbrev pub invariant-loop-agent : goal.invariant-loop-agent
invariant-loop-agent g l = record {
  main : IsOver (g.Q.Questions.setting l.questions) l.engine.log;
  longer : IsLonger l.fn.engine.log l.engine.log;
  nearest : AreNearest (g.Q.Questions.setting l.questions) l.engine.log l.model l.agent l.vector.items l.nearest.items l.far.items;
}
