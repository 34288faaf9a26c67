use Rattle.cdcl_core.specs.Replies.{IsLonger}
use Rattle.merge_encoding.specs.Claims.{NoModelOfConstraint}
use Rattle.distance_search.specs.Setting.{IsOver}
use Rattle.distance_search.specs.Results.{IsNamedBy, AreNamed}
use Rattle.distance_search.proofs.naming.consistency.Given as goal

abbrev pub invariant-loop-agent : goal.invariant-loop-agent
invariant-loop-agent g l = record {
  main : IsOver (g.Q.Questions.setting l.questions) l.engine.log;
  longer : IsLonger l.fn.engine.log l.engine.log;
  constraint : IsNamedBy (g.Q.Questions.setting l.questions) l.engine.log (g.Q.Questions.setting l.questions).profile.constraint NoModelOfConstraint l.constraint;
  agents : AreNamed (g.Q.Questions.setting l.questions) l.engine.log l.agent l.agents.items;
}
