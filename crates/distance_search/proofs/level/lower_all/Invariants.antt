use Rattle.cdcl_core.specs.Replies.{IsLonger}
use Rattle.distance_search.specs.Setting.{IsOver}
use Rattle.distance_search.specs.Turns.{AreLowered}
use Rattle.distance_search.proofs.level.lower_all.Given as goal

abbrev pub invariant-loop-level : goal.invariant-loop-level
invariant-loop-level g l = record {
  main : IsOver (g.Q.Questions.setting l.questions) l.engine.log;
  longer : IsLonger l.fn.engine.log l.engine.log;
  lowered : AreLowered (g.Q.Questions.setting l.questions) l.engine.log l.level l.witness l.steps.items;
}
