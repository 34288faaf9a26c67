use Rattle.std.proofs.Common.{take}
use Rattle.std.specs.List.{AllZip}
use Rattle.cdcl_core.specs.Replies.{IsLonger}
use Rattle.merge_model.specs.Merging.{IsModel}
use Rattle.distance_search.specs.Setting.{IsOver}
use Rattle.distance_search.proofs.distances.base_models.Given as goal

abbrev pub invariant-loop-agent : goal.invariant-loop-agent
invariant-loop-agent g l = record {
  main : IsOver (g.Q.Questions.setting l.questions) l.engine.log;
  longer : IsLonger l.fn.engine.log l.engine.log;
  models : AllZip (IsModel (g.Q.Questions.setting l.questions).profile.atoms) (take l.agent (g.Q.Questions.setting l.questions).profile.bases) l.models.items;
}
