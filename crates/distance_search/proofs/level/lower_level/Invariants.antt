use Rattle.std.proofs.Common.{◌≡◌, take}
use Rattle.std.specs.Prelude.{slice_index}
use Rattle.cdcl_core.specs.Replies.{IsLonger}
use Rattle.distance_search.specs.Setting.{IsOver}
use Rattle.distance_search.specs.Turns.{IsReached}
use Rattle.distance_search.proofs.level.lower_level.Given as goal

abbrev pub invariant-loop-value : goal.invariant-loop-value
invariant-loop-value g l = record {
  main : IsOver (g.Q.Questions.setting l.questions) l.engine.log;
  longer : IsLonger l.fn.engine.log l.engine.log;
  reached : IsReached (g.Q.Questions.setting l.questions) l.witness;
  before : take l.level l.witness.values.items ≡ take l.level l.fn.from.values.items;
  value : l.value ≡ slice_index l.witness.values.items l.level;
}

abbrev pub decreases-loop-value : goal.decreases-loop-value
decreases-loop-value g l = l.value
