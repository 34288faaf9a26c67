use Rattle.distance_search.proofs.Logs.{over_on}
use Rattle.cdcl_core.proofs.Longer.{longer_on}
use Rattle.distance_search.proofs.Halts.{halted_result}
use Rattle.distance_search.specs.Turns.{IsReached}
use Rattle.distance_search.proofs.level.first.Goals as goal

pub models_within-requires-clause-main : goal.models_within-requires-clause-main
models_within-requires-clause-main g c = over_on (g.Q.Questions.setting c.args.questions.now) c.args.engine.now.log c.warm_up.new.engine.log c.in_ok-most.ensures.longer c.requires.main

pub returns-clause-longer : goal.returns-clause-longer
returns-clause-longer g c = longer_on c.args.engine.now.log c.warm_up.new.engine.log c.models_within.new.engine.log c.in_ok-most.ensures.longer c.models_within.ensures.longer

pub returns-clause-answer : goal.returns-clause-answer
returns-clause-answer g c = halted_result (IsReached (g.Q.Questions.setting c.args.questions.now)) c.args.engine.now.log c.warm_up.new.engine.log c.models_within.new.engine.log (g.Q.Questions.budget c.args.questions.now) c.in_ok-most.ensures.longer c.models_within.result c.models_within.ensures.answer
