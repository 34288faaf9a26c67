use Rattle.cdcl_core.proofs.Longer.{longer_on}
use Rattle.distance_search.proofs.Halts.{halted_result}
use Rattle.distance_search.proofs.Lowering.{within_proper}
use Rattle.distance_search.specs.Turns.{IsReached}
use Rattle.distance_search.proofs.level.models_within.Goals as goal

pub ask_with-requires-clause-proper : goal.ask_with-requires-clause-proper
ask_with-requires-clause-proper g c = within_proper (g.Q.Questions.setting c.args.questions.now) (g.met.Q.Questions.laws c.args.questions.now) c.frame.result.now c.as_slice.result.now c.in_ok-limits.limits.items c.as_slice-2.result.now c.args.most c.frame.ensures c.as_slice.ensures c.in_ok-limits.ensures c.as_slice-2.ensures.value

pub returns-in-Refuted-clause-longer : goal.returns-in-Refuted-clause-longer
returns-in-Refuted-clause-longer g c = longer_on c.args.engine.now.log c.ask_with.new.engine.log c.any_models.new.engine.log c.in_ok-ask_with.ensures.longer c.any_models.ensures.longer

pub returns-in-Refuted-clause-answer : goal.returns-in-Refuted-clause-answer
returns-in-Refuted-clause-answer g c = halted_result (IsReached (g.Q.Questions.setting c.args.questions.now)) c.args.engine.now.log c.ask_with.new.engine.log c.any_models.new.engine.log (g.Q.Questions.budget c.args.questions.now) c.in_ok-ask_with.ensures.longer c.any_models.result c.any_models.ensures.answer
