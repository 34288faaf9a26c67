use Rattle.distance_search.proofs.Verdicts.{with_proper, none_from, with_from}
use Rattle.distance_search.proofs.closest.closest_with.Goals as goal

pub ask_with-requires-clause-proper : goal.ask_with-requires-clause-proper
ask_with-requires-clause-proper g c = with_proper (g.Q.Questions.setting c.args.questions.now) (g.met.Q.Questions.laws c.args.questions.now) c.args.best.now c.as_slice.result.now c.args.prefix.now c.requires.best c.as_slice.ensures c.requires.prefix

pub returns-in-Refuted-clause-answer : goal.returns-in-Refuted-clause-answer
returns-in-Refuted-clause-answer g c = none_from (g.Q.Questions.setting c.args.questions.now) (g.met.Q.Questions.laws c.args.questions.now) c.ask_with.new.engine.log c.args.best.now c.as_slice.result.now c.args.prefix.now c.in_ok-ask_with.field-0 c.in-Refuted.field-0 c.requires.best c.as_slice.ensures c.in-Refuted.is c.in_ok-ask_with.ensures.answer

pub returns-in-Found-clause-answer : goal.returns-in-Found-clause-answer
returns-in-Found-clause-answer g c = with_from (g.Q.Questions.setting c.args.questions.now) (g.met.Q.Questions.laws c.args.questions.now) c.ask_with.new.engine.log c.args.best.now c.as_slice.result.now c.args.prefix.now c.in_ok-ask_with.field-0 c.in-Found.witness c.requires.best c.as_slice.ensures c.in-Found.is c.in_ok-ask_with.ensures.answer
