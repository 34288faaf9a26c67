use Rattle.std.proofs.Common.{arith}
use Rattle.distance_search.proofs.Exact.{may_be_nearer, nearest_by, nearest_at_zero}
use Rattle.distance_search.proofs.distances.lower_distance.Goals as goal

pub returns-in-Refuted-clause-answer : goal.returns-in-Refuted-clause-answer
returns-in-Refuted-clause-answer g c =
    let i = c.loop-distance.invariant in
    nearest_by (g.Q.Questions.setting c.args.questions.now) c.ask.new.engine.log c.args.model c.loop-distance.valuation c.args.agent c.loop-distance.distance c.in_ok-step.field-0 c.in-Refuted.step c.requires.sized i.model i.distance (omega arith) c.in-Refuted.is c.in_ok-step.ensures.answer

pub returns-clause-answer : goal.returns-clause-answer
returns-clause-answer g c =
    let i = c.loop-distance.invariant in
    nearest_at_zero (g.Q.Questions.setting c.args.questions.now) c.loop-distance.engine.log c.args.model c.loop-distance.valuation c.args.agent c.loop-distance.distance c.requires.sized i.model i.distance (omega arith)

pub ask-requires-clause-proper : goal.ask-requires-clause-proper
ask-requires-clause-proper g c =
    let i = c.loop-distance.invariant in
    may_be_nearer (g.Q.Questions.setting c.args.questions.now) (g.met.Q.Questions.laws c.args.questions.now) c.args.model c.loop-distance.valuation c.args.agent c.loop-distance.distance c.requires.sized c.requires.agent i.model i.distance c.loop-distance-test.true
