use Rattle.std.proofs.Common.{◌∙◌, sym}
use Rattle.distance_search.proofs.Kept.{at_place, size_at, broken_at}
use Rattle.distance_search.proofs.pool.breaker_at_hand.Goals as goal

pub satisfies-requires-clause-sized : goal.satisfies-requires-clause-sized
satisfies-requires-clause-sized g c =
    size_at (g.Q.Questions.setting c.args.questions.now) c.args.engine.now.log c.away-item.result
    (at_place (g.Q.Questions.setting c.args.questions.now) c.args.engine.now.log c.args.pool.now c.loop-away.away-index c.away-item.result c.requires.pool c.loop-away-test.true c.away-item.is)

pub returns-then-not-satisfies : goal.returns-then-not-satisfies
returns-then-not-satisfies g c = λ values.
    broken_at (g.Q.Questions.setting c.args.questions.now) c.args.engine.now.log c.args.ask values c.away-item.result c.in_ok-breaker.breaker c.as_slice.result.now
    (at_place (g.Q.Questions.setting c.args.questions.now) c.args.engine.now.log c.args.pool.now c.loop-away.away-index c.away-item.result c.requires.pool c.loop-away-test.true c.away-item.is)
    (sym c.satisfies.ensures ∙ c.if-not-satisfies.true) c.as_slice.ensures c.in_ok-breaker.ensures
