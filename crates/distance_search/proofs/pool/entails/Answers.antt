use Rattle.std.proofs.Common.{sym, subst}
use Rattle.std.specs.Prelude.{IfSome}
use Rattle.distance_search.specs.declared.answer.Entails.TheVariants.{No}
use Rattle.distance_search.specs.AtHand.{AreAtHand}
use Rattle.distance_search.specs.Results.{IsJudged}
use Rattle.distance_search.proofs.pool.entails.Goals as goal

pub breaker_at_hand-requires-clause-pool : goal.breaker_at_hand-requires-clause-pool
breaker_at_hand-requires-clause-pool g c = subst (λ xs. AreAtHand (g.Q.Questions.setting c.args.questions.now) c.args.engine.now.log xs) (sym c.as_slice.ensures.value) c.requires.pool

pub returns-in-Some-clause-answer : goal.returns-in-Some-clause-answer
returns-in-Some-clause-answer g c =
    subst (λ found. IfSome found (λ away. IsJudged (g.Q.Questions.setting c.args.questions.now) c.args.engine.now.log c.args.ask c.args.best.now.values (No away))) c.in-Some.is (c.in_ok-away.ensures c.args.best.now.values)
