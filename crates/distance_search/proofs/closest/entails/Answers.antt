use Rattle.std.proofs.Common.{rules, sym, subst}
use Rattle.std.specs.List.{AllZip}
use Rattle.merge_model.specs.Merging.{IsModel}
use Rattle.distance_search.proofs.Halts.{halted_on}
use Rattle.distance_search.proofs.Verdicts.{breaker_proper, yes_from, breaker_from, no_from}
use Rattle.distance_search.proofs.closest.entails.Goals as goal

pub ask_breaker-requires-clause-proper : goal.ask_breaker-requires-clause-proper
ask_breaker-requires-clause-proper g c = breaker_proper (g.Q.Questions.setting c.args.questions.now) (g.met.Q.Questions.laws c.args.questions.now) c.args.best.now c.as_slice.result.now c.args.ask c.requires.best c.as_slice.ensures c.requires.ask

pub returns-in-Refuted-clause-answer : goal.returns-in-Refuted-clause-answer
returns-in-Refuted-clause-answer g c = yes_from (g.Q.Questions.setting c.args.questions.now) (g.met.Q.Questions.laws c.args.questions.now) c.ask_breaker.new.engine.log c.args.best.now c.as_slice.result.now c.args.ask c.in_ok-step.field-0 c.in-Refuted.step c.requires.best c.as_slice.ensures c.in-Refuted.is c.in_ok-step.ensures.answer

pub away_from-requires-clause-starts : goal.away_from-requires-clause-starts
away_from-requires-clause-starts g c =
    let b = breaker_from (g.Q.Questions.setting c.args.questions.now) (g.met.Q.Questions.laws c.args.questions.now) c.ask_breaker.new.engine.log c.args.best.now c.as_slice.result.now c.args.ask c.in_ok-step.field-0 c.in-Found.witness c.requires.best c.as_slice.ensures c.in-Found.is c.in_ok-step.ensures.answer in
    subst (λ us. AllZip (IsModel (g.Q.Questions.setting c.args.questions.now).profile.atoms) (g.Q.Questions.setting c.args.questions.now).profile.bases us) (sym c.as_slice-in-Found.ensures.value) b.starts

pub away_from-requires-clause-sized : goal.away_from-requires-clause-sized
away_from-requires-clause-sized g c =
    let b = breaker_from (g.Q.Questions.setting c.args.questions.now) (g.met.Q.Questions.laws c.args.questions.now) c.ask_breaker.new.engine.log c.args.best.now c.as_slice.result.now c.args.ask c.in_ok-step.field-0 c.in-Found.witness c.requires.best c.as_slice.ensures c.in-Found.is c.in_ok-step.ensures.answer in
    b.closest.model.size

pub returns-in_err-away-in-Found-clause-answer : goal.returns-in_err-away-in-Found-clause-answer
returns-in_err-away-in-Found-clause-answer g c =
    let h = halted_on c.args.engine.now.log c.ask_breaker.new.engine.log c.away_from.new.engine.log (g.Q.Questions.budget c.args.questions.now) c.in_err-away-in-Found.field-0.0 c.in_ok-step.ensures.longer c.in_err-away-in-Found.ensures.answer in
    search rules

pub returns-in_ok-away-in-Found-clause-answer : goal.returns-in_ok-away-in-Found-clause-answer
returns-in_ok-away-in-Found-clause-answer g c =
    let b = breaker_from (g.Q.Questions.setting c.args.questions.now) (g.met.Q.Questions.laws c.args.questions.now) c.ask_breaker.new.engine.log c.args.best.now c.as_slice.result.now c.args.ask c.in_ok-step.field-0 c.in-Found.witness c.requires.best c.as_slice.ensures c.in-Found.is c.in_ok-step.ensures.answer in
    let e = c.in_ok-away-in-Found.ensures.answer in
    no_from (g.Q.Questions.setting c.args.questions.now) c.away_from.new.engine.log c.args.ask c.args.best.now.values c.in-Found.witness c.in_ok-away-in-Found.away b e.0 e.1
