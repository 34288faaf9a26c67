use Rattle.std.proofs.Common.{◌≡◌, ap, inr, refl}
use Rattle.report_lines.specs.declared.kinds.Due.TheVariants as due
use Rattle.report_lines.specs.Places.{Position}
use Rattle.report_text.specs.Answering.{StandsAtAnswer}
use Rattle.report_text.specs.Front.{States}
use Rattle.report_text.proofs.CheckerFacts.{answer_place, first_stop, first_next}
use Rattle.report_text.proofs.checker.first_answer.Goals as goal

pub finish-requires : goal.finish-requires
finish-requires c = c.requires.due

pub new-answer-requires : goal.new-answer-requires
new-answer-requires c = inr refl

pub line-requires-clause-open : goal.line-requires-clause-open
line-requires-clause-open c = λ e. let f : c.new-answer.result.due ≡ due.Asks = ap (λ (p : Position). p.due) c.new-answer.ensures.place in cc

pub line-requires-clause-fit : goal.line-requires-clause-fit
line-requires-clause-fit c = c.new-answer.ensures.fit

pub returns-in-Ok : goal.returns-in-Ok
returns-in-Ok c = λ p h.
    let states : States p c.in_ok-distance.distance c.in_ok-distance.aggregator c.in_ok-distance.conflicts c.in_ok-distance.problem = c.in_ok-distance.ensures p h in
    let place = answer_place p c.in_ok-distance.distance c.in_ok-distance.aggregator c.in_ok-distance.conflicts c.in_ok-distance.problem c.new-answer.result states c.new-answer.ensures.place in
    let j = c.in-Ok.ensures.judged (record p { due = due.Asks }) place in
    first_next p j.0 c.args.line.now c.line.new.self (c.requires.only p h) j.1 j.2 c.in-Ok.ensures.fit

pub returns-in-Err : goal.returns-in-Err
returns-in-Err c = λ p h.
    let states : States p c.in_ok-distance.distance c.in_ok-distance.aggregator c.in_ok-distance.conflicts c.in_ok-distance.problem = c.in_ok-distance.ensures p h in
    let place = answer_place p c.in_ok-distance.distance c.in_ok-distance.aggregator c.in_ok-distance.conflicts c.in_ok-distance.problem c.new-answer.result states c.new-answer.ensures.place in
    first_stop p c.args.line.now (StandsAtAnswer c.line.new.self) c.in-Err.stop (c.requires.only p h) (c.in-Err.ensures.judged (record p { due = due.Asks }) place)
