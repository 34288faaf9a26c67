use Rattle.report_text.specs.Answering.{StandsAtAnswer}
use Rattle.report_text.proofs.CheckerFacts.{later_stop, later_next}
use Rattle.report_text.proofs.checker.answer_line.Goals as goal

pub first_log-requires-clause-done : goal.first_log-requires-clause-done
first_log-requires-clause-done c = c.is_done.ensures.0 c.if-is_done.true

pub first_log-requires-clause-fit : goal.first_log-requires-clause-fit
first_log-requires-clause-fit c = c.requires

pub line-requires-clause-open : goal.line-requires-clause-open
line-requires-clause-open c = λ e. let t = c.is_done.ensures.1 e in cc (t, c.if-is_done.false)

pub line-requires-clause-fit : goal.line-requires-clause-fit
line-requires-clause-fit c = c.requires

pub returns-then-is_done : goal.returns-then-is_done
returns-then-is_done c = c.first_log.ensures

pub returns-in-Ok : goal.returns-in-Ok
returns-in-Ok c = λ p h.
    let j = c.in-Ok.ensures.judged p h.place in
    later_next p j.0 c.args.line.now c.args.answer c.line.new.self h j.1 j.2 c.in-Ok.ensures.fit

pub returns-in-Err : goal.returns-in-Err
returns-in-Err c = λ p h. later_stop p c.args.line.now c.args.answer (StandsAtAnswer c.line.new.self) c.in-Err.stop h (c.in-Err.ensures.judged p h.place)
