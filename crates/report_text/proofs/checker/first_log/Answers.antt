use Rattle.std.proofs.Common.{refl}
use Rattle.report_text.specs.Answering.{position_of}
use Rattle.report_text.specs.Logging.{StandsAtLog}
use Rattle.report_text.proofs.CheckerFacts.{same_stop}
use Rattle.report_text.proofs.checker.first_log.Goals as goal

pub finish-requires-clause-done : goal.finish-requires-clause-done
finish-requires-clause-done c = c.requires.done

pub finish-requires-clause-fit : goal.finish-requires-clause-fit
finish-requires-clause-fit c = c.requires.fit

pub line-requires-clause-due : goal.line-requires-clause-due
line-requires-clause-due c = λ e. cc

pub line-requires-clause-fit : goal.line-requires-clause-fit
line-requires-clause-fit c =
    let p = position_of c.args.answer in
    let stands : StandsAtLog c.new-log.result p = c.new-log.ensures.stands p (c.in_ok-finish.ensures p refl) in
    stands.fit

pub returns-in-Ok : goal.returns-in-Ok
returns-in-Ok c = λ p h. c.in-Ok.ensures p (c.new-log.ensures.stands p (c.in_ok-finish.ensures p h.place))

pub returns-in-Err : goal.returns-in-Err
returns-in-Err c = λ p h.
    same_stop p c.args.line.now (StandsAtLog c.line.new.self) c.in-Err.stop (c.in-Err.ensures p (c.new-log.ensures.stands p (c.in_ok-finish.ensures p h.place)))
