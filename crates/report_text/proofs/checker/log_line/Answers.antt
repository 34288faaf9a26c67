use Rattle.report_text.specs.Logging.{StandsAtLog}
use Rattle.report_text.proofs.CheckerFacts.{same_stop}
use Rattle.report_text.proofs.checker.log_line.Goals as goal

pub line-requires-clause-due : goal.line-requires-clause-due
line-requires-clause-due c = c.requires.due

pub line-requires-clause-fit : goal.line-requires-clause-fit
line-requires-clause-fit c = c.requires.fit

pub returns-in-Ok : goal.returns-in-Ok
returns-in-Ok c = λ p h. c.in-Ok.ensures p h

pub returns-in-Err : goal.returns-in-Err
returns-in-Err c = λ p h. same_stop p c.args.line.now (StandsAtLog c.line.new.self) c.in-Err.stop (c.in-Err.ensures p h)
