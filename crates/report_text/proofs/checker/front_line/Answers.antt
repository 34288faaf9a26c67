use Rattle.std.proofs.Common.{sym, ◌∙◌}
use Rattle.report_text.specs.Front.{StandsAtFront}
use Rattle.report_text.proofs.CheckerFacts.{same_stop}
use Rattle.report_text.proofs.checker.front_line.Goals as goal

pub first_answer-requires-clause-due : goal.first_answer-requires-clause-due
first_answer-requires-clause-due c = c.takes.ensures.answer c.if-not-takes.true

pub first_answer-requires-clause-only : goal.first_answer-requires-clause-only
first_answer-requires-clause-only c = c.takes.ensures.only c.if-not-takes.true

pub line-requires : goal.line-requires
line-requires c = sym c.takes.ensures.test ∙ c.if-not-takes.false

pub returns-then-not-takes : goal.returns-then-not-takes
returns-then-not-takes c = c.first_answer.ensures

pub returns-in-Ok : goal.returns-in-Ok
returns-in-Ok c = λ p h. c.in-Ok.ensures p h

pub returns-in-Err : goal.returns-in-Err
returns-in-Err c = λ p h. same_stop p c.args.line.now (StandsAtFront c.line.new.self) c.in-Err.stop (c.in-Err.ensures p h)
