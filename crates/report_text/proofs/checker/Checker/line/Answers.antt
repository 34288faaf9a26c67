use Rattle.std.proofs.Common.{subst}
use Rattle.report_text.specs.declared.checker.Checker.{Checker}
use Rattle.report_text.specs.Checker.{Stands, IsFit, IsOver}
use Rattle.report_text.proofs.checker.Checker.line.Goals as goal

pub answer_line-requires : goal.answer_line-requires
answer_line-requires c = subst IsFit c.in-Answer.is c.requires.fit

pub log_line-requires-clause-due : goal.log_line-requires-clause-due
log_line-requires-clause-due c = subst (λ (k : Checker). IsOver k → ⊥) c.in-Log.is c.requires.over

pub log_line-requires-clause-fit : goal.log_line-requires-clause-fit
log_line-requires-clause-fit c = subst IsFit c.in-Log.is c.requires.fit

pub returns-in-Front : goal.returns-in-Front
returns-in-Front c = λ p h. c.front_line.ensures p (subst (λ (k : Checker). Stands k p) c.in-Front.is h)

pub returns-in-Answer : goal.returns-in-Answer
returns-in-Answer c = λ p h. c.answer_line.ensures p (subst (λ (k : Checker). Stands k p) c.in-Answer.is h)

pub returns-in-Log : goal.returns-in-Log
returns-in-Log c = λ p h. c.log_line.ensures p (subst (λ (k : Checker). Stands k p) c.in-Log.is h)
