use Rattle.std.proofs.Common.{subst}
use Rattle.report_text.specs.Checker.{Stands, IsOver}
use Rattle.report_text.specs.declared.checker.Checker.{Checker}
use Rattle.report_text.proofs.CheckerPlaces.{goes_on, log_outcome}
use Rattle.report_text.proofs.checker.Checker.outcome.Goals as goal

pub returns-in-Front : goal.returns-in-Front
returns-in-Front c = λ p h. goes_on c.args.self.now p (λ over. subst IsOver c.in-Front.is over) h

pub returns-in-Answer : goal.returns-in-Answer
returns-in-Answer c = λ p h. goes_on c.args.self.now p (λ over. subst IsOver c.in-Answer.is over) h

pub returns-in-Log : goal.returns-in-Log
returns-in-Log c = λ p h. log_outcome c.in-Log.log p c.outcome.result (subst (λ (k : Checker). Stands k p) c.in-Log.is h) c.outcome.ensures
