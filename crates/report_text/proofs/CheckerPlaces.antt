-- Where checkers stand.
use Rattle.std.proofs.Common.{◌≡◌, ◌≢◌, refl, sym, ap, subst, ◌∙◌, Option, None, Some}
use Rattle.std.specs.Prelude.{MatchOption}
use Rattle.report_lines.specs.declared.kinds.Kind.{Kind}
use Rattle.report_text.specs.declared.logging.Logging.{Logging}
use Rattle.report_lines.specs.declared.kinds.Due.{Due}
use Rattle.report_lines.specs.declared.kinds.Due.TheVariants as due
use Rattle.report_lines.specs.Places.{Position}
use Rattle.report_text.specs.declared.checker.Checker.{Checker}
use Rattle.report_text.specs.declared.checker.Checker.TheVariants as checkers
use Rattle.report_text.specs.declared.front.FrontDue.{FrontDue}
use Rattle.report_text.specs.declared.front.FrontDue.TheVariants as front
use Rattle.report_text.specs.declared.logging.LogDue.{LogDue}
use Rattle.report_text.specs.declared.logging.LogDue.TheVariants as log
use Rattle.report_text.specs.Answering as answering
use Rattle.report_text.specs.Front.{due_of}
use Rattle.report_text.specs.Logging.{due_at, StandsAtLog}
use Rattle.report_text.specs.Checker.{Stands, IsFit, IsOver, IsOutcome}

front_open : (d : FrontDue) → due_of d ≡ due.Over → ⊥
front_open front.Head e = cc
front_open front.Distance e = cc
front_open front.Aggregator e = cc
front_open front.Conflicts e = cc
front_open front.Atoms e = cc
front_open front.Constraint e = cc
front_open front.FirstAgent e = cc
front_open front.Agents e = cc
front_open front.Asks e = cc

log_over : (d : LogDue) → due_at d ≡ due.Over → d ≡ log.Over
log_over log.Main e = absurd (cc)
log_over log.Log e = absurd (cc)
log_over log.Proofs e = absurd (cc)
log_over log.Over e = refl

pub is_over : (checker : Checker) (p : Position) → Stands checker p → p.due ≡ due.Over → IsOver checker
is_over (checkers.Front f) p h e = absurd (front_open f.due (sym (ap (λ (q : Position). q.due) h.place) ∙ e))
is_over (checkers.Answer a) p h e =
    let over : a.due ≡ due.Over = sym (ap (λ (q : Position). q.due) h.place) ∙ e in
    absurd (subst (λ (d : Due). answering.FitsAt d a) over h.fit.place)
is_over (checkers.Log l) p h e = log_over l.due (sym h.due ∙ e)

pub over_due : (checker : Checker) (p : Position) → Stands checker p → IsOver checker → p.due ≡ due.Over
over_due (checkers.Front f) p h over = absurd over
over_due (checkers.Answer a) p h over = absurd over
over_due (checkers.Log l) p h over = h.due ∙ ap due_at over

pub is_fit : (checker : Checker) (p : Position) → Stands checker p → IsFit checker
is_fit (checkers.Front f) p h = tt
is_fit (checkers.Answer a) p h = h.fit
is_fit (checkers.Log l) p h = h.fit

pub goes_on : (checker : Checker) (p : Position) → (IsOver checker → ⊥) → Stands checker p → p.due ≢ due.Over
goes_on checker p not_over h e = not_over (is_over checker p h e)

-- what the log says of the end is so of the place
pub log_outcome : (l : Logging) (p : Position) (r : Option Kind) → StandsAtLog l p → MatchOption r (l.due ≢ log.Over) (λ k. (l.due ≡ log.Over) × (k ≡ l.kind)) → IsOutcome p r
log_outcome l p None h r = λ e. r (log_over l.due (sym h.due ∙ e))
log_outcome l p (Some k) h r = (h.due ∙ ap due_at r.0, r.1 ∙ sym h.kind)
