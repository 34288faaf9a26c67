-- What `merge` reports is accepted.
use Rattle.std.proofs.Common.{◌≡◌, ◌≢◌, ℕ, Bool, List, subst, refl, arith}
use Rattle.merge_model.specs.declared.answer.Answer.{Answer}
use Rattle.merge_model.specs.declared.answer.Answer.TheVariants.{Merged, Inconsistent, GaveUp}
use Rattle.merge_model.specs.declared.problem.Problem.{Problem}
use Rattle.merge_model.specs.Answers.{IsRight, IsNamed}
use Rattle.report_lines.specs.declared.kinds.Kind.{Kind}
use Rattle.report_lines.specs.declared.kinds.Kind.TheVariants as kind
use Rattle.report_lines.specs.Judged.{IsAccepted}
use Rattle.report_lines.specs.Parts.{Asked, kind_of_answer}
use Rattle.report_lines.specs.Places.{end_number}
use Rattle.report_text.proofs.WrittenWhole.{accepted_law, spent_law}
use Rattle.merge_cli.specs.List.{Listing, ListAnswers, reported_by, bad_after, listed, lacking, spent}
use Rattle.merge_cli.specs.Merge.{MergeAnswers, merged, inconsistent, gave_up}

module _ (dist : List Bool → List Bool → ℕ) (rank : List ℕ → List ℕ) (problem : Problem) where
  merges : (answer : Answer) → IsRight dist rank problem answer → kind_of_answer answer ≡ kind.Merged
  merges (Merged best measure verdicts) right = refl
  merges (Inconsistent constraint agents) right = absurd right
  merges GaveUp right = absurd right

names : (problem : Problem) (answer : Answer) → IsNamed problem answer → kind_of_answer answer ≡ kind.Inconsistent
names problem (Merged best measure verdicts) named = absurd named
names problem (Inconsistent constraint agents) named = refl
names problem GaveUp named = absurd named

-- the status of a report is that on its last line
pub row_accepted : (asked : Asked) (problem : Problem) (status : ℕ) (text : List ℕ) (k : Kind) → MergeAnswers asked problem status text → status ≡ end_number k
    → IsAccepted text k
row_accepted asked p s text kind.Merged (merged status reports) is =
    subst (λ (k : Kind). IsAccepted text k) (merges _ _ p reports.parts.answer reports.right) (accepted_law text asked reports.parts reports.report reports.accepted)
row_accepted asked p s text kind.Inconsistent (inconsistent status reports) is =
    subst (λ (k : Kind). IsAccepted text k) (names p reports.parts.answer reports.named) (accepted_law text asked reports.parts reports.report reports.accepted)
row_accepted asked p s text kind.Spent (gave_up status reports) is = spent_law text asked reports.parts reports.report reports.spent
row_accepted asked p s text kind.Inconsistent (merged status reports) is = absurd (omega arith)
row_accepted asked p s text kind.Spent (merged status reports) is = absurd (omega arith)
row_accepted asked p s text kind.Merged (inconsistent status reports) is = absurd (omega arith)
row_accepted asked p s text kind.Spent (inconsistent status reports) is = absurd (omega arith)
row_accepted asked p s text kind.Merged (gave_up status reports) is = absurd (omega arith)
row_accepted asked p s text kind.Inconsistent (gave_up status reports) is = absurd (omega arith)

-- so is what `list` reports, which is no merge
pub list_accepted : (asked : Listing) (problem : Problem) (status : ℕ) (text : List ℕ) (k : Kind) → k ≢ kind.Merged → ListAnswers asked problem status text → status ≡ end_number k
    → IsAccepted text k
list_accepted asked p s text kind.Merged other row is = absurd (other refl)
list_accepted asked p s text kind.Inconsistent other (lacking fits status reports) is = row_accepted (reported_by asked) p s text kind.Inconsistent (inconsistent status reports) is
list_accepted asked p s text kind.Spent other (spent fits status reports) is = row_accepted (reported_by asked) p s text kind.Spent (gave_up status reports) is
list_accepted asked p s text kind.Inconsistent other (bad_after misfits status said) is = absurd (omega arith)
list_accepted asked p s text kind.Inconsistent other (listed fits status lists) is = absurd (omega arith)
list_accepted asked p s text kind.Inconsistent other (spent fits status reports) is = absurd (omega arith)
list_accepted asked p s text kind.Spent other (bad_after misfits status said) is = absurd (omega arith)
list_accepted asked p s text kind.Spent other (listed fits status lists) is = absurd (omega arith)
list_accepted asked p s text kind.Spent other (lacking fits status reports) is = absurd (omega arith)

-- no report has another status
pub record IsReported (status : ℕ) : Type 0 where
  pub not_refused : status ≢ 1
  pub not_read : status ≢ 4
  pub not_written : status ≢ 5
  pub not_memory : status ≢ 6

pub is_reported : (k : Kind) (status : ℕ) → status ≡ end_number k → IsReported status
is_reported kind.Merged s is = record { not_refused = λ e. omega arith; not_read = λ e. omega arith; not_written = λ e. omega arith; not_memory = λ e. omega arith }
is_reported kind.Inconsistent s is = record { not_refused = λ e. omega arith; not_read = λ e. omega arith; not_written = λ e. omega arith; not_memory = λ e. omega arith }
is_reported kind.Spent s is = record { not_refused = λ e. omega arith; not_read = λ e. omega arith; not_written = λ e. omega arith; not_memory = λ e. omega arith }
