-- What is answered to a problem, and to what was read.
use Rattle.std.proofs.Common.{◌≡◌, ℕ, List, subst, ap, ◌∙◌, refl, arith}
use Rattle.std.specs.Prelude.{Result, Ok, Err, IfOk}
use Rattle.merge_model.specs.declared.operator.DistanceName.{DistanceName}
use Rattle.merge_model.specs.declared.operator.AggregatorName.{AggregatorName}
use Rattle.merge_model.specs.declared.answer.Answer.{Answer}
use Rattle.merge_model.specs.declared.answer.Answer.TheVariants.{Merged, Inconsistent, GaveUp}
use Rattle.merge_model.specs.declared.problem.Problem.{Problem}
use Rattle.merge_model.specs.Answers.{dist_named, rank_named, profile_of, IsRight, IsNamed}
use Rattle.merge_model.specs.Merging.{LacksModel}
use Rattle.merge_model.proofs.Namings.{names_lack, right_has}
use Rattle.problem_reading.specs.declared.stop.TextStop.{TextStop}
use Rattle.problem_reading.specs.declared.stop.TextStop.TheVariants.{Fault, NoMemory}
use Rattle.problem_reading.specs.Spelling.{Spelled, StopsText}
use Rattle.report_lines.specs.declared.report.Report.{Report}
use Rattle.report_lines.specs.Parts.{Asked, HasForm, report_text}
use Rattle.report_lines.specs.Reports.{asked_in, parts_in}
use Rattle.merge_reports.specs.BorneOut.{IsBorneOutBy, IsTruthfulBy}
use Rattle.merge_reports.specs.Trimmed.{IsTrimmedBy, IsTrimmedReport}
use Rattle.merge_cli.specs.declared.reply.Reply.{Reply}
use Rattle.merge_cli.specs.Merge.{MergeAnswers, status_of, merged, inconsistent, gave_up}
use Rattle.merge_cli.specs.Refusals.{SaysStop}
use Rattle.merge_cli.specs.Rows.{ProblemTextAnswers, refused, of_problem}

-- the report on a problem answers it
answered_by : (report : Report) (answer : Answer) (status : ℕ) (text : List ℕ) → HasForm (asked_in report) (parts_in report)
    → IsBorneOutBy (asked_in report) (parts_in report) answer → IsTruthfulBy report answer → IsTrimmedBy (asked_in report) (parts_in report) answer
    → status ≡ status_of answer → text ≡ report_text (asked_in report) (parts_in report)
    → MergeAnswers (asked_in report) report.problem status text
answered_by report (Merged best measure verdicts) s t form borne_out truth trimmed status text =
    merged status (record {
      parts = parts_in report;
      report = record { form = form; spelled = text };
      subject = refl;
      accepted = borne_out;
      trimmed = trimmed;
      right = truth;
    })
answered_by report (Inconsistent constraint agents) s t form borne_out truth trimmed status text =
    inconsistent status (record {
      parts = parts_in report;
      report = record { form = form; spelled = text };
      subject = refl;
      accepted = borne_out;
      trimmed = trimmed;
      named = truth;
    })
answered_by report GaveUp s t form borne_out truth trimmed status text =
    gave_up status (record {
      parts = parts_in report;
      report = record { form = form; spelled = text };
      subject = refl;
      spent = borne_out.0;
      few = borne_out.1;
    })

asked_by : DistanceName → AggregatorName → ℕ → Asked
asked_by distance aggregator conflicts = record { distance = distance; aggregator = aggregator; conflicts = conflicts }

same_asked : (d e : DistanceName) (a f : AggregatorName) (b c : ℕ) → d ≡ e → a ≡ f → b ≡ c → asked_by d a b ≡ asked_by e f c
same_asked d e a f b c distance aggregator conflicts =
    ap (λ (n : DistanceName). asked_by n a b) distance ∙ ap (λ (n : AggregatorName). asked_by e n b) aggregator ∙ ap (λ (n : ℕ). asked_by e f n) conflicts

pub merge_answered : {E : Type 0} (distance : DistanceName) (aggregator : AggregatorName) (conflicts : ℕ) (problem : Problem) (report : Report) (result : Result Reply E)
    → report.distance ≡ distance → report.aggregator ≡ aggregator → report.conflicts ≡ conflicts → report.problem ≡ problem
    → HasForm (asked_in report) (parts_in report) → IsBorneOutBy (asked_in report) (parts_in report) report.answer → IsTruthfulBy report report.answer → IsTrimmedReport report
    → IfOk result (λ reply. reply.status ≡ status_of report.answer) → IfOk result (λ reply. reply.text.items ≡ report_text (asked_in report) (parts_in report))
    → IfOk result (λ reply. MergeAnswers (record { distance = distance; aggregator = aggregator; conflicts = conflicts }) problem reply.status reply.text.items)
unfolding asked_by
merge_answered d a b p report (Ok reply) distance aggregator conflicts problem form borne_out truth trimmed status text =
    let s = reply.status in
    let t = reply.text.items in
    let P : Asked → Type 0 = λ asked. MergeAnswers asked p s t in
    let Q : Problem → Type 0 = λ q. MergeAnswers (asked_in report) q s t in
    subst P (same_asked report.distance d report.aggregator a report.conflicts b distance aggregator conflicts)
    (subst Q problem (answered_by report report.answer s t form borne_out truth trimmed status text))
merge_answered d a b p report (Err stop) distance aggregator conflicts problem form borne_out truth trimmed status text = tt

-- a text that spells a problem is answered as the problem is, and another by its first fault
module _ {E : Type 0} (answers : Problem → ℕ → List ℕ → Type 0) (read : List ℕ) where
  pub problem_answered : (problem : Problem) (result : Result Reply E) → Spelled read problem
      → IfOk result (λ reply. answers problem reply.status reply.text.items)
      → IfOk result (λ reply. ProblemTextAnswers answers read reply.status reply.text.items)
  problem_answered problem (Ok reply) spelled row = of_problem problem spelled row
  problem_answered problem (Err stop) spelled row = tt

  pub stop_answered : (stop : TextStop) (result : Result Reply E) → StopsText read stop
      → IfOk result (λ reply. SaysStop stop reply.status reply.text.items)
      → IfOk result (λ reply. ProblemTextAnswers answers read reply.status reply.text.items)
  stop_answered (Fault fault) (Ok reply) is says = refused fault is says.0 says.1
  stop_answered NoMemory (Ok reply) is says = absurd says
  stop_answered stop (Err refusal) is says = tt

-- a problem that is said to lack a model lacks one, and one that is merged lacks none
pub named_has : (problem : Problem) (answer : Answer) → IsNamed problem answer → LacksModel (profile_of problem)
named_has p (Merged best measure verdicts) named = absurd named
named_has p (Inconsistent constraint agents) named = names_lack (profile_of p) constraint agents named
named_has p GaveUp named = absurd named

right_lacks_none : (distance : DistanceName) (aggregator : AggregatorName) (problem : Problem) (answer : Answer)
    → IsRight (dist_named distance problem.atoms) (rank_named aggregator) problem answer → LacksModel (profile_of problem) → ⊥
right_lacks_none d a p (Merged best measure verdicts) right lacks =
    right_has (dist_named d p.atoms) (rank_named a) (profile_of p) p.asks best measure verdicts right lacks
right_lacks_none d a p (Inconsistent constraint agents) right lacks = right
right_lacks_none d a p GaveUp right lacks = right

pub merge_lacks : (asked : Asked) (problem : Problem) (status : ℕ) (text : List ℕ)
    → MergeAnswers asked problem status text → status ≡ 8 → LacksModel (profile_of problem)
merge_lacks asked p s text (merged status reports) eight = absurd (omega arith)
merge_lacks asked p s text (gave_up status reports) eight = absurd (omega arith)
merge_lacks asked p s text (inconsistent status reports) eight = named_has p reports.parts.answer reports.named

pub merge_lacks_none : (asked : Asked) (problem : Problem) (status : ℕ) (text : List ℕ)
    → MergeAnswers asked problem status text → status ≡ 0 → LacksModel (profile_of problem) → ⊥
merge_lacks_none asked p s text (inconsistent status reports) none lacks = absurd (omega arith)
merge_lacks_none asked p s text (gave_up status reports) none lacks = absurd (omega arith)
merge_lacks_none asked p s text (merged status reports) none lacks =
    right_lacks_none asked.distance asked.aggregator p reports.parts.answer reports.right lacks
