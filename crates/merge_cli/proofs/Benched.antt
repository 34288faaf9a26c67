-- The reply of a bench.
use Rattle.std.proofs.Common.{◌≡◌, ℕ, Bool, List, [], refl, subst, sym, ap, ◌∙◌, arith}
use Rattle.std.specs.Prelude.{Result, Ok, Err, IfOk, Option, None, Some}
use Rattle.std.specs.Io.KnownBytes.{Consumes}
use Rattle.edge.specs.Streams.{Gave}
use Rattle.merge_model.specs.declared.answer.Answer.{Answer}
use Rattle.merge_model.specs.declared.answer.Answer.TheVariants.{Merged, Inconsistent}
use Rattle.merge_model.specs.declared.answer.Shown.{Shown}
use Rattle.merge_model.specs.declared.answer.Verdict.{Verdict}
use Rattle.merge_model.specs.declared.operator.AggregatorName.{AggregatorName}
use Rattle.merge_model.specs.declared.operator.AggregatorName.TheVariants.{Leximax}
use Rattle.merge_model.specs.declared.operator.DistanceName.{DistanceName}
use Rattle.merge_model.specs.declared.operator.DistanceName.TheVariants.{Hamming}
use Rattle.merge_model.specs.declared.problem.Problem.{Problem}
use Rattle.merge_model.specs.Answers.{dist_named, rank_named, profile_of, IsRight, IsNamed}
use Rattle.merge_model.specs.Merging.{LacksModel}
use Rattle.bench_problem.specs.Bench.{IsBench, draws_of}
use Rattle.bench_problem.specs.Draws.{state_after}
use Rattle.bench_problem.proofs.BenchLaws.{has_models}
use Rattle.report_lines.specs.declared.report.Report.{Report}
use Rattle.merge_reports.specs.BorneOut.{IsTruthfulBy}
use Rattle.merge_cli.specs.declared.commands.Command.{Command}
use Rattle.merge_cli.specs.declared.commands.Command.TheVariants.{Bench}
use Rattle.merge_cli.specs.declared.reply.Reply.{Reply}
use Rattle.merge_cli.specs.Answers.{Answered, CommandAnswers}
use Rattle.merge_cli.specs.Bench.{BenchAnswers, bench_asked, bench_text, benched}
use Rattle.merge_cli.specs.Bench as bench
use Rattle.merge_cli.specs.Merge.{MergeAnswers, merged, inconsistent, gave_up}
use Rattle.merge_cli.proofs.Problems.{named_has}

-- no bench problem lacks a model
no_lack : (number : ℕ) (problem : Problem) → IsBench number problem → LacksModel (profile_of problem) → ⊥
no_lack n p is = has_models n (state_after n (draws_of 16)) p is.atoms is.constraint is.agents

-- the report on a bench problem names no formula
pub names_none : (number : ℕ) (report : Report) (constraint : Option (List Bool)) (agents : List (Option (List Bool))) → IsBench number report.problem
    → IsTruthfulBy report report.answer → report.answer ≡ Inconsistent constraint agents → ⊥
names_none n report constraint agents is truth said =
    let named : IsNamed report.problem report.answer = subst (λ (a : Answer). IsTruthfulBy report a) said truth in
    no_lack n report.problem is (named_has report.problem report.answer named)

-- the measure and the verdicts of a report on a bench problem
pub bench_answered : (number : ℕ) (report : Report) (best : Shown) (measure ms : List ℕ) (verdicts vs : List Verdict) (text : List ℕ)
    → IsBench number report.problem → report.distance ≡ Hamming → report.aggregator ≡ Leximax → IsTruthfulBy report report.answer
    → report.answer ≡ Merged best measure verdicts → ms ≡ measure → vs ≡ verdicts → text ≡ bench_text number ms vs → BenchAnswers number 0 text
bench_answered n report best measure ms verdicts vs text is distance aggregator truth said numbers judged spelled =
    let p = report.problem in
    let right : IsRight (dist_named report.distance p.atoms) (rank_named report.aggregator) p report.answer =
    subst (λ (a : Answer). IsTruthfulBy report a) said truth in
    let P : DistanceName → Type 0 = λ d. IsRight (dist_named d p.atoms) (rank_named report.aggregator) p report.answer in
    let Q : AggregatorName → Type 0 = λ a. IsRight (dist_named Hamming p.atoms) (rank_named a) p report.answer in
    let S : Answer → Type 0 = λ a. IsRight (dist_named Hamming p.atoms) (rank_named Leximax) p a in
    benched p is refl (record {
      best = best;
      measure = measure;
      verdicts = verdicts;
      right = subst S said (subst Q aggregator (subst P distance right));
      spelled = spelled ∙ ap (λ (k : List ℕ). bench_text n k vs) numbers ∙ ap (λ (w : List Verdict). bench_text n measure w) judged;
    })

-- the report of a bench that gave up
spent_row : (number : ℕ) (problem : Problem) (status : ℕ) (text : List ℕ) → IsBench number problem → MergeAnswers bench_asked problem status text
    → status ≡ 3 → BenchAnswers number status text
spent_row n p s t is (merged status reports) three = absurd (omega arith)
spent_row n p s t is (inconsistent status reports) three = absurd (omega arith)
spent_row n p s t is (gave_up status reports) three = bench.gave_up p is status reports

pub bench_spent : {E : Type 0} (number : ℕ) (problem : Problem) (result : Result Reply E) → IsBench number problem
    → IfOk result (λ reply. MergeAnswers bench_asked problem reply.status reply.text.items) → IfOk result (λ reply. reply.status ≡ 3)
    → IfOk result (λ reply. BenchAnswers number reply.status reply.text.items)
bench_spent n p (Ok reply) is row three = spent_row n p reply.status reply.text.items is row three
bench_spent n p (Err stop) is row three = tt

-- a bench reads nothing
keeps_known : (left : Option (List ℕ)) → Consumes left left []
keeps_known None = tt
keeps_known (Some bytes) = refl

pub answered_unread : (command : Command) (number : ℕ) (left : Option (List ℕ)) (room status : ℕ) (text : List ℕ) → command ≡ Bench number
    → BenchAnswers number status text → Answered (CommandAnswers command) left left room room status text
answered_unread command n left room s t is row =
    let P : Command → Type 0 = λ c. Answered (CommandAnswers c) left left room room s t in
    let nothing : Gave left left room room [] = record { known = keeps_known left; count = omega arith } in
    subst P (sym is) (record { read = []; gave = nothing; answers = (refl, row) })
