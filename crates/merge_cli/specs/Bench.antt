-- What `bench` answers.
use Rattle.std.specs.Prelude.{◌≡◌, ℕ, ◌+◌, Bool, true, false, List, [], ◌∷◌, ◌++◌, codes, decimal}
use Rattle.merge_model.specs.declared.answer.Answer.TheVariants.{Merged}
use Rattle.merge_model.specs.declared.answer.Shown.{Shown}
use Rattle.merge_model.specs.declared.answer.Verdict.{Verdict}
use Rattle.merge_model.specs.declared.answer.Verdict.TheVariants.{Yes, No}
use Rattle.merge_model.specs.declared.operator.AggregatorName.TheVariants.{Leximax}
use Rattle.merge_model.specs.declared.operator.DistanceName.TheVariants.{Hamming}
use Rattle.merge_model.specs.declared.problem.Problem.{Problem}
use Rattle.merge_model.specs.Answers.{dist_named, rank_named, IsRight}
use Rattle.bench_problem.specs.Bench.{IsBench}
use Rattle.report_words.specs.Words.{line_of}
use Rattle.report_lines.specs.Items.{Item, MeasureLine, VerdictLine}
use Rattle.report_lines.specs.Parts.{Asked, items_text}
use Rattle.merge_cli.specs.Commands.{usual_conflicts}
use Rattle.merge_cli.specs.Merge.{ReportsSpent}

-- what a bench merges under
abbrev pub bench_asked : Asked
bench_asked = record { distance = Hamming; aggregator = Leximax; conflicts = usual_conflicts }

abbrev pub is_yes : Verdict → Bool
is_yes Yes = true
is_yes (No shown) = false

-- the verdicts on the queries from q on, without the valuations that show a no
abbrev pub verdict_lines : ℕ → List Verdict → List Item
verdict_lines q [] = []
verdict_lines q (verdict ∷ verdicts) = VerdictLine q (is_yes verdict) ∷ verdict_lines (q + 1) verdicts

-- the number of the problem, the measure, and each verdict
abbrev pub bench_text : ℕ → List ℕ → List Verdict → List ℕ
bench_text number measure verdicts =
    line_of (codes "bench" ∷ decimal number ∷ []) ++ codes "\n" ++ items_text (MeasureLine measure ∷ verdict_lines 0 verdicts)

-- the text tells the measure and the verdicts of a right merge of the problem
pub record Benches (number : ℕ) (problem : Problem) (text : List ℕ) : Type 0 where
  pub best : Shown
  pub measure : List ℕ
  pub verdicts : List Verdict
  pub right : IsRight (dist_named Hamming problem.atoms) (rank_named Leximax) problem (Merged best measure verdicts)
  pub spelled : text ≡ bench_text number measure verdicts

-- the answers to a bench with this number
pub data BenchAnswers (number : ℕ) (status : ℕ) (text : List ℕ) : Type 0 where
  benched : (problem : Problem) → IsBench number problem → status ≡ 0 → Benches number problem text → BenchAnswers number status text
  gave_up : (problem : Problem) → IsBench number problem → status ≡ 3 → ReportsSpent bench_asked problem text → BenchAnswers number status text
