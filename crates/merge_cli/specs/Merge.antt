-- What `merge` answers to a problem.
use Rattle.std.specs.Prelude.{◌≡◌, ℕ, ◌<◌, ◌^◌, List}
use Rattle.merge_model.specs.declared.answer.Answer.{Answer}
use Rattle.merge_model.specs.declared.answer.Answer.TheVariants.{Merged, Inconsistent, GaveUp}
use Rattle.merge_model.specs.declared.problem.Problem.{Problem}
use Rattle.merge_model.specs.Answers.{dist_named, rank_named, IsRight, IsNamed}
use Rattle.derivation_log.specs.Trimming.{AreUsed}
use Rattle.report_lines.specs.Accepted.{Parts, AreAccepted, log_of, main_of}
use Rattle.report_lines.specs.Operators.{operator_named}
use Rattle.report_lines.specs.Parts.{Asked, operator_of, HasParts, AreSpent}

-- the status that tells what an answer is
abbrev pub status_of : Answer → ℕ
status_of (Merged best measure verdicts) = 0
status_of (Inconsistent constraint agents) = 8
status_of GaveUp = 3

-- how many variables the main clauses of the problem have
abbrev pub main_vars : Asked → Problem → ℕ
main_vars asked problem = (main_of (operator_named asked.distance asked.aggregator problem.atoms) problem).vars

-- each step of the parts is named by a line that shows a claim, or a later step uses it
abbrev pub AreTrimmed : Asked → Parts → Type 0
AreTrimmed asked parts = AreUsed (log_of (operator_of asked parts) parts) parts.shown

-- the text is an accepted report of a right merge of the problem
pub record ReportsMerge (asked : Asked) (problem : Problem) (text : List ℕ) : Type 0 where
  pub parts : Parts
  pub report : HasParts text asked parts
  pub subject : parts.problem ≡ problem
  pub accepted : AreAccepted (operator_of asked parts) parts
  pub trimmed : AreTrimmed asked parts
  pub right : IsRight (dist_named asked.distance problem.atoms) (rank_named asked.aggregator) problem parts.answer

-- the text is an accepted report of which formulas of the problem have a model and which have none
pub record ReportsLack (asked : Asked) (problem : Problem) (text : List ℕ) : Type 0 where
  pub parts : Parts
  pub report : HasParts text asked parts
  pub subject : parts.problem ≡ problem
  pub accepted : AreAccepted (operator_of asked parts) parts
  pub trimmed : AreTrimmed asked parts
  pub named : IsNamed problem parts.answer

-- the text is the report of a search on the problem that learned as many steps as it was given, which are fewer than the
-- clauses that there are
pub record ReportsSpent (asked : Asked) (problem : Problem) (text : List ℕ) : Type 0 where
  pub parts : Parts
  pub report : HasParts text asked parts
  pub subject : parts.problem ≡ problem
  pub spent : AreSpent asked parts
  pub few : asked.conflicts < 3 ^ main_vars asked problem

-- the answers to a problem
pub data MergeAnswers (asked : Asked) (problem : Problem) (status : ℕ) (text : List ℕ) : Type 0 where
  merged : status ≡ 0 → ReportsMerge asked problem text → MergeAnswers asked problem status text
  inconsistent : status ≡ 8 → ReportsLack asked problem text → MergeAnswers asked problem status text
  gave_up : status ≡ 3 → ReportsSpent asked problem text → MergeAnswers asked problem status text
