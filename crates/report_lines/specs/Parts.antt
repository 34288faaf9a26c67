-- The parts of a report, and its lines by them.
use Rattle.std.specs.Prelude.{◌≡◌, ℕ, ◌+◌, ◌≤◌, Bool, true, false, List, [], ◌∷◌, ◌++◌, length, map, All, Option, None, Some, MatchOption}
use Rattle.merge_model.specs.declared.answer.Answer.{Answer}
use Rattle.merge_model.specs.declared.answer.Answer.TheVariants.{Merged, Inconsistent, GaveUp}
use Rattle.merge_model.specs.declared.answer.Shown.{Shown}
use Rattle.merge_model.specs.declared.answer.Verdict.{Verdict}
use Rattle.merge_model.specs.declared.answer.Verdict.TheVariants.{Yes, No}
use Rattle.merge_model.specs.declared.operator.AggregatorName.{AggregatorName}
use Rattle.merge_model.specs.declared.operator.DistanceName.{DistanceName}
use Rattle.merge_model.specs.Answers.{profile_of}
use Rattle.merge_model.specs.Merging.{repeated}
use Rattle.derivation_log.specs.declared.step.Step.{Step}
use Rattle.derivation_log.specs.Logs.{is_learned, IsSound}
use Rattle.derivation_log.specs.StepLines.{step_line, HasLine}
use Rattle.log_lines.specs.Spending.{Noted, is_spent}
use Rattle.profile_text.specs.ProblemText.{problem_lines, lines_text}
use Rattle.report_words.specs.Numbers.{HasNumeral}
use Rattle.report_lines.specs.declared.kinds.Kind.{Kind}
use Rattle.report_lines.specs.declared.kinds.Kind.TheVariants as kind
use Rattle.report_lines.specs.declared.kinds.Subject.{Subject}
use Rattle.report_lines.specs.declared.kinds.Subject.TheVariants.{TheConstraint, BaseOf}
use Rattle.report_lines.specs.ClaimsDue.{DueClaim, claims_due}
use Rattle.report_lines.specs.Items.{Item, HeadLine, DistanceLine, AggregatorLine, ConflictsLine, ProblemLine, ModelLine, VectorLine, NearestLine, MeasureLine, VerdictLine, NoModelLine, HasModelLine, GaveUpLine, MainLine, LogLine, ShownLine, EndLine, item_line}
use Rattle.report_lines.specs.Places.{end_number, conflict_limit}
use Rattle.report_lines.specs.Accepted.{Operator, Parts, log_of, values_in}
use Rattle.report_lines.specs.Operators.{operator_named}

-- what was asked beside the problem
pub record Asked : Type 0 where
  pub distance : DistanceName
  pub aggregator : AggregatorName
  pub conflicts : ℕ

-- what the distance and the aggregator that were asked for mean
abbrev pub operator_of : Asked → Parts → Operator
operator_of asked r = operator_named asked.distance asked.aggregator r.problem.atoms

-- the claims that are due for its answer
abbrev pub claims_of : Asked → Parts → List DueClaim
claims_of asked r = claims_due (values_in (operator_of asked r) (profile_of r.problem)) r.answer

abbrev pub kind_of_answer : Answer → Kind
kind_of_answer (Merged best measure verdicts) = kind.Merged
kind_of_answer (Inconsistent constraint agents) = kind.Inconsistent
kind_of_answer GaveUp = kind.Spent

-- a valuation, its distances and the nearest models
abbrev pub shown_items : Shown → List Item
shown_items shown = ModelLine shown.model ∷ VectorLine shown.vector ∷ NearestLine shown.nearest ∷ []

-- the verdicts on the queries from q on
abbrev pub verdict_items : ℕ → List Verdict → List Item
verdict_items q [] = []
verdict_items q (Yes ∷ verdicts) = VerdictLine q true ∷ verdict_items (q + 1) verdicts
verdict_items q (No shown ∷ verdicts) = VerdictLine q false ∷ (shown_items shown ++ verdict_items (q + 1) verdicts)

-- the model of a formula, or that it has none
abbrev pub named_item : Subject → Option (List Bool) → Item
named_item s None = NoModelLine s
named_item s (Some w) = HasModelLine s w

-- so of the bases of the agents from i on
abbrev pub base_items : ℕ → List (Option (List Bool)) → List Item
base_items i [] = []
base_items i (entry ∷ entries) = named_item (BaseOf i) entry ∷ base_items (i + 1) entries

abbrev pub answer_items : Answer → List Item
answer_items (Merged best measure verdicts) = shown_items best ++ MeasureLine measure ∷ verdict_items 0 verdicts
answer_items (Inconsistent constraint agents) = named_item TheConstraint constraint ∷ base_items 0 agents
answer_items GaveUp = GaveUpLine ∷ []

-- the steps, numbered from n on
abbrev pub step_items : ℕ → List Step → List Item
step_items n [] = []
step_items n (step ∷ steps) = LogLine (step_line n step) ∷ step_items (n + 1) steps

-- each claim with the number of its step, as far as both go
abbrev pub shown_claims : List DueClaim → List ℕ → List Item
shown_claims [] numbers = []
shown_claims (claim ∷ claims) [] = []
shown_claims (claim ∷ claims) (n ∷ numbers) = ShownLine claim n ∷ shown_claims claims numbers

abbrev pub head_items : Asked → List Item
head_items asked = HeadLine ∷ DistanceLine asked.distance ∷ AggregatorLine asked.aggregator ∷ ConflictsLine asked.conflicts ∷ []

-- what stands before the log
abbrev pub front_items : Asked → Parts → List Item
front_items asked r = head_items asked ++ (map ProblemLine (problem_lines r.problem) ++ answer_items r.answer)

-- the log, the proofs and the end
abbrev pub log_items : Asked → Parts → List Item
log_items asked r =
    let log = log_of (operator_of asked r) r in
    MainLine log.vars (length log.main)
    ∷ (step_items (length log.main) r.steps ++ (shown_claims (claims_of asked r) r.shown ++ EndLine (end_number (kind_of_answer r.answer)) ∷ []))

-- the lines of a report, in order
abbrev pub items_of : Asked → Parts → List Item
items_of asked r = front_items asked r ++ log_items asked r

-- lines, each ended by a line feed
abbrev pub items_text : List Item → List ℕ
items_text items = lines_text (map item_line items)

abbrev pub report_text : Asked → Parts → List ℕ
report_text asked r = items_text (items_of asked r)

-- how many entries there are, and how long words and numbers may be

pub record HasShownForm (r : Parts) (shown : Shown) : Type 0 where
  pub model : length shown.model ≡ length r.problem.atoms
  pub entries : length shown.vector ≡ length r.problem.agents
  pub numbers : All HasNumeral shown.vector
  pub nearest : length shown.nearest ≡ length r.problem.agents
  pub over : All (λ w. length w ≡ length r.problem.atoms) shown.nearest

abbrev pub HasVerdictForm : Parts → Verdict → Type 0
HasVerdictForm r Yes = Unit {0}
HasVerdictForm r (No shown) = HasShownForm r shown

abbrev pub HasEntryForm : Parts → Option (List Bool) → Type 0
HasEntryForm r entry = MatchOption entry (Unit {0}) (λ w. length w ≡ length r.problem.atoms)

-- the measure has as many numbers as the rank of the first full vector
abbrev pub HasAnswerForm : Asked → Parts → Answer → Type 0
HasAnswerForm asked r (Merged best measure verdicts) =
    HasShownForm r best × (length measure ≡ length ((operator_of asked r).rank (repeated (profile_of r.problem).times best.vector))) × All HasNumeral measure
    × (length verdicts ≡ length r.problem.asks) × All (HasVerdictForm r) verdicts
HasAnswerForm asked r (Inconsistent constraint agents) = HasEntryForm r constraint × (length agents ≡ length r.problem.agents) × All (HasEntryForm r) agents
HasAnswerForm asked r GaveUp = Unit {0}

-- the steps have lines, from this number on
abbrev pub HaveLines : ℕ → List Step → Type 0
HaveLines n [] = Unit {0}
HaveLines n (step ∷ steps) = HasLine n step × HaveLines (n + 1) steps

pub record HasForm (asked : Asked) (r : Parts) : Type 0 where
  pub some_conflict : 1 ≤ asked.conflicts
  pub few_conflicts : asked.conflicts ≤ conflict_limit
  pub answer : HasAnswerForm asked r r.answer
  pub vars : HasNumeral (log_of (operator_of asked r) r).vars
  pub lines : HaveLines (length (log_of (operator_of asked r) r).main) r.steps
  pub clauses : HasNumeral (length (log_of (operator_of asked r) r).main)
  pub proofs : length r.shown ≡ length (claims_of asked r)
  pub numbers : All HasNumeral r.shown

-- the text is the report of these parts
pub record HasParts (text : List ℕ) (asked : Asked) (r : Parts) : Type 0 where
  pub form : HasForm asked r
  pub spelled : text ≡ report_text asked r

abbrev pub noted_step : Step → Noted
noted_step step = record { learned = is_learned step.kind; clause = step.clause }

-- the parts are those of a search that gave up: the log is sound, and its last steps, as many as the conflicts, are learned and
-- include no main clause and no clause of an earlier learned step
pub record AreSpent (asked : Asked) (r : Parts) : Type 0 where
  pub answer : r.answer ≡ GaveUp
  pub sound : IsSound (log_of (operator_of asked r) r).main r.steps
  pub spent : is_spent asked.conflicts (log_of (operator_of asked r) r).main (map noted_step r.steps) ≡ true
