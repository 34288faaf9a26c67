-- What the lines so far leave to know, and which lines are due then.
use Rattle.std.specs.Prelude.{◌≡◌, ℕ, ◌≤◌, Bool, not, ◌⊎◌, List, [], ◌∷◌, length, map, take_while, unwrap_or, codes}
use Rattle.std.specs.List.{AllByRecursion}
use Rattle.formulas.specs.declared.formula.Formula as formula
use Rattle.merge_model.specs.declared.operator.AggregatorName.{AggregatorName}
use Rattle.merge_model.specs.declared.operator.AggregatorName.TheVariants.{Sum}
use Rattle.merge_model.specs.declared.operator.DistanceName.{DistanceName}
use Rattle.merge_model.specs.declared.operator.DistanceName.TheVariants.{Drastic}
use Rattle.merge_model.specs.Answers.{rank_named}
use Rattle.merge_model.specs.Merging.{Profile, repeated}
use Rattle.merge_encoding.specs.MainDues.{MainDue}
use Rattle.problem_reading.specs.Drafts.{Draft, empty_draft}
use Rattle.line_tokens.specs.Bytes.{is_blank}
use Rattle.report_words.specs.Numbers.{HasNumeral}
use Rattle.log_lines.specs.Spending.{Noted}
use Rattle.derivation_log.specs.StepLines.{StepLine, IsStep}
use Rattle.report_lines.specs.declared.kinds.Due.{Due}
use Rattle.report_lines.specs.declared.kinds.Due.TheVariants as due
use Rattle.report_lines.specs.declared.kinds.Kind.{Kind}
use Rattle.report_lines.specs.declared.kinds.Kind.TheVariants as kind
use Rattle.merge_model.specs.Answers.{most_named}
use Rattle.merge_encoding.specs.Named.{values_named, main_named}
use Rattle.report_lines.specs.declared.kinds.Subject.{Subject}
use Rattle.report_lines.specs.declared.kinds.Subject.TheVariants.{TheConstraint, BaseOf}
use Rattle.report_lines.specs.Items.{Item, HeadLine, DistanceLine, AggregatorLine, ConflictsLine, ProblemLine, ModelLine, VectorLine, NearestLine, MeasureLine, VerdictLine, NoModelLine, HasModelLine, GaveUpLine, MainLine, LogLine, ShownLine, EndLine}
use Rattle.report_lines.specs.ClaimsDue.{DueClaim}

-- what the lines so far leave to know
pub record Position : Type 0 where
  pub due : Due
  pub distance : DistanceName
  pub aggregator : AggregatorName
  pub conflicts : ℕ
  -- what the problem's lines declare
  pub draft : Draft
  -- what the answer is
  pub kind : Kind
  -- the last model and its vector, and the vector of the first model
  pub model : List Bool
  pub vector : List ℕ
  pub best : List ℕ
  -- how many verdicts were given, and how many agents were named
  pub verdicts : ℕ
  pub named : ℕ
  -- the claims whose proofs are still due, in order
  pub claims : List DueClaim
  pub steps : List Noted

abbrev pub start : Position
start = record { due = due.Head; distance = Drastic; aggregator = Sum; conflicts = 0; draft = empty_draft; kind = kind.Merged; model = []; vector = []; best = []; verdicts = 0; named = 0; claims = []; steps = [] }

abbrev pub atoms_at : Position → ℕ
atoms_at p = length p.draft.atoms

abbrev pub agents_at : Position → ℕ
agents_at p = length p.draft.agents

abbrev pub asks_at : Position → ℕ
asks_at p = length p.draft.asks

-- what is merged
abbrev pub profile_at : Position → Profile
profile_at p = record {
  atoms = atoms_at p;
  constraint = unwrap_or p.draft.constraint formula.Top;
  times = map (λ agent. agent.times) p.draft.agents;
  bases = map (λ agent. agent.base) p.draft.agents;
}

-- the greatest distance
abbrev pub top_at : Position → ℕ
top_at p = most_named p.distance p.draft.atoms (atoms_at p)

-- the full vector of a vector, and its rank
abbrev pub full_at : Position → List ℕ → List ℕ
full_at p ds = repeated (profile_at p).times ds

abbrev pub rank_at : Position → List ℕ → List ℕ
rank_at p ds = rank_named p.aggregator (full_at p ds)

-- the measure, and the level values, of the first vector
abbrev pub measure_at : Position → List ℕ
measure_at p = rank_at p p.best

abbrev pub values_at : Position → List ℕ
values_at p = values_named p.aggregator (full_at p p.best) (top_at p)

-- the main clauses, as they are made
abbrev pub main_at : Position → MainDue
main_at p = main_named p.distance p.aggregator (profile_at p) p.draft.asks

-- the greatest number of conflicts that a report may state
abbrev pub conflict_limit : ℕ
conflict_limit = 1000000

-- a first word ends at a blank: a space, a tab or a carriage return
abbrev pub first_word : List ℕ → List ℕ
first_word line = take_while (λ b. not (is_blank b)) line

abbrev pub end_number : Kind → ℕ
end_number kind.Merged = 0
end_number kind.Inconsistent = 8
end_number kind.Spent = 3

-- any line with this first word
abbrev pub IsProblemLine : List ℕ → Item → Type 0
IsProblemLine word x = (line : List ℕ) × (x ≡ ProblemLine line) × (first_word line ≡ word)

-- the valuation is over the atoms
abbrev pub IsOver : Position → List Bool → Type 0
IsOver p w = length w ≡ atoms_at p

abbrev pub IsModelLine : Position → Item → Type 0
IsModelLine p x = (w : List Bool) × (x ≡ ModelLine w) × IsOver p w

abbrev pub IsNamedLine : Position → Subject → Item → Type 0
IsNamedLine p s x = (x ≡ NoModelLine s) ⊎ ((w : List Bool) × (x ≡ HasModelLine s w) × IsOver p w)

-- the first line of an answer
abbrev pub IsAnswerLine : Position → Item → Type 0
IsAnswerLine p x = IsModelLine p x ⊎ (IsNamedLine p TheConstraint x ⊎ (x ≡ GaveUpLine))

-- the proof of the first claim that is due, or the end
abbrev pub IsProofLine : List DueClaim → Kind → Item → Type 0
IsProofLine [] k x = x ≡ EndLine (end_number k)
IsProofLine (c ∷ cs) k x = (n : ℕ) × (x ≡ ShownLine c n) × HasNumeral n

-- the lines that are due at a place
abbrev pub DueAt : Due → Position → Item → Type 0
DueAt due.Head p x = x ≡ HeadLine
DueAt due.Distance p x = (d : DistanceName) × (x ≡ DistanceLine d)
DueAt due.Aggregator p x = (a : AggregatorName) × (x ≡ AggregatorLine a)
DueAt due.Conflicts p x = (b : ℕ) × (x ≡ ConflictsLine b) × (1 ≤ b) × (b ≤ conflict_limit)
DueAt due.Atoms p x = IsProblemLine (codes "atoms") x
DueAt due.Constraint p x = IsProblemLine (codes "constraint") x
DueAt due.FirstAgent p x = IsProblemLine (codes "agent") x
DueAt due.Agents p x = IsProblemLine (codes "agent") x ⊎ (IsProblemLine (codes "ask") x ⊎ IsAnswerLine p x)
DueAt due.Asks p x = IsProblemLine (codes "ask") x ⊎ IsAnswerLine p x
DueAt due.Model p x = IsModelLine p x
DueAt due.Vector p x = (ds : List ℕ) × (x ≡ VectorLine ds) × (length ds ≡ agents_at p) × AllByRecursion HasNumeral ds
DueAt due.Nearest p x = (ws : List (List Bool)) × (x ≡ NearestLine ws) × (length ws ≡ agents_at p) × AllByRecursion (IsOver p) ws
DueAt due.Measure p x = (rs : List ℕ) × (x ≡ MeasureLine rs) × (length rs ≡ length (measure_at p)) × AllByRecursion HasNumeral rs
DueAt due.Verdict p x = (given : Bool) × (x ≡ VerdictLine p.verdicts given)
DueAt due.Named p x = IsNamedLine p (BaseOf p.named) x
DueAt due.Main p x = (v : ℕ) × (c : ℕ) × (x ≡ MainLine v c) × HasNumeral v × HasNumeral c
DueAt due.Log p x = ((s : StepLine) × (x ≡ LogLine s) × IsStep s) ⊎ IsProofLine p.claims p.kind x
DueAt due.Proofs p x = IsProofLine p.claims p.kind x
DueAt due.Over p x = ⊥

abbrev pub IsDue : Position → Item → Type 0
IsDue p x = DueAt p.due p x
