-- The lines of a report. Agents, queries and levels are numbered from 0 here, and from 1 in the words.
use Rattle.std.specs.Prelude.{ℕ, ◌+◌, Bool, if◌then◌else◌, List, [], ◌∷◌, ◌++◌, map, codes, decimal}
use Rattle.report_words.specs.Words.{words_of, line_of}
use Rattle.merge_model.specs.declared.operator.AggregatorName.{AggregatorName}
use Rattle.merge_model.specs.declared.operator.DistanceName.{DistanceName}
use Rattle.formula_text.specs.ValuationWords.{valuation_word}
use Rattle.derivation_log.specs.StepLines.{StepLine, step_words}
use Rattle.merge_encoding.specs.Claims.{Assertion, NoModelOfConstraint, NoModelOfBase, NoNearer, NoBetter, NoBreaker, NoModelWith}
use Rattle.report_lines.specs.ClaimsDue.{DueClaim}
use Rattle.report_lines.specs.declared.kinds.Subject.{Subject}
use Rattle.report_lines.specs.declared.kinds.Subject.TheVariants.{TheConstraint, BaseOf}
use Rattle.merge_model.specs.OperatorWords.{distance_word, aggregator_word}

pub data Item : Type 0 where
  HeadLine : Item
  DistanceLine : DistanceName → Item
  AggregatorLine : AggregatorName → Item
  ConflictsLine : ℕ → Item
  -- a line that is due to be a line of the problem, whatever it says
  ProblemLine : List ℕ → Item
  ModelLine : List Bool → Item
  VectorLine : List ℕ → Item
  NearestLine : List (List Bool) → Item
  MeasureLine : List ℕ → Item
  VerdictLine : ℕ → Bool → Item
  NoModelLine : Subject → Item
  HasModelLine : Subject → List Bool → Item
  GaveUpLine : Item
  MainLine : ℕ → ℕ → Item
  LogLine : StepLine → Item
  ShownLine : DueClaim → ℕ → Item
  EndLine : ℕ → Item

abbrev pub yes_word : Bool → List ℕ
yes_word given = if given then codes "yes" else codes "no"

abbrev pub subject_words : Subject → List (List ℕ)
subject_words TheConstraint = codes "constraint" ∷ []
subject_words (BaseOf i) = codes "agent" ∷ decimal (i + 1) ∷ []

-- no report claims the last: it is of listings
abbrev pub claim_words : ℕ → Assertion → List (List ℕ)
claim_words k NoModelOfConstraint = codes "constraint" ∷ []
claim_words k (NoModelOfBase i) = codes "agent" ∷ decimal (i + 1) ∷ []
claim_words k (NoNearer i v d) = codes "far" ∷ decimal k ∷ decimal (i + 1) ∷ []
claim_words k (NoBetter j values) = codes "least" ∷ decimal (j + 1) ∷ []
claim_words k (NoBreaker q values) = codes "yes" ∷ decimal (q + 1) ∷ []
claim_words k (NoModelWith values prefix) = []

abbrev pub item_words : Item → List (List ℕ)
item_words HeadLine = codes "merge-report" ∷ codes "1" ∷ []
item_words (DistanceLine d) = codes "distance" ∷ distance_word d ∷ []
item_words (AggregatorLine a) = codes "aggregator" ∷ aggregator_word a ∷ []
item_words (ConflictsLine b) = codes "conflicts" ∷ decimal b ∷ []
item_words (ProblemLine line) = words_of line
item_words (ModelLine w) = codes "model" ∷ valuation_word w ∷ []
item_words (VectorLine ds) = codes "vector" ∷ map decimal ds
item_words (NearestLine ws) = codes "nearest" ∷ map valuation_word ws
item_words (MeasureLine rs) = codes "measure" ∷ map decimal rs
item_words (VerdictLine q given) = codes "verdict" ∷ decimal (q + 1) ∷ yes_word given ∷ []
item_words (NoModelLine s) = codes "no-model" ∷ subject_words s
item_words (HasModelLine s w) = codes "has-model" ∷ (subject_words s ++ valuation_word w ∷ [])
item_words GaveUpLine = codes "gave-up" ∷ []
item_words (MainLine v c) = codes "main" ∷ decimal v ∷ decimal c ∷ []
item_words (LogLine s) = step_words s
item_words (ShownLine c n) = codes "shown" ∷ (claim_words c.model c.says ++ decimal n ∷ [])
item_words (EndLine n) = codes "end" ∷ decimal n ∷ []

abbrev pub item_line : Item → List ℕ
item_line x = line_of (item_words x)
