-- The words of each command, and what it reads.
use Rattle.std.specs.Prelude.{◌≡◌, ℕ, ◌≤◌, List, [], ◌∷◌, ◌++◌, codes, decimal, Option, None, Some}
use Rattle.merge_model.specs.declared.operator.AggregatorName.{AggregatorName}
use Rattle.merge_model.specs.declared.operator.DistanceName.{DistanceName}
use Rattle.merge_model.specs.OperatorWords.{distance_word, aggregator_word}
use Rattle.report_lines.specs.Parts.{Asked}
use Rattle.report_lines.specs.Places.{conflict_limit}
use Rattle.merge_cli.specs.declared.commands.Command.{Command}
use Rattle.merge_cli.specs.declared.commands.Command.TheVariants as variants
use Rattle.merge_cli.specs.declared.commands.Command.TheVariants.{Merge, Check, Bench}
use Rattle.merge_cli.specs.declared.place.Place.{Place}
use Rattle.merge_cli.specs.Places.{IsPlace}

-- the number of conflicts a question where no word gives one
abbrev pub usual_conflicts : ℕ
usual_conflicts = 100000

-- a number of conflicts that a word may give
abbrev pub IsBudget : ℕ → Type 0
IsBudget conflicts = (1 ≤ conflicts) × (conflicts ≤ conflict_limit)

abbrev pub merge_words : DistanceName → AggregatorName → List (List ℕ)
merge_words distance aggregator = codes "merge" ∷ distance_word distance ∷ aggregator_word aggregator ∷ []

-- how a merge is written: with its number of conflicts, or without where that is the usual one
pub data IsMerge (words : List (List ℕ)) (distance : DistanceName) (aggregator : AggregatorName) (conflicts : ℕ) : Type 0 where
  unstated : words ≡ merge_words distance aggregator → conflicts ≡ usual_conflicts → IsMerge words distance aggregator conflicts
  stated : words ≡ merge_words distance aggregator ++ decimal conflicts ∷ [] → IsBudget conflicts → IsMerge words distance aggregator conflicts

-- the most valuations of a list
abbrev pub count_limit : ℕ
count_limit = 10000

-- a number of valuations that a word may give
abbrev pub IsCount : ℕ → Type 0
IsCount count = (1 ≤ count) × (count ≤ count_limit)

abbrev pub list_words : DistanceName → AggregatorName → ℕ → List (List ℕ) → List (List ℕ)
list_words distance aggregator count last = codes "list" ∷ distance_word distance ∷ aggregator_word aggregator ∷ decimal count ∷ last

-- how a list is written: with the word of the valuation above which it begins, or without
pub record IsList (words : List (List ℕ)) (distance : DistanceName) (aggregator : AggregatorName) (count : ℕ) (place : Place) : Type 0 where
  pub last : List (List ℕ)
  pub spelled : words ≡ list_words distance aggregator count last
  pub some : IsCount count
  pub begins : IsPlace last place

-- the greatest number of a bench problem
abbrev pub bench_limit : ℕ
bench_limit = 1000000

-- a number of a bench problem that a word may give
abbrev pub IsBenchNumber : ℕ → Type 0
IsBenchNumber number = (1 ≤ number) × (number ≤ bench_limit)

-- the words are those of this command
abbrev pub IsCommand : List (List ℕ) → Command → Type 0
IsCommand words (Merge distance aggregator conflicts) = IsMerge words distance aggregator conflicts
IsCommand words Check = words ≡ codes "check" ∷ []
IsCommand words (variants.List distance aggregator count place) = IsList words distance aggregator count place
IsCommand words (Bench number) = (words ≡ codes "bench" ∷ decimal number ∷ []) × IsBenchNumber number

-- the words are those of no command
abbrev pub IsNoCommand : List (List ℕ) → Type 0
IsNoCommand words = (command : Command) → IsCommand words command → ⊥

-- the merge that asks for this
abbrev pub merge_of : Asked → Command
merge_of asked = Merge asked.distance asked.aggregator asked.conflicts

-- the number of conflicts is one that a report may state
abbrev pub IsProper : Command → Type 0
IsProper (Merge distance aggregator conflicts) = IsBudget conflicts
IsProper Check = Unit {0}
IsProper (variants.List distance aggregator count place) = IsCount count
IsProper (Bench number) = Unit {0}

-- the most bytes of a problem text
abbrev pub text_limit : ℕ
text_limit = 262144

-- the most bytes that a command takes, where there is a limit
abbrev pub limit_of : Command → Option ℕ
limit_of (Merge distance aggregator conflicts) = Some text_limit
limit_of Check = None
limit_of (variants.List distance aggregator count place) = Some text_limit
limit_of (Bench number) = None

-- the command reads its source
abbrev pub Reads : Command → Type 0
Reads (Merge distance aggregator conflicts) = Unit {0}
Reads Check = Unit {0}
Reads (variants.List distance aggregator count place) = Unit {0}
Reads (Bench number) = ⊥

-- the command reads a problem text
abbrev pub ReadsProblem : Command → Type 0
ReadsProblem (Merge distance aggregator conflicts) = Unit {0}
ReadsProblem Check = ⊥
ReadsProblem (variants.List distance aggregator count place) = Unit {0}
ReadsProblem (Bench number) = ⊥
