-- Lists of closest valuations, and how a search for one ends.
use Rattle.std.specs.Prelude.{◌≡◌, ℕ, ◌+◌, Bool, true, false, List, [], ◌∷◌, ◌++◌, Option, codes, if◌then◌else◌}
use Rattle.std.specs.List.{flat_map}
use Rattle.derivation_log.specs.Logs.{Log}
use Rattle.solver_laws.specs.Ready.{IsLog}
use Rattle.formula_text.specs.ValuationWords.{valuation_word}
use Rattle.merge_model.specs.declared.operator.AggregatorName.{AggregatorName}
use Rattle.merge_model.specs.declared.operator.DistanceName.{DistanceName}
use Rattle.merge_model.specs.declared.problem.Problem.{Problem}
use Rattle.merge_model.specs.Answers.{dist_named, rank_named, most_named}
use Rattle.merge_model.specs.Merging.{Profile, LacksModel, IsListed}
use Rattle.merge_encoding.specs.Named.{counter_named, levels_named, values_named}
use Rattle.distance_search.specs.Setting.{Setting, setting_of, IsOver}
use Rattle.distance_search.specs.Heard.{IsSpent}
use Rattle.distance_search.specs.Results.{IsBestFor, IsConsistency, AllNamed}
use Rattle.closest_listing.specs.declared.searching.ListEnd.{ListEnd}
use Rattle.closest_listing.specs.declared.searching.ListEnd.TheVariants as ends
use Rattle.closest_listing.specs.declared.searching.Prospect.{Prospect}
use Rattle.closest_listing.specs.declared.searching.Prospect.TheVariants as prospects

-- the first closest valuations above a place, at most so many; where more is told there is one further, and else these
-- are all
pub record AreFirst (dist : List Bool → List Bool → ℕ) (rank : List ℕ → List ℕ) (p : Profile) (after : Option (List Bool)) (count : ℕ) (listed : List (List Bool)) (more : Bool) : Type 0 where
  pub first : IsListed dist rank p after count listed
  pub further : more ≡ true → (next : List Bool) × IsListed dist rank p after (count + 1) (listed ++ next ∷ [])
  pub all : more ≡ false → IsListed dist rank p after (count + 1) listed

abbrev pub IsClosestList : Setting → Option (List Bool) → ℕ → List (List Bool) → Bool → Type 0
IsClosestList s after count listed more = AreFirst s.dist s.rank s.profile after count listed more

-- the last line of a list
abbrev pub last_line : Bool → List ℕ
last_line more = if more then codes "more\n" else codes "end\n"

abbrev pub valuation_line : List Bool → List ℕ
valuation_line v = valuation_word v ++ codes "\n"

-- the text of a list: a line for each valuation, and the last line
abbrev pub list_text : List (List Bool) → Bool → List ℕ
list_text listed more = flat_map valuation_line listed ++ last_line more

-- what is known before a list is begun
abbrev pub IsProspect : Setting → Log → Prospect → Type 0
IsProspect s log (prospects.Best best) = IsBestFor s best
IsProspect s log (prospects.Lacking found) = IsConsistency s log found × (AllNamed found → ⊥)

-- a list, where each formula has a model; or which formulas have models and which have none, some having none; or the last
-- question spent its budget
abbrev pub IsListEnd : Setting → Log → ℕ → Option (List Bool) → ℕ → ListEnd → Type 0
IsListEnd s log budget after count (ends.Listed list) = (LacksModel s.profile → ⊥) × IsClosestList s after count list.valuations.items list.more
IsListEnd s log budget after count (ends.Lacking found) = IsConsistency s log found × (AllNamed found → ⊥)
IsListEnd s log budget after count ends.Spent = (before : Log) × (number : ℕ) × IsSpent before log budget number

-- the log stands over the main clauses, its steps follow, and the search ended so
pub record IsListOutcome (s : Setting) (budget : ℕ) (after : Option (List Bool)) (count : ℕ) (log : Log) (how : ListEnd) : Type 0 where
  pub over : IsOver s log
  pub follows : IsLog log
  pub end : IsListEnd s log budget after count how

-- the setting of a problem, by the names of its distance and its aggregator
abbrev pub setting_named : DistanceName → AggregatorName → Problem → Setting
setting_named distance aggregator problem = setting_of
    (dist_named distance problem.atoms) (most_named distance problem.atoms) (counter_named distance)
    (rank_named aggregator) (values_named aggregator) (levels_named aggregator) problem
