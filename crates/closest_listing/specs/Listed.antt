-- Closest valuations in rising order.
use Rattle.std.specs.Prelude.{◌≡◌, ℕ, ◌≤◌, Bool, List, [], ◌∷◌, length, take, Option, None, Some, Result, Ok, Err, ◌⊎◌}
use Rattle.formulas.specs.Words.{IsBefore}
use Rattle.merge_model.specs.Merging.{IsClosest, IsAbove, IsListed}
use Rattle.distance_search.specs.declared.answer.Best.{Best}
use Rattle.distance_search.specs.declared.reply.SearchStop.{SearchStop}
use Rattle.distance_search.specs.Results.{IsBestFor}
use Rattle.distance_search.specs.Setting.{Setting}

abbrev pub IsClosestIn : Setting → List Bool → Type 0
IsClosestIn s v = IsClosest s.dist s.rank s.profile v

-- the least closest valuation above the one that is given, or none where no closest valuation is above it
abbrev pub IsNextListed : Setting → Option (List Bool) → Option (List Bool) → Type 0
IsNextListed s after None = (u : List Bool) → IsClosestIn s u → IsAbove after u → ⊥
IsNextListed s after (Some v) =
    IsClosestIn s v × IsAbove after v × ((u : List Bool) → IsClosestIn s u → IsAbove after u → (u ≡ v) ⊎ IsBefore v u)

-- a closest valuation that begins as another does, for so many values, and whose values up to a place are before
-- those of every other such valuation, or the same
pub record IsLowestTo (s : Setting) (depth atom : ℕ) (found v : List Bool) : Type 0 where
  pub closest : IsClosestIn s v
  pub same : take depth v ≡ take depth found
  pub first : (u : List Bool) → IsClosestIn s u → take depth u ≡ take depth found → (take atom u ≡ take atom v) ⊎ IsBefore (take atom v) (take atom u)

-- the least closest valuation that begins as another does
pub record IsFirstFrom (s : Setting) (depth : ℕ) (found v : List Bool) : Type 0 where
  pub closest : IsClosestIn s v
  pub same : take depth v ≡ take depth found
  pub first : (u : List Bool) → IsClosestIn s u → take depth u ≡ take depth found → (u ≡ v) ⊎ IsBefore v u

-- no closest valuation above the last one has its values up to a place
abbrev pub NoneAbove : Setting → ℕ → List Bool → Type 0
NoneAbove s atom last = (u : List Bool) → IsClosestIn s u → take atom u ≡ take atom last → IsBefore last u → ⊥

-- the place of a listing after an answer: the valuation that was given, and else the place before
abbrev pub place_after : Option (List Bool) → Result (Option (List Bool)) SearchStop → Option (List Bool)
place_after after (Ok None) = after
place_after after (Ok (Some next)) = Some next
place_after after (Err stop) = after

-- valuations, each the next above the one before it, the first above the one that is given
abbrev pub AreListed : Setting → Option (List Bool) → List (List Bool) → Type 0
AreListed s after [] = Unit {0}
AreListed s after (v ∷ vs) = IsNextListed s after (Some v) × AreListed s (Some v) vs

-- the last of them, or the one that is given where there are none
abbrev pub last_of : Option (List Bool) → List (List Bool) → Option (List Bool)
last_of after [] = after
last_of after (v ∷ vs) = last_of (Some v) vs

-- they are the first closest valuations above the one that is given, and all where none is above the last
abbrev pub ListedLaw : Type 0
ListedLaw = (s : Setting) (best : Best) → IsBestFor s best → (after : Option (List Bool)) (vs : List (List Bool)) → AreListed s after vs →
    IsListed s.dist s.rank s.profile after (length vs) vs × (IsNextListed s (last_of after vs) None → (k : ℕ) → length vs ≤ k → IsListed s.dist s.rank s.profile after k vs)
