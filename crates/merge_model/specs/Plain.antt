-- What the plain program computes on its way, of lists of models in rising order.
use Rattle.std.specs.Prelude.{◌≡◌, ℕ, ◌<◌, ◌≤◌, Bool, false, List, [], ◌∷◌, length, map, All, get_or, nat_lt, if◌then◌else◌, Option, None, Some}
use Rattle.formulas.specs.declared.formula.Formula.{Formula}
use Rattle.formulas.specs.Formulas.{holds}
use Rattle.ranks.specs.Limits.{distance_limit, entry_limit}
use Rattle.ranks.specs.Ranks.{IsNoWorse}

-- some valuations over n atoms
pub record IsOver (n : ℕ) (models : List (List Bool)) : Type 0 where
  pub some : 1 ≤ length models
  pub sized : All (λ w. length w ≡ n) models

-- the nearest to v of the best so far and the models, the first where several are
abbrev pub nearest_from : (List Bool → List Bool → ℕ) → List Bool → List Bool → List (List Bool) → List Bool
nearest_from dist v best [] = best
nearest_from dist v best (w ∷ models) = nearest_from dist v (if nat_lt (dist v w) (dist v best) then w else best) models

-- the first of the models that are nearest to v
abbrev pub nearest_of : (List Bool → List Bool → ℕ) → List Bool → List (List Bool) → List Bool
nearest_of dist v [] = v
nearest_of dist v (w ∷ models) = nearest_from dist v w (w ∷ models)

-- the distance of v to the nearest of each list of models
abbrev pub distances_of : (List Bool → List Bool → ℕ) → List (List (List Bool)) → List Bool → List ℕ
distances_of dist tables v = map (dist v) (map (nearest_of dist v) tables)

-- full vectors that an aggregator compares
pub record AreComparable (fulls : List (List ℕ)) : Type 0 where
  pub size : ℕ
  pub some : 1 ≤ size
  pub few : size ≤ entry_limit
  pub sized : All (λ u. length u ≡ size) fulls
  pub small : All (All (λ k. k ≤ distance_limit)) fulls

-- the full vector in place `best` is no worse than those in the first places
pub record IsBestOf (rank : List ℕ → List ℕ) (fulls : List (List ℕ)) (places best : ℕ) : Type 0 where
  pub within : best < length fulls
  pub least : (k : ℕ) → k < places → IsNoWorse rank (get_or fulls best []) (get_or fulls k [])

-- the candidate in the place is as good as the best one, and the query is false there
pub record Refutes (rank : List ℕ → List ℕ) (candidates : List (List Bool)) (fulls : List (List ℕ)) (best : ℕ) (ask : Formula) (place : ℕ) : Type 0 where
  pub within : place < length candidates
  pub tied : IsNoWorse rank (get_or fulls place []) (get_or fulls best [])
  pub false_there : holds ask (get_or candidates place []) ≡ false

-- the first valuation of a list
abbrev pub first_of : List (List Bool) → Option (List Bool)
first_of [] = None
first_of (v ∷ models) = Some v
