-- Least level values, and the level values of distances.
use Rattle.std.specs.Prelude.{◌≡◌, ℕ, ◌<◌, Bool, List, length}
use Rattle.merge_model.specs.Merging.{full_of}
use Rattle.merge_encoding.specs.Claims.{NoBetter, values_at}
use Rattle.distance_search.specs.Setting.{Setting}
use Rattle.distance_search.specs.Replies.{IsTrueIn}

-- the level values of a valuation's distances
abbrev pub true_values : Setting → List Bool → List ℕ
true_values s v = s.values_of (full_of s.dist s.profile v) s.top

-- the level values of the distances to copies
abbrev pub values_in : Setting → List Bool → List (List Bool) → List ℕ
values_in s v ws = values_at s.dist s.top s.values_of s.profile v ws

-- no level can be lower while those before it are at most as they are
abbrev pub IsLeast : Setting → List ℕ → Type 0
IsLeast s values = (length values ≡ length s.main.levels) × ((j : ℕ) → j < length values → IsTrueIn s (NoBetter j values))
