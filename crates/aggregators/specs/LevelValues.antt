-- The level values of a list of distances that are each at most a greatest one.
use Rattle.std.specs.Prelude.{ℕ, List}
use Rattle.ranks.specs.Ranks.{sum_rank, max_rank, counts, downs}

-- of the sum: the sum
abbrev pub sum_values : List ℕ → ℕ → List ℕ
sum_values full top = sum_rank full

-- of the maximum: the greatest distance
abbrev pub max_values : List ℕ → ℕ → List ℕ
max_values full top = max_rank full

-- of leximax: how many distances are at least top, at least top - 1, down to at least 1
abbrev pub leximax_values : List ℕ → ℕ → List ℕ
leximax_values full top = counts (downs top) full
