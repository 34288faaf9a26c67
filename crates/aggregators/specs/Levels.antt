-- The levels of an aggregator: counters whose values are the level values of the repeated distances.
use Rattle.std.specs.Prelude.{◌≡◌, ℕ, ◌+◌, ◌-◌, ◌<◌, ◌≤◌, Bool, List, [], ◌∷◌, ◌++◌, length, map, sum, All, Contains, slice_index, ◌⊎◌}
use Rattle.std.specs.List.{AllZip, concat}
use Rattle.aggregators.specs.Limits.{levels_room}
use Rattle.ranks.specs.Limits.{entry_limit, distance_limit}
use Rattle.ranks.specs.Ranks.{downs}
use Rattle.clause_store.specs.declared.lit.Lit.{Lit}
use Rattle.clause_store.specs.Truth.{AreTrue}
use Rattle.clause_store.specs.Extends.{Extends}
use Rattle.clause_store.specs.Fresh.{fresh_vars}
use Rattle.totalizer.specs.Counter.{count_of, AllUnary, AllVarsWithin, AreDistinct, leaves}
use Rattle.totalizer.specs.Either.{either_due}
use Rattle.totalizer.specs.Joined.{joined_blocks}
use Rattle.totalizer.specs.Total.{total_due}
use Rattle.merge_model.specs.Merging.{repeated}

-- what is due: clauses as they are made, the number of variables then, and the levels
pub record LevelsDue : Type 0 where
  pub clauses : List (List Lit)
  pub vars : ℕ
  pub levels : List (List ℕ)

-- the values of counters
abbrev pub counts_of : (ℕ → Bool) → List (List ℕ) → List ℕ
counts_of b cs = map (count_of b) cs

-- the length of the first counter
abbrev pub top_of : List (List ℕ) → ℕ
top_of [] = 0
top_of (c ∷ cs) = length c

-- output k, from 0, of each counter
abbrev pub column : ℕ → List (List ℕ) → List ℕ
column k cs = map (λ c. slice_index c k) cs

-- of the sum: one level, the total of the repeated counters
abbrev pub sum_due : ℕ → List (List ℕ) → List ℕ → LevelsDue
sum_due v aways times =
    let total = total_due v (repeated times aways) in
    record { clauses = total.clauses; vars = total.vars; levels = total.outputs ∷ [] }

-- either of the counters' outputs k, from 0: the clauses of output k of the maximum's level
abbrev pub output_clauses : ℕ → List (List ℕ) → ℕ → List (List Lit)
output_clauses v aways k = (either_due (v + k) (column k aways)).clauses

-- of the maximum: one level, whose outputs are each either of the counters' outputs of that number
abbrev pub max_due : ℕ → List (List ℕ) → List ℕ → LevelsDue
max_due v aways times = record {
  clauses = joined_blocks (output_clauses v aways) (top_of aways);
  vars = v + top_of aways;
  levels = fresh_vars v (top_of aways) ∷ [];
}

-- for each of some output numbers, from 1, the total of the parts' outputs of that number
abbrev pub totals_due : List ℕ → ℕ → List (List ℕ) → LevelsDue
totals_due [] v parts = record { clauses = []; vars = v; levels = [] }
totals_due (k ∷ ks) v parts =
    let first = total_due v (leaves (column (k - 1) parts)) in
    let rest = totals_due ks first.vars parts in
    record { clauses = first.clauses ++ rest.clauses; vars = rest.vars; levels = first.outputs ∷ rest.levels }

-- of leximax: a level for each output number, from the highest down
abbrev pub leximax_due : ℕ → List (List ℕ) → List ℕ → LevelsDue
leximax_due v aways times = totals_due (downs (top_of aways)) v (repeated times aways)

-- counters and times that have levels, after v variables
pub record HaveLevels (v : ℕ) (aways : List (List ℕ)) (times : List ℕ) : Type 0 where
  pub lengths : length aways ≡ length times
  pub some : 1 ≤ length aways
  pub positive : All (λ t. 1 ≤ t) times
  pub few : sum times ≤ entry_limit
  pub sized : All (λ c. length c ≡ top_of aways) aways
  pub small : top_of aways ≤ distance_limit
  pub within : AllVarsWithin v aways

-- each variable is above v, or one of the given ones
abbrev pub AreFreshOrOf : ℕ → List ℕ → List ℕ → Type 0
AreFreshOrOf v given xs = All (λ x. (v < x) ⊎ Contains given x) xs

-- as many values as levels, each at most its level's length
abbrev pub FitLevels : List ℕ → List (List ℕ) → Type 0
FitLevels values levels = AllZip (λ value level. value ≤ length level) values levels

-- where the counters count, the clauses hold in exactly one extension, and there the levels count the level values of
-- the repeated distances. The level values of whatever distances the counters could count fit the levels. Each output
-- of a level is fresh or an output of a counter, and all of them are distinct where those of the counters are
pub record AreLevels (v : ℕ) (aways : List (List ℕ)) (times : List ℕ) (values_of : List ℕ → ℕ → List ℕ) (d : LevelsDue) : Type 0 where
  pub extends : Extends (λ b. AllUnary b aways) (AreTrue d.clauses) v d.vars
  pub few : d.vars ≤ v + levels_room
  pub within : AllVarsWithin d.vars d.levels
  pub in_order : (b : ℕ → Bool) → AllUnary b aways → AreTrue d.clauses b → AllUnary b d.levels
  pub values : (b : ℕ → Bool) → AllUnary b aways → AreTrue d.clauses b → counts_of b d.levels ≡ values_of (repeated times (counts_of b aways)) (top_of aways)
  pub fits : (us : List ℕ) → length us ≡ length aways → All (λ u. u ≤ top_of aways) us → FitLevels (values_of (repeated times us) (top_of aways)) d.levels
  pub origin : AreFreshOrOf v (concat aways) (concat d.levels)
  pub distinct : AreDistinct (concat aways) → AreDistinct (concat d.levels)
