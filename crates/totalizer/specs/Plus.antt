-- The clauses of a sum of two counters: the totalizer of Bailleux and Boufkhad (2003), both directions.
use Rattle.std.specs.Prelude.{◌≡◌, ℕ, ◌+◌, ◌-◌, Bool, ◌==◌, ◌&&◌, List, [], ◌∷◌, ◌++◌, length, slice_index, if◌then◌else◌}
use Rattle.clause_store.specs.declared.lit.Lit.{Lit}
use Rattle.clause_store.specs.Lits.{positive_lit, negative_lit}
use Rattle.clause_store.specs.Truth.{AreTrue}
use Rattle.clause_store.specs.Extends.{Extends}
use Rattle.clause_store.specs.Fresh.{fresh_vars}
use Rattle.totalizer.specs.Counter.{Due, count_of, IsUnary}
use Rattle.totalizer.specs.Joined.{joined_blocks}

-- the negation of output i, from 1, if there is one
abbrev pub under : List ℕ → ℕ → List Lit
under xs i = if i == 0 then [] else negative_lit (slice_index xs (i - 1)) ∷ []

-- output i + 1, if there is one
abbrev pub over : List ℕ → ℕ → List Lit
over xs i = if i == length xs then [] else positive_lit (slice_index xs i) ∷ []

-- where one value is at least i and the other at least j, the sum is at least i + j; its outputs come after variable v
abbrev pub up_clauses : List ℕ → List ℕ → ℕ → ℕ → ℕ → List (List Lit)
up_clauses xs ys v i j = if i == 0 && (j == 0) then [] else (under xs i ++ (under ys j ++ positive_lit (v + i + j) ∷ [])) ∷ []

-- where one value is at most i and the other at most j, the sum is at most i + j
abbrev pub down_clauses : List ℕ → List ℕ → ℕ → ℕ → ℕ → List (List Lit)
down_clauses xs ys v i j = if i == length xs && (j == length ys) then [] else (over xs i ++ (over ys j ++ negative_lit (v + i + j + 1) ∷ [])) ∷ []

abbrev pub pair_clauses : List ℕ → List ℕ → ℕ → ℕ → ℕ → List (List Lit)
pair_clauses xs ys v i j = up_clauses xs ys v i j ++ down_clauses xs ys v i j

-- the pairs (i, 0) to (i, length ys)
abbrev pub row_clauses : List ℕ → List ℕ → ℕ → ℕ → List (List Lit)
row_clauses xs ys v i = joined_blocks (pair_clauses xs ys v i) (length ys + 1)

abbrev pub plus_clauses : List ℕ → List ℕ → ℕ → List (List Lit)
plus_clauses xs ys v = joined_blocks (row_clauses xs ys v) (length xs + 1)

-- what is due for the sum of two counters, after v variables
abbrev pub plus_due : ℕ → List ℕ → List ℕ → Due
plus_due v xs ys = record {
  clauses = plus_clauses xs ys v;
  vars = v + (length xs + length ys);
  outputs = fresh_vars v (length xs + length ys);
}

-- both count
abbrev pub Both : List ℕ → List ℕ → (ℕ → Bool) → Type 0
Both xs ys b = IsUnary b xs × IsUnary b ys

-- where both count, the clauses hold in exactly one extension, and there the outputs count the sum
pub record IsSum (v : ℕ) (xs ys : List ℕ) (d : Due) : Type 0 where
  pub extends : Extends (Both xs ys) (AreTrue d.clauses) v d.vars
  pub in_order : (b : ℕ → Bool) → Both xs ys b → AreTrue d.clauses b → IsUnary b d.outputs
  pub value : (b : ℕ → Bool) → Both xs ys b → AreTrue d.clauses b → count_of b d.outputs ≡ count_of b xs + count_of b ys
