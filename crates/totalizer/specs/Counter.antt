-- Unary counters: lists of variables of which, where they count, the true ones come first.
use Rattle.std.specs.Prelude.{◌≡◌, ℕ, suc, ◌+◌, ◌<◌, ◌≤◌, Bool, List, [], ◌∷◌, length, map, slice_index, if◌then◌else◌, nat_lt}
use Rattle.clause_store.specs.declared.lit.Lit.{Lit}

-- what is due: clauses as they are made, the number of variables then, and the outputs
pub record Due : Type 0 where
  pub clauses : List (List Lit)
  pub vars : ℕ
  pub outputs : List ℕ

-- the value of a counter: how many outputs are true
abbrev pub count_of : (ℕ → Bool) → List ℕ → ℕ
count_of b [] = 0
count_of b (x ∷ xs) = if b x then suc (count_of b xs) else count_of b xs

-- the true outputs come first: an output is true exactly where the value is above its number, from 0
abbrev pub IsUnary : (ℕ → Bool) → List ℕ → Type 0
IsUnary b outputs = (k : ℕ) → k < length outputs → b (slice_index outputs k) ≡ nat_lt k (count_of b outputs)

-- each variable is one of 1 to v
abbrev pub AreVarsWithin : ℕ → List ℕ → Type 0
AreVarsWithin v xs = (k : ℕ) → k < length xs → (1 ≤ slice_index xs k) × (slice_index xs k ≤ v)

abbrev pub AllUnary : (ℕ → Bool) → List (List ℕ) → Type 0
AllUnary b [] = Unit {0}
AllUnary b (p ∷ ps) = IsUnary b p × AllUnary b ps

abbrev pub AllVarsWithin : ℕ → List (List ℕ) → Type 0
AllVarsWithin v [] = Unit {0}
AllVarsWithin v (p ∷ ps) = AreVarsWithin v p × AllVarsWithin v ps

-- the counter of each variable alone
abbrev pub leaves : List ℕ → List (List ℕ)
leaves xs = map (λ x. x ∷ []) xs

-- no variable stands twice
abbrev pub AreDistinct : List ℕ → Type 0
AreDistinct xs = (j k : ℕ) → j < length xs → k < length xs → slice_index xs j ≡ slice_index xs k → j ≡ k

-- distinct variables above v, up to w
pub record AreFresh (v w : ℕ) (xs : List ℕ) : Type 0 where
  pub above : (k : ℕ) → k < length xs → v < slice_index xs k
  pub within : (k : ℕ) → k < length xs → slice_index xs k ≤ w
  pub distinct : AreDistinct xs

-- the sum of the values
abbrev pub sum_of : (ℕ → Bool) → List (List ℕ) → ℕ
sum_of b [] = 0
sum_of b (p ∷ ps) = count_of b p + sum_of b ps
