-- Clauses over V variables as numbers of V digits to the base 3.
use Rattle.std.specs.Prelude.{◌≢◌, ℕ, ◌^◌, ◌<◌, List, [], ◌∷◌, length, AllPairs, All}
use Rattle.clause_store.specs.declared.lit.Lit.{Lit}
use Rattle.clause_store.specs.Lits.{InRange}

-- the literals' variables rise, each above v, so that no variable stands twice
abbrev pub IsAbove : ℕ → List Lit → Type 0
IsAbove v [] = Unit {0}
IsAbove v (l ∷ ls) = (v < l.var) × IsAbove l.var ls

-- the clause is not empty, and its variables rise from 1 to V
pub record IsFit (V : ℕ) (c : List Lit) : Type 0 where
  pub full : c ≢ []
  pub above : IsAbove 0 c
  pub within : InRange V c

-- the clauses are distinct, and each is fit
pub record IsFamily (V : ℕ) (cs : List (List Lit)) : Type 0 where
  pub distinct : AllPairs (λ c d. c ≢ d) cs
  pub fit : All (IsFit V) cs

abbrev pub CountLaw : Type 0
CountLaw = (V : ℕ) (cs : List (List Lit)) → IsFamily V cs → length cs < 3 ^ V
