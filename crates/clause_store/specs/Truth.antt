-- Truth under an assignment, which gives each variable a value.
use Rattle.std.specs.Prelude.{◌≡◌, ℕ, ◌-◌, ◌≤◌, Bool, true, false, not, ◌&&◌, ◌||◌, List, [], ◌∷◌, if◌then◌else◌, slice_index_or}
use Rattle.clause_store.specs.declared.lit.Lit.{Lit}

-- whether the literal is true
abbrev pub lit_true : (ℕ → Bool) → Lit → Bool
lit_true a l = if l.positive then a l.var else not (a l.var)

-- whether some literal is true
abbrev pub clause_true : (ℕ → Bool) → List Lit → Bool
clause_true a [] = false
clause_true a (l ∷ ls) = lit_true a l || clause_true a ls

-- whether each clause is true
abbrev pub all_true : (ℕ → Bool) → List (List Lit) → Bool
all_true a [] = true
all_true a (c ∷ cs) = clause_true a c && all_true a cs

-- the clauses are true
abbrev pub AreTrue : List (List Lit) → (ℕ → Bool) → Type 0
AreTrue cs a = all_true a cs ≡ true

-- the assignments agree on the variables 1 to v
abbrev pub Agree : ℕ → (ℕ → Bool) → (ℕ → Bool) → Type 0
Agree v a b = (k : ℕ) → 1 ≤ k → k ≤ v → a k ≡ b k

-- the assignment with these values of the variables from 1 on
abbrev pub values_of : List Bool → ℕ → Bool
values_of values v = slice_index_or values (v - 1) false
