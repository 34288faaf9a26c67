-- The clauses of a disjunction of variables.
use Rattle.std.specs.Prelude.{◌≡◌, ℕ, ◌+◌, Bool, false, ◌||◌, List, [], ◌∷◌, ◌++◌, map, if◌then◌else◌}
use Rattle.clause_store.specs.declared.lit.Lit.{Lit}
use Rattle.clause_store.specs.Lits.{positive_lit, negative_lit}
use Rattle.clause_store.specs.Truth.{AreTrue}
use Rattle.clause_store.specs.Extends.{Extends, Always}
use Rattle.totalizer.specs.Counter.{Due, count_of, IsUnary}

-- one of the variables is true
abbrev pub any_of : (ℕ → Bool) → List ℕ → Bool
any_of b [] = false
any_of b (x ∷ xs) = b x || any_of b xs

-- variable r is true where x is
abbrev pub lifts : ℕ → ℕ → List Lit
lifts r x = negative_lit x ∷ positive_lit r ∷ []

-- some of the variables is true where r is
abbrev pub needs_one : ℕ → List ℕ → List Lit
needs_one r xs = negative_lit r ∷ map positive_lit xs

-- what is due for either of the variables, after v variables
abbrev pub either_due : ℕ → List ℕ → Due
either_due v xs = record {
  clauses = map (lifts (v + 1)) xs ++ needs_one (v + 1) xs ∷ [];
  vars = v + 1;
  outputs = (v + 1) ∷ [];
}

-- the clauses hold in exactly one extension, and there the outputs count 1 where one of the variables is true, and 0
-- elsewhere
pub record IsEither (v : ℕ) (xs : List ℕ) (d : Due) : Type 0 where
  pub extends : Extends Always (AreTrue d.clauses) v d.vars
  pub in_order : (b : ℕ → Bool) → AreTrue d.clauses b → IsUnary b d.outputs
  pub value : (b : ℕ → Bool) → AreTrue d.clauses b → count_of b d.outputs ≡ (if any_of b xs then 1 else 0)
