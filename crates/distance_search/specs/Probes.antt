-- Questions whose answers prove nothing.
use Rattle.std.specs.Prelude.{◌≡◌, ◌≢◌, ℕ, List, AllPairs, length}
use Rattle.clause_store.specs.declared.lit.Lit.{Lit}
use Rattle.clause_store.specs.Lits.{InRange}
use Rattle.distance_search.specs.declared.warming.Told.{Told}
use Rattle.distance_search.specs.declared.warming.Told.TheVariants.{Above, Seen, Nothing}

-- the literals are of distinct variables up to one
pub record MayBeAssumed (vars : ℕ) (lits : List Lit) : Type 0 where
  pub in_range : InRange vars lits
  pub distinct : AllPairs (λ a b. a.var ≢ b.var) lits

-- an assignment has a value for each variable
abbrev pub IsSized : ℕ → Told → Type 0
IsSized vars Above = Unit {0}
IsSized vars (Seen values) = length values ≡ vars
IsSized vars Nothing = Unit {0}
