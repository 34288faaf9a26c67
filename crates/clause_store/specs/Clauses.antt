-- Lists of clauses.
use Rattle.std.specs.Prelude.{◌≡◌, ℕ, ◌≤◌, List, [], ◌∷◌, slice_get, slice_range, unwrap_or, zero, suc}
use Rattle.std.specs.List.{AllByRecursion}
use Rattle.clause_store.specs.declared.lit.Lit.{Lit}
use Rattle.clause_store.specs.Lits.{Ascends, AreInRange}

-- a list of clauses, and the number of variables
pub record Clauses : Type 0 where
  pub list : List (List Lit)
  pub vars : ℕ

-- the clause of a number, or that of no literal where there is none
abbrev pub clause_at : List (List Lit) → ℕ → List Lit
clause_at known n = unwrap_or (slice_get known n) []

-- each clause is in rising order, and its variables are in range
pub record IsWhole (clauses : Clauses) : Type 0 where
  pub ascend : AllByRecursion Ascends clauses.list
  pub in_range : AreInRange clauses.vars clauses.list

-- the pieces of a list that end at these places, the first from `from` on
abbrev pub cut : ℕ → List ℕ → List Lit → List (List Lit)
cut from [] lits = []
cut from (end ∷ ends) lits = slice_range lits from end ∷ cut end ends lits

-- the ends rise up to the end of the whole
abbrev pub Rise : ℕ → List ℕ → ℕ → Type 0
Rise from [] all = from ≡ all
Rise from (end ∷ ends) all = (from ≤ end) × Rise end ends all

-- where the piece of a number begins
abbrev pub start_at : ℕ → List ℕ → ℕ → ℕ
start_at from ends zero = from
start_at from [] (suc k) = from
start_at from (end ∷ ends) (suc k) = start_at end ends k
