-- What marks on variables tell of a clause.
use Rattle.std.specs.Prelude.{◌≡◌, ℕ, ◌+◌, Bool, true, false, List, [], ◌∷◌, Option, Some, None, length, slice_index_or, zero, suc, ◌⊎◌, if◌then◌else◌}
use Rattle.std.specs.List.{AllByRecursion}
use Rattle.clause_store.specs.declared.lit.Lit.{Lit}
use Rattle.clause_store.specs.Lits.{same_lit, has, Ascends, sorted_onto}
use Rattle.watch_lists.specs.declared.entry.Entry.{Entry}
use Rattle.watch_lists.specs.Trace.{upto, room_of}
use Rattle.solver_laws.specs.Ready.{IsFalseIn}

abbrev pub mark_of : List Bool → ℕ → Bool
mark_of marked v = slice_index_or marked v false

-- no variable from 1 to vars is marked, and no literal is kept
pub record AreClear (vars : ℕ) (m : List Bool) (k : List Lit) : Type 0 where
  pub size : length m ≡ vars + 1
  pub marks : (v : ℕ) → mark_of m v ≡ false
  pub kept : k ≡ []

-- the entries of the levels below this one
abbrev pub lower : ℕ → List Entry → List Entry
lower zero es = []
lower (suc k) es = upto k es

-- whether a literal is left out
abbrev pub is_but : Option Lit → Lit → Bool
is_but None l = false
is_but (Some but) l = same_lit l but

-- the literals but for one
abbrev pub others : Option Lit → List Lit → List Lit
others but [] = []
others but (l ∷ ls) = if is_but but l then others but ls else l ∷ others but ls

-- marks and kept literals hold a clause, where the walk has the rest of the trail before it: a variable is marked
-- exactly where its false literal is in the clause, kept literals will not be met, and all others will
pub record IsHeld (all low rest : List Entry) (m : List Bool) (k c : List Lit) : Type 0 where
  pub within : (l : Lit) → IsFalseIn rest l → IsFalseIn all l
  pub marks : (l : Lit) → IsFalseIn all l → mark_of m l.var ≡ has l c
  pub valued : (v : ℕ) → mark_of m v ≡ true → (l : Lit) × (l.var ≡ v) × IsFalseIn all l
  pub kept : (l : Lit) → has l k ≡ true → (has l c ≡ true) × (IsFalseIn rest l → IsFalseIn low l)
  pub waits : (l : Lit) → has l c ≡ true → (has l k ≡ true) ⊎ (IsFalseIn rest l × (IsFalseIn low l → ⊥))

-- the literals were added to the clause that is held, so many of which will be met
abbrev pub IsAdded : List Entry → List Entry → List Bool → List Lit → List Bool → List Lit → List Lit → ℕ → Type 0
IsAdded all low m k m' k' lits count = (rest : List Entry) (c : List Lit) → Ascends c →
    AllByRecursion (λ l. IsFalseIn all l → IsFalseIn rest l) lits → IsHeld all low rest m k c →
    IsHeld all low rest m' k' (sorted_onto c lits)
    × (AllByRecursion (IsFalseIn all) lits → room_of low (sorted_onto c lits) ≡ room_of low c + count)
