-- What is decided next.
use Rattle.std.specs.Prelude.{◌≡◌, ◌≢◌, ℕ, ◌+◌, ◌<◌, ◌≤◌, Bool, true, false, List, length, Some, None, slice_index_or, unwrap_or, All, Contains}
use Rattle.clause_store.specs.declared.lit.Lit.{Lit}
use Rattle.clause_store.specs.Lits.{negative_lit, positive_lit}
use Rattle.watch_lists.specs.declared.entry.Entry.{Entry}
use Rattle.watch_lists.specs.Trace.{Trace, value_of}
use Rattle.cdcl_core.specs.declared.choice.Choice.{Choice}
use Rattle.cdcl_core.specs.declared.choice.Choice.TheVariants.{Contrary, Assume, Free, Full}

-- the literal is of a variable in range, and has no value
abbrev pub IsFree : Trace → Lit → Type 0
IsFree t l = (1 ≤ l.var) × (l.var ≤ t.vars) × (value_of t.entries l ≡ None)

-- each variable has a value
abbrev pub IsFull : Trace → Type 0
IsFull t = (v : ℕ) → 1 ≤ v → v ≤ t.vars → value_of t.entries (negative_lit v) ≢ None

-- each assumption before the place is true
abbrev pub AreTrueBefore : ℕ → List Lit → List Entry → Type 0
AreTrueBefore place asked es = (k : ℕ) (d : Lit) → k < place → k < length asked → value_of es (slice_index_or asked k d) ≡ Some true

-- a literal that is assumed stands at the place
abbrev pub IsChosen : ℕ → List Lit → Trace → Choice → Type 0
IsChosen place asked t (Contrary l) = Contains asked l × (value_of t.entries l ≡ Some false)
IsChosen place asked t (Assume l) = (place < length asked) × (slice_index_or asked place l ≡ l) × (value_of t.entries l ≡ None)
IsChosen place asked t (Free l) = All (λ l. value_of t.entries l ≡ Some true) asked × IsFree t l
IsChosen place asked t Full = All (λ l. value_of t.entries l ≡ Some true) asked × IsFull t

-- the value of each variable, false where it has none
pub record HasValues (t : Trace) (values : List Bool) : Type 0 where
  pub size : length values ≡ t.vars
  pub each : (v : ℕ) → v < t.vars → slice_index_or values v false ≡ unwrap_or (value_of t.entries (positive_lit (v + 1))) false
