-- What a counter of a distance is.
use Rattle.std.specs.Prelude.{◌≡◌, ℕ, ◌+◌, ◌≤◌, Bool, List, length, map}
use Rattle.agent_copies.specs.Limits.{counter_room}
use Rattle.clause_store.specs.declared.lit.Lit.{Lit}
use Rattle.clause_store.specs.Truth.{lit_true, AreTrue}
use Rattle.clause_store.specs.Extends.{Extends, Always}
use Rattle.totalizer.specs.Counter.{Due, count_of, IsUnary, AreFresh}

-- the values of literals
abbrev pub truth_of : (ℕ → Bool) → List Lit → List Bool
truth_of b lits = map (lit_true b) lits

-- the clauses hold in exactly one extension, and there the outputs, which are fresh, count the distance of the
-- values of the shared literals from those of the own ones
pub record IsCounter (v : ℕ) (shared own : List Lit) (dist : List Bool → List Bool → ℕ) (top : ℕ) (d : Due) : Type 0 where
  pub extends : Extends Always (AreTrue d.clauses) v d.vars
  pub few : d.vars ≤ v + counter_room
  pub size : length d.outputs ≡ top
  pub fresh : AreFresh v d.vars d.outputs
  pub in_order : (b : ℕ → Bool) → AreTrue d.clauses b → IsUnary b d.outputs
  pub value : (b : ℕ → Bool) → AreTrue d.clauses b → count_of b d.outputs ≡ dist (truth_of b shared) (truth_of b own)
