-- What holds while a solver looks for an answer.
use Rattle.std.specs.Prelude.{◌≡◌, ℕ, ◌<◌, ◌≤◌, true, false, List, Some, All, Contains}
use Rattle.clause_store.specs.declared.lit.Lit.{Lit}
use Rattle.watch_lists.specs.Trace.{Trace, Attached, value_of, upto, IsComplete, IsFalsified}
use Rattle.solver_laws.specs.Ready.{DecidesOnly}
use Rattle.cdcl_core.specs.Choices.{AreTrueBefore, IsFull}
use Rattle.cdcl_core.specs.declared.engine.Turn.{Turn}
use Rattle.cdcl_core.specs.declared.engine.Turn.TheVariants.{Conflict, Contrary, Full}

-- so many levels were opened by assumptions; under the first of them as many assumptions are true, the first ones, and
-- under all of them all are true where there are more levels
pub record IsAsking (asked : List Lit) (assumed : ℕ) (t : Trace) : Type 0 where
  pub le : assumed ≤ t.level
  pub decides : DecidesOnly asked assumed t.entries
  pub each : (k : ℕ) → k ≤ assumed → AreTrueBefore k asked (upto k t.entries)
  pub free : assumed < t.level → All (λ (l : Lit). value_of (upto assumed t.entries) l ≡ Some true) asked

abbrev pub IsTurn : List Lit → ℕ → List Attached → Trace → Turn → Type 0
IsTurn asked assumed watched t (Conflict n) = IsFalsified watched t.entries n
IsTurn asked assumed watched t (Contrary l) = Contains asked l × (value_of t.entries l ≡ Some false) × (assumed ≡ t.level)
IsTurn asked assumed watched t Full = IsComplete watched t.entries × All (λ (l : Lit). value_of t.entries l ≡ Some true) asked × IsFull t
