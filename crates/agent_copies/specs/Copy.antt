-- What is due for the copy of an agent.
use Rattle.std.specs.Prelude.{◌≡◌, ℕ, ◌+◌, ◌≤◌, Bool, List, ◌∷◌, ◌++◌, length}
use Rattle.clause_store.specs.declared.lit.Lit.{Lit}
use Rattle.clause_store.specs.Truth.{AreTrue}
use Rattle.clause_store.specs.Extends.{Extends, Always}
use Rattle.clause_store.specs.Fresh.{fresh_vars, fresh_lits}
use Rattle.formulas.specs.declared.formula.Formula.{Formula}
use Rattle.formulas.specs.Formulas.{nodes_of, holds}
use Rattle.clause_translation.specs.Definition.{definition}
use Rattle.totalizer.specs.Counter.{Due, count_of, IsUnary, AreFresh}
use Rattle.agent_copies.specs.Counter.{truth_of}
use Rattle.agent_copies.specs.Limits.{counter_room}

-- clauses as they are made, the number of variables then, the own literals, the root of the base and the outputs of
-- the counter
pub record CopyDue : Type 0 where
  pub clauses : List (List Lit)
  pub vars : ℕ
  pub own : List Lit
  pub root : ℕ
  pub away : List ℕ

-- own literals, as many as there are shared ones; the base over them; the counter, for which `due` says what is due
abbrev pub copy_due : (ℕ → List Lit → List Lit → Due) → ℕ → List Lit → Formula → CopyDue
copy_due due v shared base =
    let own = fresh_lits v (length shared) in
    let defined = definition own base (v + length shared) in
    let counter = due defined.root shared own in
    record { clauses = defined.clauses ++ counter.clauses; vars = counter.vars; own = own; root = defined.root; away = counter.outputs }

-- the own literals are those of the variables after v, as many as the shared ones. Whatever their values are, the
-- clauses hold in exactly one extension; there the root has the value of the base at the own literals, and the counter
-- counts the distance from the shared literals to the own ones. The own variables, the root and the outputs are
-- distinct and fresh
pub record IsCopy (v : ℕ) (shared : List Lit) (base : Formula) (dist : List Bool → List Bool → ℕ) (top : ℕ) (c : CopyDue) : Type 0 where
  pub own : c.own ≡ fresh_lits v (length shared)
  pub extends : Extends Always (AreTrue c.clauses) (v + length shared) c.vars
  pub few : c.vars ≤ v + length shared + nodes_of base + counter_room
  pub root : (b : ℕ → Bool) → AreTrue c.clauses b → b c.root ≡ holds base (truth_of b c.own)
  pub in_order : (b : ℕ → Bool) → AreTrue c.clauses b → IsUnary b c.away
  pub value : (b : ℕ → Bool) → AreTrue c.clauses b → count_of b c.away ≡ dist (truth_of b shared) (truth_of b c.own)
  pub size : length c.away ≡ top
  pub fresh : AreFresh v c.vars (fresh_vars v (length shared) ++ c.root ∷ c.away)
