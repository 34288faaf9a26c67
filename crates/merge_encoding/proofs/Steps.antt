-- What is left to do in the loops that encode.
use Rattle.std.proofs.Common.{◌≡◌, ℕ, ◌+◌, ◌*◌, ◌≤◌, List, ◌++◌, length, map}
use Rattle.std.specs.Prelude.{sum_by}
use Rattle.clause_store.specs.declared.lit.Lit.{Lit}
use Rattle.clause_store.specs.Lits.{positive_lit, sorted_clause}
use Rattle.formulas.specs.declared.formula.Formula.{Formula}
use Rattle.formulas.specs.Formulas.{nodes_of}
use Rattle.agent_copies.specs.declared.copy.AgentCopy.{AgentCopy}
use Rattle.merge_encoding.specs.Limits.{copy_room}
use Rattle.merge_encoding.specs.MainDues.{DueCounter, definitions, copies_due}
use Rattle.merge_encoding.specs.Frames.{copy_of}

-- what is defined, and what is due for the rest, is what is due for all
pub record IsDefining (atoms : List Lit) (v0 : ℕ) (old : List (List Lit)) (all : List Formula) (v : ℕ) (now : List (List Lit)) (roots : List Lit) (rest : List Formula) : Type 0 where
  pub roots_left : roots ++ map positive_lit (definitions atoms v rest).roots ≡ map positive_lit (definitions atoms v0 all).roots
  pub vars_left : (definitions atoms v rest).vars ≡ (definitions atoms v0 all).vars
  pub list_left : now ++ map sorted_clause (definitions atoms v rest).clauses ≡ old ++ map sorted_clause (definitions atoms v0 all).clauses
  pub room : v + sum_by nodes_of rest ≤ v0 + sum_by nodes_of all
  pub more : v0 ≤ v

-- what is copied, and what is due for the rest, is what is due for all
pub record IsCopying (due : DueCounter) (shared : List Lit) (v0 : ℕ) (old : List (List Lit)) (all : List Formula) (v : ℕ) (now : List (List Lit)) (copies : List AgentCopy) (rest : List Formula) : Type 0 where
  pub copies_left : copies ++ map copy_of (copies_due due shared v rest).copies ≡ map copy_of (copies_due due shared v0 all).copies
  pub vars_left : (copies_due due shared v rest).vars ≡ (copies_due due shared v0 all).vars
  pub list_left : now ++ map sorted_clause (copies_due due shared v rest).clauses ≡ old ++ map sorted_clause (copies_due due shared v0 all).clauses
  pub room : v + copy_room * length rest ≤ v0 + copy_room * length all
  pub more : v0 ≤ v
