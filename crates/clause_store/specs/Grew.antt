-- What a refused call leaves of a list of clauses.
use Rattle.std.specs.Prelude.{◌≡◌, ◌≤◌, List, ◌++◌, map}
use Rattle.clause_store.specs.declared.lit.Lit.{Lit}
use Rattle.clause_store.specs.Lits.{sorted_clause}
use Rattle.clause_store.specs.Clauses.{Clauses}

-- the list has grown by some variables, and by the clauses that are due up to some of them; none is lost
pub record Grew (old new : Clauses) (due : List (List Lit)) : Type 0 where
  pub added : List (List Lit)
  pub missing : List (List Lit)
  pub kept : new.list ≡ old.list ++ added
  pub part : added ++ missing ≡ map sorted_clause due
  pub more : old.vars ≤ new.vars
