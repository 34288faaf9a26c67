-- Clauses of a list by rows: each but the empty one stands in the row of one of its literals.
use Rattle.std.specs.Prelude.{◌≡◌, ℕ, ◌+◌, ◌*◌, ◌<◌, Bool, true, List, [], ◌∷◌, length, Contains}
use Rattle.clause_store.specs.declared.lit.Lit.{Lit}
use Rattle.clause_store.specs.Clauses.{Clauses, clause_at}
use Rattle.clause_store.specs.Lits.{has, rank_of}
use Rattle.watch_lists.specs.Chains.{AreChains, IsPartition, list_at}
use Rattle.log_lines.specs.declared.index.Index.{Index}

-- the number of the clause is in the row of one of its literals
pub record IsPlaced (known : List (List Lit)) (lists : List (List ℕ)) (clause : List Lit) : Type 0 where
  pub lit : Lit
  pub number : ℕ
  pub own : has lit clause ≡ true
  pub row : Contains (list_at lists (rank_of lit)) number
  pub value : clause_at known number ≡ clause

-- the rows hold these clauses of the known ones, whose numbers are below a bound
pub record IsIndexed (heads next : List ℕ) (empty : Bool) (known : Clauses) (before : List (List Lit)) (bound : ℕ) (lists : List (List ℕ)) : Type 0 where
  pub chains : AreChains heads next lists
  pub partition : IsPartition lists
  pub all_heads : length heads ≡ 2 * known.vars + 2
  pub all_next : length next ≡ length known.list
  pub below : (at number : ℕ) → Contains (list_at lists at) number → number < bound
  pub among : (at number : ℕ) → Contains (list_at lists at) number → Contains before (clause_at known.list number)
  pub placed : (l : Lit) (ls : List Lit) → Contains before (l ∷ ls) → IsPlaced known.list lists (l ∷ ls)
  pub flagged : Contains before [] → empty ≡ true
  pub flag : empty ≡ true → Contains before []

abbrev pub IsIndexOf : Index → Clauses → List (List Lit) → ℕ → Type 0
IsIndexOf index known before bound =
    (lists : List (List ℕ)) × IsIndexed index.heads.items index.next.items index.empty known before bound lists

abbrev pub IsAnIndex : Index → Clauses → Type 0
IsAnIndex index known = (before : List (List Lit)) × (bound : ℕ) × IsIndexOf index known before bound

-- the row of this literal is empty now, and those of the clause's literals that were empty still are
pub record IsEmptied (clause : List Lit) (lit : Lit) (lists after : List (List ℕ)) : Type 0 where
  pub own : list_at after (rank_of lit) ≡ []
  pub others : (l : Lit) → has l clause ≡ true → list_at lists (rank_of l) ≡ [] → list_at after (rank_of l) ≡ []
