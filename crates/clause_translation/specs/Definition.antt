-- The clauses that define a formula, after Tseitin: each node has a variable of its own.
use Rattle.std.specs.Prelude.{◌≡◌, ℕ, ◌+◌, Bool, List, [], ◌∷◌, ◌++◌, map, slice_index_or}
use Rattle.clause_store.specs.declared.lit.Lit.{Lit}
use Rattle.clause_store.specs.Lits.{positive_lit, negated}
use Rattle.clause_store.specs.Truth.{lit_true, AreTrue}
use Rattle.clause_store.specs.Extends.{Extends, Always}
use Rattle.formulas.specs.Formulas.{holds}
use Rattle.formulas.specs.declared.formula.Formula.{Formula}
use Rattle.formulas.specs.declared.formula.Formula.TheOpen.{Formula-F}
use Rattle.formulas.specs.declared.formula.Formula.TheFolds.{fold-Formula}

-- what is due for a formula: clauses, as they are made, and the root, which is the last variable
pub record Definition : Type 0 where
  pub clauses : List (List Lit)
  pub root : ℕ

-- a node's own clauses, from its literal and those of its parts
abbrev pub top_clauses : Lit → List (List Lit)
top_clauses v = (v ∷ []) ∷ []

abbrev pub bottom_clauses : Lit → List (List Lit)
bottom_clauses v = (negated v ∷ []) ∷ []

abbrev pub atom_clauses : Lit → Lit → List (List Lit)
atom_clauses v x = (negated v ∷ x ∷ []) ∷ (v ∷ negated x ∷ []) ∷ []

abbrev pub not_clauses : Lit → Lit → List (List Lit)
not_clauses v l = (negated v ∷ negated l ∷ []) ∷ (v ∷ l ∷ []) ∷ []

abbrev pub and_clauses : Lit → Lit → Lit → List (List Lit)
and_clauses v l r = (negated v ∷ l ∷ []) ∷ (negated v ∷ r ∷ []) ∷ (v ∷ negated l ∷ negated r ∷ []) ∷ []

abbrev pub or_clauses : Lit → Lit → Lit → List (List Lit)
or_clauses v l r = (v ∷ negated l ∷ []) ∷ (v ∷ negated r ∷ []) ∷ (negated v ∷ l ∷ r ∷ []) ∷ []

abbrev pub implies_clauses : Lit → Lit → Lit → List (List Lit)
implies_clauses v l r = (v ∷ l ∷ []) ∷ (v ∷ negated r ∷ []) ∷ (negated v ∷ negated l ∷ r ∷ []) ∷ []

abbrev pub iff_clauses : Lit → Lit → Lit → List (List Lit)
iff_clauses v l r =
    (negated v ∷ negated l ∷ r ∷ []) ∷ (negated v ∷ l ∷ negated r ∷ []) ∷ (v ∷ l ∷ r ∷ []) ∷ (v ∷ negated l ∷ negated r ∷ []) ∷ []

-- the literal of atom k
abbrev pub atom_lit : List Lit → ℕ → Lit
atom_lit atoms k = slice_index_or atoms k (positive_lit 0)

-- a node without parts, over v variables
abbrev pub leaf_node : (Lit → List (List Lit)) → ℕ → Definition
leaf_node node v = record { clauses = node (positive_lit (v + 1)); root = v + 1 }

-- the part first, then the node
abbrev pub over_one : (Lit → Lit → List (List Lit)) → (ℕ → Definition) → ℕ → Definition
over_one node part v =
    let p = part v in
    record { clauses = p.clauses ++ node (positive_lit (p.root + 1)) (positive_lit p.root); root = p.root + 1 }

-- the left part first, then the right one, then the node
abbrev pub over_two : (Lit → Lit → Lit → List (List Lit)) → (ℕ → Definition) → (ℕ → Definition) → ℕ → Definition
over_two node left right v =
    let l = left v in
    let r = right l.root in
    record {
      clauses = l.clauses ++ (r.clauses ++ node (positive_lit (r.root + 1)) (positive_lit l.root) (positive_lit r.root));
      root = r.root + 1;
    }

-- one node, from what is due for its parts
abbrev pub definition_step : List Lit → Formula-F (ℕ → Definition) → ℕ → Definition
definition_step atoms Formula-F.Top = leaf_node top_clauses
definition_step atoms Formula-F.Bottom = leaf_node bottom_clauses
definition_step atoms (Formula-F.Atom k) = leaf_node (λ v. atom_clauses v (atom_lit atoms k))
definition_step atoms (Formula-F.Not p) = over_one not_clauses p
definition_step atoms (Formula-F.And l r) = over_two and_clauses l r
definition_step atoms (Formula-F.Or l r) = over_two or_clauses l r
definition_step atoms (Formula-F.Implies l r) = over_two implies_clauses l r
definition_step atoms (Formula-F.Iff l r) = over_two iff_clauses l r

-- what is due for the formula after v variables, where atom k has the literal k of the list
abbrev pub definition : List Lit → Formula → ℕ → Definition
definition atoms f v = fold-Formula (ℕ → Definition) (definition_step atoms) f v

-- each assignment of the first v variables extends in exactly one way to those up to the root so that the
-- clauses are true, and there the root has the formula's value
pub record Defines (v : ℕ) (atoms : List Lit) (f : Formula) (d : Definition) : Type 0 where
  pub extends : Extends Always (AreTrue d.clauses) v d.root
  pub value : (b : ℕ → Bool) → AreTrue d.clauses b → b d.root ≡ holds f (map (lit_true b) atoms)
