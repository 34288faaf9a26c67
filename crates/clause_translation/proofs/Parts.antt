-- What is due for a formula, from what is due for its parts.
use Rattle.std.proofs.Common.{◌≡◌, ℕ, ◌+◌, ◌<◌, ◌≤◌, List, ◌++◌, length, max, refl, sym, ap, ◌∙◌, subst, arith, append_assoc}
use Rattle.std.specs.Prelude.{map, slice_index_or}
use Rattle.std.proofs.lemmas.List.{get_or_default}
use Rattle.clause_store.specs.declared.lit.Lit.{Lit}
use Rattle.clause_store.specs.Lits.{positive_lit, sorted_clause, IsWithin, InRange}
use Rattle.clause_store.specs.Clauses.{Clauses}
use Rattle.clause_store.specs.Grew.{Grew}
use Rattle.clause_store.proofs.Truths.{within_more}
use Rattle.clause_store.proofs.Grows.{stored-append, grew_front, grew_next}
use Rattle.clause_store.specs.Limits.{var_limit}
use Rattle.formulas.specs.declared.formula.Formula as formula
use Rattle.formulas.specs.declared.formula.Formula.{Formula}
use Rattle.formulas.specs.Formulas.{nodes_of, width_of}
use Rattle.formulas.proofs.Equations.{fold_top, fold_bottom, fold_atom, fold_not, fold_and, fold_or, fold_implies, fold_iff, nodes_top, nodes_bottom, nodes_atom, nodes_not, nodes_and, nodes_or, nodes_implies, nodes_iff, width_atom, width_not, width_and, width_or, width_implies, width_iff, formula_induction}
use Rattle.clause_translation.specs.Definition.{Definition, definition, definition_step, over_one, over_two, atom_clauses, not_clauses, and_clauses, or_clauses, implies_clauses, iff_clauses}

-- a formula with one part
pub record IsOverOne (node : Lit → Lit → List (List Lit)) (f p : Formula) : Type 0 where
  pub due : (atoms : List Lit) (v : ℕ) → definition atoms f v ≡ over_one node (definition atoms p) v
  pub nodes : nodes_of f ≡ nodes_of p + 1
  pub width : width_of f ≡ width_of p

-- a formula with two parts
pub record IsOverTwo (node : Lit → Lit → Lit → List (List Lit)) (f l r : Formula) : Type 0 where
  pub due : (atoms : List Lit) (v : ℕ) → definition atoms f v ≡ over_two node (definition atoms l) (definition atoms r) v
  pub nodes : nodes_of f ≡ nodes_of l + nodes_of r + 1
  pub width : width_of f ≡ max (width_of l) (width_of r)

pub not_parts : (f p p' : Formula) → f ≡ formula.Not p' → p ≡ p' → IsOverOne not_clauses f p
not_parts f p p' e k =
    let g : f ≡ formula.Not p = e ∙ ap (λ x. formula.Not x) (sym k) in
    record {
      due = λ atoms v. ap (λ x. definition atoms x v) g ∙ ap (λ (h : ℕ → Definition). h v) (fold_not (definition_step atoms) p);
      nodes = ap nodes_of g ∙ nodes_not p;
      width = ap width_of g ∙ width_not p;
    }

pub and_parts : (f l r l' r' : Formula) → f ≡ formula.And l' r' → l ≡ l' → r ≡ r' → IsOverTwo and_clauses f l r
and_parts f l r l' r' e k h =
    let g : f ≡ formula.And l r = e ∙ ap (λ x. formula.And x r') (sym k) ∙ ap (λ x. formula.And l x) (sym h) in
    record {
      due = λ atoms v. ap (λ x. definition atoms x v) g ∙ ap (λ (h : ℕ → Definition). h v) (fold_and (definition_step atoms) l r);
      nodes = ap nodes_of g ∙ nodes_and l r;
      width = ap width_of g ∙ width_and l r;
    }

pub or_parts : (f l r l' r' : Formula) → f ≡ formula.Or l' r' → l ≡ l' → r ≡ r' → IsOverTwo or_clauses f l r
or_parts f l r l' r' e k h =
    let g : f ≡ formula.Or l r = e ∙ ap (λ x. formula.Or x r') (sym k) ∙ ap (λ x. formula.Or l x) (sym h) in
    record {
      due = λ atoms v. ap (λ x. definition atoms x v) g ∙ ap (λ (h : ℕ → Definition). h v) (fold_or (definition_step atoms) l r);
      nodes = ap nodes_of g ∙ nodes_or l r;
      width = ap width_of g ∙ width_or l r;
    }

pub implies_parts : (f l r l' r' : Formula) → f ≡ formula.Implies l' r' → l ≡ l' → r ≡ r' → IsOverTwo implies_clauses f l r
implies_parts f l r l' r' e k h =
    let g : f ≡ formula.Implies l r = e ∙ ap (λ x. formula.Implies x r') (sym k) ∙ ap (λ x. formula.Implies l x) (sym h) in
    record {
      due = λ atoms v. ap (λ x. definition atoms x v) g ∙ ap (λ (h : ℕ → Definition). h v) (fold_implies (definition_step atoms) l r);
      nodes = ap nodes_of g ∙ nodes_implies l r;
      width = ap width_of g ∙ width_implies l r;
    }

pub iff_parts : (f l r l' r' : Formula) → f ≡ formula.Iff l' r' → l ≡ l' → r ≡ r' → IsOverTwo iff_clauses f l r
iff_parts f l r l' r' e k h =
    let g : f ≡ formula.Iff l r = e ∙ ap (λ x. formula.Iff x r') (sym k) ∙ ap (λ x. formula.Iff l x) (sym h) in
    record {
      due = λ atoms v. ap (λ x. definition atoms x v) g ∙ ap (λ (h : ℕ → Definition). h v) (fold_iff (definition_step atoms) l r);
      nodes = ap nodes_of g ∙ nodes_iff l r;
      width = ap width_of g ∙ width_iff l r;
    }

-- an atom
pub atom_due : (atoms : List Lit) (f : Formula) (k : ℕ) (d : Lit) (v : ℕ) → f ≡ formula.Atom k → width_of f ≤ length atoms → (definition atoms f v).clauses ≡ atom_clauses (positive_lit (v + 1)) (slice_index_or atoms k d)
atom_due atoms f k d v e h =
    let w : k < length atoms = omega (arith, ap width_of e, width_atom k) in
    ap (λ x. (definition atoms x v).clauses) e ∙ ap (λ (h : ℕ → Definition). (h v).clauses) (fold_atom (definition_step atoms) k)
    ∙ ap (λ x. atom_clauses (positive_lit (v + 1)) x) (get_or_default atoms k (positive_lit 0) d w)

pub atom_list : (atoms : List Lit) (f : Formula) (k : ℕ) (d : Lit) (old new : Clauses) → f ≡ formula.Atom k → width_of f ≤ length atoms → new.list ≡ old.list ++ map sorted_clause (atom_clauses (positive_lit (old.vars + 1)) (slice_index_or atoms k d)) → new.list ≡ old.list ++ map sorted_clause (definition atoms f old.vars).clauses
atom_list atoms f k d old new e h l = l ∙ ap (λ cs. old.list ++ map sorted_clause cs) (sym (atom_due atoms f k d old.vars e h))

pub atom_grew : (atoms : List Lit) (f : Formula) (k : ℕ) (d : Lit) (old new : Clauses) → f ≡ formula.Atom k → width_of f ≤ length atoms → Grew old new (atom_clauses (positive_lit (old.vars + 1)) (slice_index_or atoms k d)) → Grew old new (definition atoms f old.vars).clauses
atom_grew atoms f k d old new e h g = subst (λ cs. Grew old new cs) (sym (atom_due atoms f k d old.vars e h)) g

-- each node takes one variable
abbrev TakesOneEach : Formula → Type 0
TakesOneEach f = (atoms : List Lit) (v : ℕ) → (definition atoms f v).root ≡ v + nodes_of f

takes_one : (f p : Formula) (node : Lit → Lit → List (List Lit)) → IsOverOne node f p → TakesOneEach p → TakesOneEach f
takes_one f p node over h = λ atoms v. ap (λ (d : Definition). d.root) (over.due atoms v) ∙ omega (arith, h atoms v, over.nodes)

takes_two : (f l r : Formula) (node : Lit → Lit → Lit → List (List Lit)) → IsOverTwo node f l r → TakesOneEach l → TakesOneEach r → TakesOneEach f
takes_two f l r node over h k = λ atoms v. ap (λ (d : Definition). d.root) (over.due atoms v) ∙ omega (arith, h atoms v, k atoms (definition atoms l v).root, over.nodes)

pub root_is : (f : Formula) → TakesOneEach f
root_is = formula_induction TakesOneEach
    (λ atoms v. ap (λ (h : ℕ → Definition). (h v).root) (fold_top (definition_step atoms)) ∙ ap (λ n. v + n) (sym nodes_top))
    (λ atoms v. ap (λ (h : ℕ → Definition). (h v).root) (fold_bottom (definition_step atoms)) ∙ ap (λ n. v + n) (sym nodes_bottom))
    (λ k atoms v. ap (λ (h : ℕ → Definition). (h v).root) (fold_atom (definition_step atoms) k) ∙ ap (λ n. v + n) (sym (nodes_atom k)))
    (λ p h. takes_one (formula.Not p) p not_clauses (not_parts _ p p refl refl) h)
    (λ l r h k. takes_two (formula.And l r) l r and_clauses (and_parts _ l r l r refl refl refl) h k)
    (λ l r h k. takes_two (formula.Or l r) l r or_clauses (or_parts _ l r l r refl refl refl) h k)
    (λ l r h k. takes_two (formula.Implies l r) l r implies_clauses (implies_parts _ l r l r refl refl refl) h k)
    (λ l r h k. takes_two (formula.Iff l r) l r iff_clauses (iff_parts _ l r l r refl refl refl) h k)

abbrev HasNode : Formula → Type 0
HasNode f = 1 ≤ nodes_of f

pub some_node : (f : Formula) → HasNode f
some_node = formula_induction HasNode
    (omega (arith, nodes_top)) (omega (arith, nodes_bottom)) (λ k. omega (arith, nodes_atom k)) (λ p h. omega (arith, nodes_not p))
    (λ l r h k. omega (arith, nodes_and l r)) (λ l r h k. omega (arith, nodes_or l r)) (λ l r h k. omega (arith, nodes_implies l r)) (λ l r h k. omega (arith, nodes_iff l r))

-- the root of a part that is done
pub part_within : (atoms : List Lit) (f : Formula) (v w : ℕ) (root : Lit) → root ≡ positive_lit (definition atoms f v).root → (definition atoms f v).root ≤ w → IsWithin w root
part_within atoms f v w root e le =
    let n = some_node f in
    let x = root_is f atoms v in
    let y : root.var ≡ (definition atoms f v).root = ap (λ (l : Lit). l.var) e in
    (omega arith, omega arith)

-- after the first part
module _ (node : Lit → Lit → List (List Lit)) (f p : Formula) (atoms : List Lit) (old : Clauses) (is : IsOverOne node f p) where
  pub part_grew : (new : Clauses) → Grew old new (definition atoms p old.vars).clauses → Grew old new (definition atoms f old.vars).clauses
  part_grew new g =
      let d = definition atoms p old.vars in
      subst (λ (d : Definition). Grew old new d.clauses) (sym (is.due atoms old.vars)) (grew_front old new d.clauses (node (positive_lit (d.root + 1)) (positive_lit d.root)) g)

  module _ (mid : Clauses) (root : Lit) (list : mid.list ≡ old.list ++ map sorted_clause (definition atoms p old.vars).clauses) (vars : mid.vars ≡ (definition atoms p old.vars).root) (root_of : root ≡ positive_lit (definition atoms p old.vars).root) where
    own_due : node (positive_lit (mid.vars + 1)) root ≡ node (positive_lit ((definition atoms p old.vars).root + 1)) (positive_lit (definition atoms p old.vars).root)
    own_due = ap (λ n. node (positive_lit (n + 1)) root) vars ∙ ap (λ l. node (positive_lit ((definition atoms p old.vars).root + 1)) l) root_of

    grows_to_mid : old.vars ≤ mid.vars
    grows_to_mid = omega (arith, root_is p atoms old.vars, vars)

    pub one_grew : (new : Clauses) → Grew mid new (node (positive_lit (mid.vars + 1)) root) → Grew old new (definition atoms f old.vars).clauses
    one_grew new g =
        let d = definition atoms p old.vars in
        let own = node (positive_lit (d.root + 1)) (positive_lit d.root) in
        subst (λ (d : Definition). Grew old new d.clauses) (sym (is.due atoms old.vars))
        (grew_next old mid new d.clauses own list grows_to_mid (subst (λ cs. Grew mid new cs) own_due g))

    pub one_list : (new : Clauses) → new.list ≡ mid.list ++ map sorted_clause (node (positive_lit (mid.vars + 1)) root) → new.list ≡ old.list ++ map sorted_clause (definition atoms f old.vars).clauses
    one_list new e =
        let d = definition atoms p old.vars in
        let own = node (positive_lit (d.root + 1)) (positive_lit d.root) in
        let k = ap (λ (d : Definition). old.list ++ map sorted_clause d.clauses) (is.due atoms old.vars) in
        cc (e, list, own_due, k, append_assoc old.list (map sorted_clause d.clauses) (map sorted_clause own), stored-append d.clauses own)

-- after the left part
module _ (node : Lit → Lit → Lit → List (List Lit)) (f l r : Formula) (atoms : List Lit) (old : Clauses) (is : IsOverTwo node f l r) where
  pub left_grew : (new : Clauses) → Grew old new (definition atoms l old.vars).clauses → Grew old new (definition atoms f old.vars).clauses
  left_grew new g =
      let d = definition atoms l old.vars in
      let e = definition atoms r d.root in
      subst (λ (d : Definition). Grew old new d.clauses) (sym (is.due atoms old.vars))
      (grew_front old new d.clauses (e.clauses ++ node (positive_lit (e.root + 1)) (positive_lit d.root) (positive_lit e.root)) g)

  module _ (mid : Clauses) (list : mid.list ≡ old.list ++ map sorted_clause (definition atoms l old.vars).clauses) (vars : mid.vars ≡ (definition atoms l old.vars).root) where
    past_left : old.vars ≤ mid.vars
    past_left = omega (arith, root_is l atoms old.vars, vars)

    pub right_room : old.vars + nodes_of f ≤ var_limit → mid.vars + nodes_of r ≤ var_limit
    right_room h = omega (arith, root_is l atoms old.vars, vars, is.nodes)

    pub right_known : width_of f ≤ length atoms → width_of r ≤ length atoms
    right_known h = omega (arith, is.width)

    pub right_range : InRange old.vars atoms → InRange mid.vars atoms
    right_range h = within_more old.vars mid.vars atoms past_left h

    pub right_grew : (new : Clauses) → Grew mid new (definition atoms r mid.vars).clauses → Grew old new (definition atoms f old.vars).clauses
    right_grew new g =
        let d = definition atoms l old.vars in
        let e = definition atoms r d.root in
        let own = node (positive_lit (e.root + 1)) (positive_lit d.root) (positive_lit e.root) in
        subst (λ (d : Definition). Grew old new d.clauses) (sym (is.due atoms old.vars))
        (grew_next old mid new d.clauses (e.clauses ++ own) list past_left
        (grew_front mid new e.clauses own (subst (λ n. Grew mid new (definition atoms r n).clauses) vars g)))

    module _ (end : Clauses) (left right : Lit) (list' : end.list ≡ mid.list ++ map sorted_clause (definition atoms r mid.vars).clauses) (vars' : end.vars ≡ (definition atoms r mid.vars).root) (left_of : left ≡ positive_lit (definition atoms l old.vars).root) (right_of : right ≡ positive_lit (definition atoms r mid.vars).root) where
      right_due : definition atoms r mid.vars ≡ definition atoms r (definition atoms l old.vars).root
      right_due = ap (definition atoms r) vars

      last : end.vars ≡ (definition atoms r (definition atoms l old.vars).root).root
      last = vars' ∙ ap (λ (d : Definition). d.root) right_due

      two_own : node (positive_lit (end.vars + 1)) left right ≡ node (positive_lit ((definition atoms r (definition atoms l old.vars).root).root + 1)) (positive_lit (definition atoms l old.vars).root) (positive_lit (definition atoms r (definition atoms l old.vars).root).root)
      two_own = cc (last, left_of, right_of, right_due)

      past_right : mid.vars ≤ end.vars
      past_right = omega (arith, root_is r atoms mid.vars, vars')

      pub node_room : old.vars + nodes_of f ≤ var_limit → end.vars < var_limit
      node_room h = omega (arith, root_is l atoms old.vars, root_is r atoms mid.vars, vars, vars', is.nodes)

      pub left_within : IsWithin end.vars left
      left_within = part_within atoms l old.vars end.vars left left_of (omega (arith, past_right, vars))

      pub right_within : IsWithin end.vars right
      right_within = part_within atoms r mid.vars end.vars right right_of (omega (arith, vars'))

      pub two_grew : (new : Clauses) → Grew end new (node (positive_lit (end.vars + 1)) left right) → Grew old new (definition atoms f old.vars).clauses
      two_grew new g =
          let d = definition atoms l old.vars in
          let e = definition atoms r d.root in
          let own = node (positive_lit (e.root + 1)) (positive_lit d.root) (positive_lit e.root) in
          let rest : Grew mid new (e.clauses ++ own) = grew_next mid end new e.clauses own (list' ∙ ap (λ (d : Definition). mid.list ++ map sorted_clause d.clauses) right_due) past_right (subst (λ cs. Grew end new cs) two_own g) in
          subst (λ (d : Definition). Grew old new d.clauses) (sym (is.due atoms old.vars)) (grew_next old mid new d.clauses (e.clauses ++ own) list past_left rest)

      pub two_list : (new : Clauses) → new.list ≡ end.list ++ map sorted_clause (node (positive_lit (end.vars + 1)) left right) → new.list ≡ old.list ++ map sorted_clause (definition atoms f old.vars).clauses
      two_list new h =
          let d = definition atoms l old.vars in
          let e = definition atoms r d.root in
          let own = node (positive_lit (e.root + 1)) (positive_lit d.root) (positive_lit e.root) in
          let k = ap (λ (d : Definition). old.list ++ map sorted_clause d.clauses) (is.due atoms old.vars) in
          cc (h, list, list', right_due, two_own, k, append_assoc old.list (map sorted_clause d.clauses) (map sorted_clause e.clauses), append_assoc old.list (map sorted_clause d.clauses ++ map sorted_clause e.clauses) (map sorted_clause own), append_assoc (map sorted_clause d.clauses) (map sorted_clause e.clauses) (map sorted_clause own), stored-append d.clauses (e.clauses ++ own), stored-append e.clauses own)
