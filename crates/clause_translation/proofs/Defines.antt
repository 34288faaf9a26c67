-- The clauses that are due for a formula define its value.
use Rattle.std.proofs.Common.{◌≡◌, ℕ, zero, suc, ◌+◌, ◌<◌, ◌≤◌, Bool, true, false, not, ◌&&◌, ◌||◌, List, [], ◌∷◌, ◌++◌, length, refl, sym, ap, ◌∙◌, subst, arith}
use Rattle.std.specs.Prelude.{map}
use Rattle.clause_store.specs.declared.lit.Lit.{Lit}
use Rattle.clause_store.specs.Lits.{positive_lit, IsWithin, InRange, AreInRange}
use Rattle.clause_store.specs.Truth.{Agree, AreTrue, lit_true}
use Rattle.clause_store.specs.Extends.{Extends, Always}
use Rattle.clause_store.proofs.Truths.{and_left, and_right, all_true-append, lit_agree, lit_true-negated, within_more}
use Rattle.clause_store.proofs.Blocks.{single, next_are}
use Rattle.clause_store.proofs.Each.{each_place}
use Rattle.formulas.specs.declared.formula.Formula as formula
use Rattle.formulas.specs.declared.formula.Formula.{Formula}
use Rattle.formulas.specs.Words.{truth_at}
use Rattle.formulas.specs.Formulas.{width_of, holds, same_truth}
use Rattle.formulas.proofs.Equations.{fold_top, fold_bottom, fold_atom, holds_top, holds_bottom, holds_atom, holds_not, holds_and, holds_or, holds_implies, holds_iff, width_atom, formula_induction}
use Rattle.clause_translation.specs.Definition.{Definition, definition, definition_step, Defines, atom_lit, top_clauses, bottom_clauses, atom_clauses, not_clauses, and_clauses, or_clauses, implies_clauses, iff_clauses}
use Rattle.clause_translation.proofs.Parts.{IsOverOne, IsOverTwo, not_parts, and_parts, or_parts, implies_parts, iff_parts, root_is, some_node}

-- the truth tables of the nodes: x is the node's value
top_to : (x : Bool) → ((x || false) && true) ≡ true → x ≡ true
top_to true h = refl
top_to false h = h

top_from : (x : Bool) → x ≡ true → ((x || false) && true) ≡ true
top_from true h = refl
top_from false h = h

bottom_to : (x : Bool) → ((not x || false) && true) ≡ true → x ≡ false
bottom_to true h = cc
bottom_to false h = refl

bottom_from : (x : Bool) → x ≡ false → ((not x || false) && true) ≡ true
bottom_from true h = cc
bottom_from false h = refl

atom_to : (x l : Bool) → ((not x || (l || false)) && ((x || (not l || false)) && true)) ≡ true → x ≡ l
atom_to true true h = refl
atom_to true false h = cc
atom_to false true h = cc
atom_to false false h = refl

atom_from : (x l : Bool) → x ≡ l → ((not x || (l || false)) && ((x || (not l || false)) && true)) ≡ true
atom_from true true h = refl
atom_from true false h = cc
atom_from false true h = cc
atom_from false false h = refl

not_to : (x l : Bool) → ((not x || (not l || false)) && ((x || (l || false)) && true)) ≡ true → x ≡ not l
not_to true true h = cc
not_to true false h = refl
not_to false true h = refl
not_to false false h = cc

not_from : (x l : Bool) → x ≡ not l → ((not x || (not l || false)) && ((x || (l || false)) && true)) ≡ true
not_from true true h = cc
not_from true false h = refl
not_from false true h = refl
not_from false false h = cc

and_to : (x l r : Bool) → ((not x || (l || false)) && ((not x || (r || false)) && ((x || (not l || (not r || false))) && true))) ≡ true → x ≡ (l && r)
and_to true true true h = refl
and_to true true false h = cc
and_to true false true h = cc
and_to true false false h = cc
and_to false true true h = cc
and_to false true false h = refl
and_to false false true h = refl
and_to false false false h = refl

and_from : (x l r : Bool) → x ≡ (l && r) → ((not x || (l || false)) && ((not x || (r || false)) && ((x || (not l || (not r || false))) && true))) ≡ true
and_from true true true h = refl
and_from true true false h = cc
and_from true false true h = cc
and_from true false false h = cc
and_from false true true h = cc
and_from false true false h = refl
and_from false false true h = refl
and_from false false false h = refl

or_to : (x l r : Bool) → ((x || (not l || false)) && ((x || (not r || false)) && ((not x || (l || (r || false))) && true))) ≡ true → x ≡ (l || r)
or_to true true true h = refl
or_to true true false h = refl
or_to true false true h = refl
or_to true false false h = cc
or_to false true true h = cc
or_to false true false h = cc
or_to false false true h = cc
or_to false false false h = refl

or_from : (x l r : Bool) → x ≡ (l || r) → ((x || (not l || false)) && ((x || (not r || false)) && ((not x || (l || (r || false))) && true))) ≡ true
or_from true true true h = refl
or_from true true false h = refl
or_from true false true h = refl
or_from true false false h = cc
or_from false true true h = cc
or_from false true false h = cc
or_from false false true h = cc
or_from false false false h = refl

implies_to : (x l r : Bool) → ((x || (l || false)) && ((x || (not r || false)) && ((not x || (not l || (r || false))) && true))) ≡ true → x ≡ (not l || r)
implies_to true true true h = refl
implies_to true true false h = cc
implies_to true false true h = refl
implies_to true false false h = refl
implies_to false true true h = cc
implies_to false true false h = refl
implies_to false false true h = cc
implies_to false false false h = cc

implies_from : (x l r : Bool) → x ≡ (not l || r) → ((x || (l || false)) && ((x || (not r || false)) && ((not x || (not l || (r || false))) && true))) ≡ true
implies_from true true true h = refl
implies_from true true false h = cc
implies_from true false true h = refl
implies_from true false false h = refl
implies_from false true true h = cc
implies_from false true false h = refl
implies_from false false true h = cc
implies_from false false false h = cc

iff_to : (x l r : Bool) → ((not x || (not l || (r || false))) && ((not x || (l || (not r || false))) && ((x || (l || (r || false))) && ((x || (not l || (not r || false))) && true)))) ≡ true → x ≡ same_truth l r
iff_to true true true h = refl
iff_to true true false h = cc
iff_to true false true h = cc
iff_to true false false h = refl
iff_to false true true h = cc
iff_to false true false h = refl
iff_to false false true h = refl
iff_to false false false h = cc

iff_from : (x l r : Bool) → x ≡ same_truth l r → ((not x || (not l || (r || false))) && ((not x || (l || (not r || false))) && ((x || (l || (r || false))) && ((x || (not l || (not r || false))) && true)))) ≡ true
iff_from true true true h = refl
iff_from true true false h = cc
iff_from true false true h = cc
iff_from true false false h = refl
iff_from false true true h = cc
iff_from false true false h = refl
iff_from false false true h = refl
iff_from false false false h = cc

-- the fact that goes by induction
abbrev IsDefined : Formula → Type 0
IsDefined f = (v : ℕ) (atoms : List Lit) → InRange v atoms → width_of f ≤ length atoms → Defines v atoms f (definition atoms f v)

-- a node without parts
defines_leaf : (f : Formula) (node : Lit → List (List Lit)) (v : ℕ) (atoms : List Lit) (value : (ℕ → Bool) → Bool) → definition atoms f v ≡ record { clauses = node (positive_lit (v + 1)); root = v + 1 } → ((a b : ℕ → Bool) → Agree v a b → value a ≡ value b) → AreInRange (v + 1) (node (positive_lit (v + 1))) → ((b : ℕ → Bool) → AreTrue (node (positive_lit (v + 1))) b → b (v + 1) ≡ value b) → ((b : ℕ → Bool) → b (v + 1) ≡ value b → AreTrue (node (positive_lit (v + 1))) b) → ((b : ℕ → Bool) → value b ≡ holds f (map (lit_true b) atoms)) → Defines v atoms f (definition atoms f v)
defines_leaf f node v atoms value due local within to from holds_is =
    subst (λ d. Defines v atoms f d) (sym due) record {
      extends = single Always v (node (positive_lit (v + 1))) value (λ a b h p. tt) local within (λ b p r. to b r) (λ b p r. from b r);
      value = λ b r. to b r ∙ holds_is b;
    }

-- a node over one part
defines_one : (f p : Formula) (node : Lit → Lit → List (List Lit)) (op : Bool → Bool) → IsOverOne node f p → ((w : List Bool) → holds f w ≡ op (holds p w)) → ((v l : ℕ) → 1 ≤ v → 1 ≤ l → l ≤ v → AreInRange v (node (positive_lit v) (positive_lit l))) → ((b : ℕ → Bool) (v l : ℕ) → AreTrue (node (positive_lit v) (positive_lit l)) b → b v ≡ op (b l)) → ((b : ℕ → Bool) (v l : ℕ) → b v ≡ op (b l) → AreTrue (node (positive_lit v) (positive_lit l)) b) → IsDefined p → IsDefined f
defines_one f p node op is truth within to from known = λ v atoms in_range wide.
    let d = definition atoms p v in
    let own = node (positive_lit (d.root + 1)) (positive_lit d.root) in
    let part = known v atoms in_range (omega (arith, is.width)) in
    let lo : 1 ≤ d.root = omega (arith, root_is p atoms v, some_node p) in
    let second : Extends Always (AreTrue own) d.root (d.root + 1) =
    single Always d.root own (λ b. op (b d.root)) (λ a b h p. tt) (λ a b h. ap op (h d.root lo (omega arith))) (within (d.root + 1) d.root (omega arith) lo (omega arith)) (λ b p r. to b (d.root + 1) d.root r) (λ b p r. from b (d.root + 1) d.root r) in
    subst (λ d. Defines v atoms f d) (sym (is.due atoms v)) record {
      extends = next_are Always Always v d.root (d.root + 1) d.clauses own part.extends second (λ b p r. tt);
      value = λ b r.
          let s = sym (all_true-append b d.clauses own) ∙ r in
          to b (d.root + 1) d.root (and_right _ _ s) ∙ ap op (part.value b (and_left _ _ s)) ∙ sym (truth (map (lit_true b) atoms));
    }

-- a node over two parts
defines_two : (f l r : Formula) (node : Lit → Lit → Lit → List (List Lit)) (op : Bool → Bool → Bool) → IsOverTwo node f l r → ((w : List Bool) → holds f w ≡ op (holds l w) (holds r w)) → ((v x y : ℕ) → 1 ≤ v → 1 ≤ x → x ≤ v → 1 ≤ y → y ≤ v → AreInRange v (node (positive_lit v) (positive_lit x) (positive_lit y))) → ((b : ℕ → Bool) (v x y : ℕ) → AreTrue (node (positive_lit v) (positive_lit x) (positive_lit y)) b → b v ≡ op (b x) (b y)) → ((b : ℕ → Bool) (v x y : ℕ) → b v ≡ op (b x) (b y) → AreTrue (node (positive_lit v) (positive_lit x) (positive_lit y)) b) → IsDefined l → IsDefined r → IsDefined f
defines_two f l r node op is truth within to from known known' = λ v atoms in_range wide.
    let d = definition atoms l v in
    let e = definition atoms r d.root in
    let own = node (positive_lit (e.root + 1)) (positive_lit d.root) (positive_lit e.root) in
    let lo : 1 ≤ d.root = omega (arith, root_is l atoms v, some_node l) in
    let hi : d.root ≤ e.root = omega (arith, root_is r atoms d.root) in
    let left = known v atoms in_range (omega (arith, is.width)) in
    let right = known' d.root atoms (within_more v d.root atoms left.extends.grows in_range) (omega (arith, is.width)) in
    let last : Extends Always (AreTrue own) e.root (e.root + 1) =
    single Always e.root own (λ b. op (b d.root) (b e.root)) (λ a b h p. tt) (λ a b h. let x = h d.root lo hi in let y = h e.root (omega arith) (omega arith) in cc)
    (within (e.root + 1) d.root e.root (omega arith) lo (omega arith) (omega arith) (omega arith)) (λ b p r. to b (e.root + 1) d.root e.root r) (λ b p r. from b (e.root + 1) d.root e.root r) in
    subst (λ d. Defines v atoms f d) (sym (is.due atoms v)) record {
      extends = next_are Always Always v d.root (e.root + 1) d.clauses (e.clauses ++ own) left.extends (next_are Always Always d.root e.root (e.root + 1) e.clauses own right.extends last (λ b p r. tt)) (λ b p r. tt);
      value = λ b r.
          let s = sym (all_true-append b d.clauses (e.clauses ++ own)) ∙ r in
          let t = sym (all_true-append b e.clauses own) ∙ and_right _ _ s in
          let x = left.value b (and_left _ _ s) in
          let y = right.value b (and_left _ _ t) in
          to b (e.root + 1) d.root e.root (and_right _ _ t) ∙ cc (x, y) ∙ sym (truth (map (lit_true b) atoms));
    }

truth_at-map : (g : Lit → Bool) (atoms : List Lit) (k : ℕ) → k < length atoms → truth_at (map g atoms) k ≡ g (atom_lit atoms k)
truth_at-map g [] k lt = absurd (omega arith)
truth_at-map g (x ∷ xs) zero lt = refl
truth_at-map g (x ∷ xs) (suc k) lt = truth_at-map g xs k (omega arith)

defines_atom : (k : ℕ) → IsDefined (formula.Atom k)
defines_atom k = λ v atoms in_range wide.
    let lt : k < length atoms = omega (arith, width_atom k) in
    let x = atom_lit atoms k in
    let is : IsWithin v x = each_place (IsWithin v) atoms k (positive_lit 0) in_range lt in
    let up : IsWithin (v + 1) x = (is.0, let y = is.1 in omega arith) in
    defines_leaf (formula.Atom k) (λ n. atom_clauses n x) v atoms (λ b. lit_true b x) (ap (λ (h : ℕ → Definition). h v) (fold_atom (definition_step atoms) k)) (λ a b h. lit_agree v a b x h is)
    (((omega arith, omega arith), (up, tt)), (((omega arith, omega arith), (up, tt)), tt))
    (λ b r. atom_to (b (v + 1)) (lit_true b x) (ap (λ z. ((not (b (v + 1)) || (lit_true b x || false)) && ((b (v + 1) || (z || false)) && true))) (sym (lit_true-negated b x)) ∙ r))
    (λ b r. ap (λ z. ((not (b (v + 1)) || (lit_true b x || false)) && ((b (v + 1) || (z || false)) && true))) (lit_true-negated b x) ∙ atom_from (b (v + 1)) (lit_true b x) r)
    (λ b. sym (truth_at-map (lit_true b) atoms k lt) ∙ sym (holds_atom (map (lit_true b) atoms) k))

-- the clauses define the formula
pub defines : (f : Formula) (v : ℕ) (atoms : List Lit) → InRange v atoms → width_of f ≤ length atoms → Defines v atoms f (definition atoms f v)
defines = formula_induction IsDefined
    (λ v atoms h w. defines_leaf formula.Top top_clauses v atoms (λ b. true) (ap (λ (h : ℕ → Definition). h v) (fold_top (definition_step atoms))) (λ a b h. refl) (((omega arith, omega arith), tt), tt) (λ b r. top_to (b (v + 1)) r) (λ b r. top_from (b (v + 1)) r) (λ b. sym (holds_top (map (lit_true b) atoms))))
    (λ v atoms h w. defines_leaf formula.Bottom bottom_clauses v atoms (λ b. false) (ap (λ (h : ℕ → Definition). h v) (fold_bottom (definition_step atoms))) (λ a b h. refl) (((omega arith, omega arith), tt), tt) (λ b r. bottom_to (b (v + 1)) r) (λ b r. bottom_from (b (v + 1)) r) (λ b. sym (holds_bottom (map (lit_true b) atoms))))
    defines_atom
    (λ p h. defines_one (formula.Not p) p not_clauses not (not_parts _ p p refl refl) (λ w. holds_not w p)
    (λ v l hv hl le. (((hv, omega arith), ((hl, le), tt)), (((hv, omega arith), ((hl, le), tt)), tt))) (λ b v l r. not_to (b v) (b l) r) (λ b v l r. not_from (b v) (b l) r) h)
    (λ l r h k. defines_two (formula.And l r) l r and_clauses (λ x y. x && y) (and_parts _ l r l r refl refl refl) (λ w. holds_and w l r)
    (λ v x y hv hx le hy le'. (((hv, omega arith), ((hx, le), tt)), (((hv, omega arith), ((hy, le'), tt)), (((hv, omega arith), ((hx, le), ((hy, le'), tt))), tt))))
    (λ b v x y r. and_to (b v) (b x) (b y) r) (λ b v x y r. and_from (b v) (b x) (b y) r) h k)
    (λ l r h k. defines_two (formula.Or l r) l r or_clauses (λ x y. x || y) (or_parts _ l r l r refl refl refl) (λ w. holds_or w l r)
    (λ v x y hv hx le hy le'. (((hv, omega arith), ((hx, le), tt)), (((hv, omega arith), ((hy, le'), tt)), (((hv, omega arith), ((hx, le), ((hy, le'), tt))), tt))))
    (λ b v x y r. or_to (b v) (b x) (b y) r) (λ b v x y r. or_from (b v) (b x) (b y) r) h k)
    (λ l r h k. defines_two (formula.Implies l r) l r implies_clauses (λ x y. not x || y) (implies_parts _ l r l r refl refl refl) (λ w. holds_implies w l r)
    (λ v x y hv hx le hy le'. (((hv, omega arith), ((hx, le), tt)), (((hv, omega arith), ((hy, le'), tt)), (((hv, omega arith), ((hx, le), ((hy, le'), tt))), tt))))
    (λ b v x y r. implies_to (b v) (b x) (b y) r) (λ b v x y r. implies_from (b v) (b x) (b y) r) h k)
    (λ l r h k. defines_two (formula.Iff l r) l r iff_clauses same_truth (iff_parts _ l r l r refl refl refl) (λ w. holds_iff w l r)
    (λ v x y hv hx le hy le'.
    let c : InRange v (positive_lit v ∷ positive_lit x ∷ positive_lit y ∷ []) = ((hv, omega arith), ((hx, le), ((hy, le'), tt))) in
    (c, (c, (c, (c, tt)))))
    (λ b v x y r. iff_to (b v) (b x) (b y) r) (λ b v x y r. iff_from (b v) (b x) (b y) r) h k)
