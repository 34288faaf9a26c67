-- How large drawn formulas are, and where they are true.
use Rattle.std.proofs.Common.{◌≡◌, ℕ, zero, suc, ◌+◌, ◌-◌, ◌*◌, ◌<◌, ◌≤◌, max, Bool, true, false, not, ◌&&◌, ◌||◌, List, [], ◌∷◌, length, ap, ◌∙◌, refl, arith}
use Rattle.std.specs.Prelude.{slice_index_or}
use Rattle.std.proofs.lemmas.List.FromFn.{length-map-range_with_len}
use Rattle.formulas.specs.Words.{truth_at}
use Rattle.formulas.specs.Formulas.{holds, nodes_of, depth_of, width_of}
use Rattle.formulas.specs.declared.formula.Formula.{Formula}
use Rattle.formulas.specs.declared.formula.Formula.TheVariants.{Atom, And, Or}
use Rattle.formulas.proofs.Equations.{holds_atom, holds_not, holds_and, holds_or, nodes_atom, nodes_not, nodes_and, nodes_or, width_atom, width_not, width_and, width_or, depth_atom, depth_not, depth_and, depth_or}
use Rattle.merge_model.specs.Merging.{HasModel}
use Rattle.bench_problem.specs.Draws.{state_after, drawn, drawn_bit}
use Rattle.bench_problem.specs.Planted.{atom_count, literal_of, disjunction_of, conjunction_to, planted_values, planted_disjunction, planted, ask_of}
use Rattle.bench_problem.proofs.DrawLaws.{drawn_below}

-- a truth value, read in place
pub truth_get : (values : List Bool) (k : ℕ) (d : Bool) → k < length values → truth_at values k ≡ slice_index_or values k d
truth_get [] k d within = absurd (omega arith)
truth_get (value ∷ values) zero d within = refl
truth_get (value ∷ values) (suc k) d within = truth_get values k d (omega arith)

pub planted_first : (state : ℕ) → planted state 0 ≡ planted_disjunction state 0
unfolding conjunction_to
planted_first state = refl

-- one more disjunction
pub planted_more : (state number : ℕ) → 1 ≤ number → And (planted state (number - 1)) (planted_disjunction state number) ≡ planted state number
unfolding conjunction_to
planted_more state zero some = absurd (omega arith)
planted_more state (suc last) some =
    let before : suc last - 1 ≡ last = omega arith in
    ap (λ number. And (planted state number) (planted_disjunction state (suc last))) before

-- a formula over the atoms with at most so many nodes and of at most this depth
pub record IsSmall (size height : ℕ) (formula : Formula) : Type 0 where
  pub nodes : nodes_of formula ≤ size
  pub depth : depth_of formula ≤ height
  pub width : width_of formula ≤ atom_count

literal_small : (atom : ℕ) (positive : Bool) → atom < atom_count → IsSmall 2 2 (literal_of atom positive)
literal_small atom true below = record {
  nodes = omega (arith, nodes_atom atom);
  depth = omega (arith, depth_atom atom);
  width = omega (arith, width_atom atom);
}
literal_small atom false below = record {
  nodes = omega (arith, nodes_not (Atom atom), nodes_atom atom);
  depth = omega (arith, depth_not (Atom atom), depth_atom atom);
  width = omega (arith, width_not (Atom atom), width_atom atom);
}

or_small : (m n d e : ℕ) (f g : Formula) → IsSmall m d f → IsSmall n e g → IsSmall (m + n + 1) (max d e + 1) (Or f g)
or_small m n d e f g h k = record {
  nodes = omega (arith, nodes_or f g, h.nodes, k.nodes);
  depth = omega (arith, depth_or f g, h.depth, k.depth);
  width = omega (arith, width_or f g, h.width, k.width);
}

drawn_literal_small : (state place : ℕ) (positive : Bool) → IsSmall 2 2 (literal_of (drawn state place atom_count) positive)
drawn_literal_small state place positive = literal_small (drawn state place atom_count) positive (drawn_below state place atom_count (omega arith))

disjunction_small : (values : List Bool) (state : ℕ) → IsSmall 8 4 (disjunction_of values state)
disjunction_small values state =
    or_small 5 2 3 2 _ _
    (or_small 2 2 2 2 _ _ (drawn_literal_small state 0 (truth_at values (drawn state 0 atom_count))) (drawn_literal_small state 1 (drawn_bit state 2)))
    (drawn_literal_small state 3 (drawn_bit state 4))

pub ask_small : (state : ℕ) → IsSmall 5 3 (ask_of state)
ask_small state = or_small 2 2 2 2 _ _ (drawn_literal_small state 0 (drawn_bit state 1)) (drawn_literal_small state 2 (drawn_bit state 3))

conjunction_small : (formula : ℕ → Formula) → ((k : ℕ) → IsSmall 8 4 (formula k)) → (last : ℕ) → IsSmall (9 * last + 8) (last + 4) (conjunction_to formula last)
unfolding conjunction_to
conjunction_small formula each zero = each 0
conjunction_small formula each (suc last) =
    let f = conjunction_to formula last in
    let g = formula (suc last) in
    let h = conjunction_small formula each last in
    let k = each (suc last) in
    record {
      nodes = omega (arith, nodes_and f g, h.nodes, k.nodes);
      depth = omega (arith, depth_and f g, h.depth, k.depth);
      width = omega (arith, width_and f g, h.width, k.width);
    }

pub planted_small : (state last : ℕ) → IsSmall (9 * last + 8) (last + 4) (planted state last)
planted_small state last =
    conjunction_small (planted_disjunction state) (λ k. disjunction_small (planted_values state) (state_after state (atom_count + 5 * k))) last

literal_true : (values : List Bool) (atom : ℕ) (positive : Bool) → truth_at values atom ≡ positive → holds (literal_of atom positive) values ≡ true
literal_true values atom true same = holds_atom values atom ∙ same
literal_true values atom false same = holds_not values (Atom atom) ∙ ap not (holds_atom values atom ∙ same)

disjunction_true : (values : List Bool) (state : ℕ) → holds (disjunction_of values state) values ≡ true
disjunction_true values state =
    let atom = drawn state 0 atom_count in
    let l = literal_of atom (truth_at values atom) in
    let m = literal_of (drawn state 1 atom_count) (drawn_bit state 2) in
    let r = literal_of (drawn state 3 atom_count) (drawn_bit state 4) in
    holds_or values (Or l m) r
    ∙ ap (λ b. b || holds r values) (holds_or values l m ∙ ap (λ b. b || holds m values) (literal_true values atom (truth_at values atom) refl))

conjunction_true : (values : List Bool) (formula : ℕ → Formula) → ((k : ℕ) → holds (formula k) values ≡ true) → (last : ℕ) → holds (conjunction_to formula last) values ≡ true
unfolding conjunction_to
conjunction_true values formula each zero = each 0
conjunction_true values formula each (suc last) =
    holds_and values (conjunction_to formula last) (formula (suc last))
    ∙ ap (λ b. b && holds (formula (suc last)) values) (conjunction_true values formula each last) ∙ each (suc last)

-- a planted formula is true at its values
pub planted_model : (state last : ℕ) → HasModel atom_count (planted state last)
planted_model state last =
    let values = planted_values state in (
      values,
      record {
        size = length-map-range_with_len (drawn_bit state) 0 atom_count;
        true_there = conjunction_true values (planted_disjunction state) (λ k. disjunction_true values (state_after state (atom_count + 5 * k))) last;
      },
    )
