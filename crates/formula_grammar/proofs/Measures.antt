-- The nodes and the width of a formula, by the symbols that spell it.
use Rattle.std.proofs.Common.{◌≡◌, ℕ, ◌+◌, ◌≤◌, Bool, true, false, ◌||◌, List, [], ◌∷◌, ◌++◌, cond, max, nat_le, count_by, refl, ap, sym, ◌∙◌, arith}
use Rattle.std.specs.List.{list_any}
use Rattle.std.proofs.lemmas.Bool.Decides.{nat_tests}
use Rattle.std.proofs.lemmas.List.Folds.{list_any-append}
use Rattle.std.proofs.lemmas.List.Sums.{sum_by-cons, sum_by-append}
use Rattle.formulas.specs.Formulas.{nodes_of, width_of}
use Rattle.formulas.specs.declared.formula.Formula.{Formula}
use Rattle.formulas.proofs.Equations.{nodes_top, nodes_bottom, nodes_atom, nodes_not, nodes_and, nodes_or, nodes_implies, nodes_iff, width_top, width_bottom, width_atom, width_not, width_and, width_or, width_implies, width_iff}
use Rattle.formula_grammar.specs.declared.symbol.Symbol.{Symbol}
use Rattle.formula_grammar.specs.declared.symbol.Symbol.TheVariants.{Bang, Ampersand, Bar, Arrow, BothArrow, Open, Close}
use Rattle.formula_grammar.specs.Symbols.{is_past}
use Rattle.formula_grammar.specs.Grammar.{Level, Spells, one_implication, equivalent, one_disjunction, implies, one_conjunction, either, one_negation, both, one_base, negated, top, bottom, atom, bracketed}
use Rattle.formula_grammar.proofs.Names.{node_symbol}

-- the nodes among symbols
abbrev pub nodes_in : List Symbol → ℕ
nodes_in ts = count_by node_symbol ts

nodes_between : (ss ts : List Symbol) (mark : Symbol) → node_symbol mark ≡ true → nodes_in (ss ++ mark ∷ ts) ≡ nodes_in ss + (1 + nodes_in ts)
nodes_between ss ts mark h =
    sum_by-append (λ x. cond (node_symbol x) 1 0) ss (mark ∷ ts)
    ∙ ap (λ n. nodes_in ss + n) (sum_by-cons (λ x. cond (node_symbol x) 1 0) mark ts ∙ ap (λ b. cond b 1 0 + nodes_in ts) h)

nodes_bracketed : (ts : List Symbol) → nodes_in (Open ∷ ts ++ Close ∷ []) ≡ nodes_in ts
nodes_bracketed ts =
    let inner = sum_by-append (λ x. cond (node_symbol x) 1 0) (Open ∷ ts) (Close ∷ []) in
    let front = sum_by-cons (λ x. cond (node_symbol x) 1 0) Open ts in
    let last = sum_by-cons (λ x. cond (node_symbol x) 1 0) Close [] in
    omega (arith, inner, front, last)

-- each symbol but a bracket is one node
pub nodes_spelled : {l : Level} {ts : List Symbol} {f : Formula} → Spells l ts f → nodes_of f ≡ nodes_in ts
nodes_spelled (one_implication h) = nodes_spelled h
nodes_spelled (equivalent {ss = ss} {ts = ts} {f = f} {g = g} h i) =
    omega (arith, nodes_iff f g, nodes_between ss ts BothArrow refl, nodes_spelled h, nodes_spelled i)
nodes_spelled (one_disjunction h) = nodes_spelled h
nodes_spelled (implies {ss = ss} {ts = ts} {f = f} {g = g} h i) =
    omega (arith, nodes_implies f g, nodes_between ss ts Arrow refl, nodes_spelled h, nodes_spelled i)
nodes_spelled (one_conjunction h) = nodes_spelled h
nodes_spelled (either {ss = ss} {ts = ts} {f = f} {g = g} h i) =
    omega (arith, nodes_or f g, nodes_between ss ts Bar refl, nodes_spelled h, nodes_spelled i)
nodes_spelled (one_negation h) = nodes_spelled h
nodes_spelled (both {ss = ss} {ts = ts} {f = f} {g = g} h i) =
    omega (arith, nodes_and f g, nodes_between ss ts Ampersand refl, nodes_spelled h, nodes_spelled i)
nodes_spelled (one_base h) = nodes_spelled h
nodes_spelled (negated {ts = ts} {f = f} h) =
    omega (arith, nodes_not f, sum_by-cons (λ x. cond (node_symbol x) 1 0) Bang ts, nodes_spelled h)
nodes_spelled top = nodes_top
nodes_spelled bottom = nodes_bottom
nodes_spelled (atom k) = nodes_atom k
nodes_spelled (bracketed {ts = ts} h) = nodes_spelled h ∙ sym (nodes_bracketed ts)

pub both_false : (a b : Bool) → (a || b) ≡ false → (a ≡ false) × (b ≡ false)
both_false true b h = absurd (cc)
both_false false b h = (refl, h)

-- no name is past this many atoms
abbrev pub AllWithin : ℕ → List Symbol → Type 0
AllWithin n ts = list_any (is_past n) ts ≡ false

within_between : (n : ℕ) (ss ts : List Symbol) (mark : Symbol) → is_past n mark ≡ false → AllWithin n (ss ++ mark ∷ ts) → AllWithin n ss × AllWithin n ts
within_between n ss ts mark h all =
    let parts = both_false (list_any (is_past n) ss) (is_past n mark || list_any (is_past n) ts) (sym (list_any-append (is_past n) ss (mark ∷ ts)) ∙ all) in
    (parts.0, (both_false (is_past n mark) (list_any (is_past n) ts) parts.1).1)

at_most : (m n w k : ℕ) → w ≡ max m n → m ≤ k → n ≤ k → w ≤ k
at_most m n w k e h i = omega arith

not_past : (n k : ℕ) → nat_le n k ≡ false → k + 1 ≤ n
not_past n k h = grind (arith, nat_tests)

pub width_spelled : (n : ℕ) {l : Level} {ts : List Symbol} {f : Formula} → Spells l ts f → AllWithin n ts → width_of f ≤ n
width_spelled n (one_implication h) all = width_spelled n h all
width_spelled n (equivalent {ss = ss} {ts = ts} {f = f} {g = g} h i) all =
    let parts = within_between n ss ts BothArrow refl all in at_most _ _ _ n (width_iff f g) (width_spelled n h parts.0) (width_spelled n i parts.1)
width_spelled n (one_disjunction h) all = width_spelled n h all
width_spelled n (implies {ss = ss} {ts = ts} {f = f} {g = g} h i) all =
    let parts = within_between n ss ts Arrow refl all in at_most _ _ _ n (width_implies f g) (width_spelled n h parts.0) (width_spelled n i parts.1)
width_spelled n (one_conjunction h) all = width_spelled n h all
width_spelled n (either {ss = ss} {ts = ts} {f = f} {g = g} h i) all =
    let parts = within_between n ss ts Bar refl all in at_most _ _ _ n (width_or f g) (width_spelled n h parts.0) (width_spelled n i parts.1)
width_spelled n (one_negation h) all = width_spelled n h all
width_spelled n (both {ss = ss} {ts = ts} {f = f} {g = g} h i) all =
    let parts = within_between n ss ts Ampersand refl all in at_most _ _ _ n (width_and f g) (width_spelled n h parts.0) (width_spelled n i parts.1)
width_spelled n (one_base h) all = width_spelled n h all
width_spelled n (negated {ts = ts} {f = f} h) all = omega (arith, width_not f, width_spelled n h all)
width_spelled n top all = omega (arith, width_top)
width_spelled n bottom all = omega (arith, width_bottom)
width_spelled n (atom k) all = let low = both_false (nat_le n k) false all in omega (arith, width_atom k, not_past n k low.0)
width_spelled n (bracketed {ts = ts} h) all = width_spelled n h (within_between n ts [] Close refl all).0
