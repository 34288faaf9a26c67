-- What holds, nodes_of, depth_of and width_of are at each connective, and induction over formulas.
use Rattle.std.proofs.Common.{ℕ, ◌+◌, ◌≡◌, Bool, true, false, not, ◌&&◌, ◌||◌, List, max, sym, ap, ◌∙◌, subst}
use Rattle.formulas.specs.Words.{truth_at}
use Rattle.formulas.specs.Formulas.{holds, nodes_of, depth_of, width_of, truth_step, nodes_step, depth_step, width_step, same_truth}
use Rattle.formulas.specs.declared.formula.Formula as formula
use Rattle.formulas.specs.declared.formula.Formula.{Formula}
use Rattle.formulas.specs.declared.formula.Formula.TheOpen.{Formula-F}
use Rattle.formulas.specs.declared.formula.Formula.TheViews.{roll-Formula}
use Rattle.formulas.specs.declared.formula.Formula.TheVariants.{rolls-Top, rolls-Bottom, rolls-Atom, rolls-Not, rolls-And, rolls-Or, rolls-Implies, rolls-Iff}
use Rattle.formulas.specs.declared.formula.Formula.TheFolds.{fold-Formula, fold-roll-Formula, ind-Formula, map-Formula}

-- a fold at each variant
module _ {X : Type 0} (step : Formula-F X → X) where
  pub fold_top : fold-Formula X step formula.Top ≡ step Formula-F.Top
  fold_top = ap (fold-Formula X step) (sym rolls-Top) ∙ fold-roll-Formula X step Formula-F.Top

  pub fold_bottom : fold-Formula X step formula.Bottom ≡ step Formula-F.Bottom
  fold_bottom = ap (fold-Formula X step) (sym rolls-Bottom) ∙ fold-roll-Formula X step Formula-F.Bottom

  pub fold_atom : (k : ℕ) → fold-Formula X step (formula.Atom k) ≡ step (Formula-F.Atom k)
  fold_atom k = ap (fold-Formula X step) (sym (rolls-Atom k)) ∙ fold-roll-Formula X step (Formula-F.Atom k)

  pub fold_not : (f : Formula) → fold-Formula X step (formula.Not f) ≡ step (Formula-F.Not (fold-Formula X step f))
  fold_not f = ap (fold-Formula X step) (sym (rolls-Not f)) ∙ fold-roll-Formula X step (Formula-F.Not f)

  pub fold_and : (f g : Formula) → fold-Formula X step (formula.And f g) ≡ step (Formula-F.And (fold-Formula X step f) (fold-Formula X step g))
  fold_and f g = ap (fold-Formula X step) (sym (rolls-And f g)) ∙ fold-roll-Formula X step (Formula-F.And f g)

  pub fold_or : (f g : Formula) → fold-Formula X step (formula.Or f g) ≡ step (Formula-F.Or (fold-Formula X step f) (fold-Formula X step g))
  fold_or f g = ap (fold-Formula X step) (sym (rolls-Or f g)) ∙ fold-roll-Formula X step (Formula-F.Or f g)

  pub fold_implies : (f g : Formula) → fold-Formula X step (formula.Implies f g) ≡ step (Formula-F.Implies (fold-Formula X step f) (fold-Formula X step g))
  fold_implies f g = ap (fold-Formula X step) (sym (rolls-Implies f g)) ∙ fold-roll-Formula X step (Formula-F.Implies f g)

  pub fold_iff : (f g : Formula) → fold-Formula X step (formula.Iff f g) ≡ step (Formula-F.Iff (fold-Formula X step f) (fold-Formula X step g))
  fold_iff f g = ap (fold-Formula X step) (sym (rolls-Iff f g)) ∙ fold-roll-Formula X step (Formula-F.Iff f g)

-- truth at each connective
module _ (v : List Bool) where
  pub holds_top : holds formula.Top v ≡ true
  holds_top = fold_top (truth_step v)

  pub holds_bottom : holds formula.Bottom v ≡ false
  holds_bottom = fold_bottom (truth_step v)

  pub holds_atom : (k : ℕ) → holds (formula.Atom k) v ≡ truth_at v k
  holds_atom k = fold_atom (truth_step v) k

  pub holds_not : (f : Formula) → holds (formula.Not f) v ≡ not (holds f v)
  holds_not f = fold_not (truth_step v) f

  pub holds_and : (f g : Formula) → holds (formula.And f g) v ≡ (holds f v && holds g v)
  holds_and f g = fold_and (truth_step v) f g

  pub holds_or : (f g : Formula) → holds (formula.Or f g) v ≡ (holds f v || holds g v)
  holds_or f g = fold_or (truth_step v) f g

  pub holds_implies : (f g : Formula) → holds (formula.Implies f g) v ≡ (not (holds f v) || holds g v)
  holds_implies f g = fold_implies (truth_step v) f g

  pub holds_iff : (f g : Formula) → holds (formula.Iff f g) v ≡ same_truth (holds f v) (holds g v)
  holds_iff f g = fold_iff (truth_step v) f g

pub nodes_top : nodes_of formula.Top ≡ 1
nodes_top = fold_top nodes_step

pub nodes_bottom : nodes_of formula.Bottom ≡ 1
nodes_bottom = fold_bottom nodes_step

pub nodes_atom : (k : ℕ) → nodes_of (formula.Atom k) ≡ 1
nodes_atom k = fold_atom nodes_step k

pub nodes_not : (f : Formula) → nodes_of (formula.Not f) ≡ nodes_of f + 1
nodes_not f = fold_not nodes_step f

pub nodes_and : (f g : Formula) → nodes_of (formula.And f g) ≡ nodes_of f + nodes_of g + 1
nodes_and f g = fold_and nodes_step f g

pub nodes_or : (f g : Formula) → nodes_of (formula.Or f g) ≡ nodes_of f + nodes_of g + 1
nodes_or f g = fold_or nodes_step f g

pub nodes_implies : (f g : Formula) → nodes_of (formula.Implies f g) ≡ nodes_of f + nodes_of g + 1
nodes_implies f g = fold_implies nodes_step f g

pub nodes_iff : (f g : Formula) → nodes_of (formula.Iff f g) ≡ nodes_of f + nodes_of g + 1
nodes_iff f g = fold_iff nodes_step f g

pub depth_top : depth_of formula.Top ≡ 1
depth_top = fold_top depth_step

pub depth_bottom : depth_of formula.Bottom ≡ 1
depth_bottom = fold_bottom depth_step

pub depth_atom : (k : ℕ) → depth_of (formula.Atom k) ≡ 1
depth_atom k = fold_atom depth_step k

pub depth_not : (f : Formula) → depth_of (formula.Not f) ≡ depth_of f + 1
depth_not f = fold_not depth_step f

pub depth_and : (f g : Formula) → depth_of (formula.And f g) ≡ max (depth_of f) (depth_of g) + 1
depth_and f g = fold_and depth_step f g

pub depth_or : (f g : Formula) → depth_of (formula.Or f g) ≡ max (depth_of f) (depth_of g) + 1
depth_or f g = fold_or depth_step f g

pub depth_implies : (f g : Formula) → depth_of (formula.Implies f g) ≡ max (depth_of f) (depth_of g) + 1
depth_implies f g = fold_implies depth_step f g

pub depth_iff : (f g : Formula) → depth_of (formula.Iff f g) ≡ max (depth_of f) (depth_of g) + 1
depth_iff f g = fold_iff depth_step f g

pub width_top : width_of formula.Top ≡ 0
width_top = fold_top width_step

pub width_bottom : width_of formula.Bottom ≡ 0
width_bottom = fold_bottom width_step

pub width_atom : (k : ℕ) → width_of (formula.Atom k) ≡ k + 1
width_atom k = fold_atom width_step k

pub width_not : (f : Formula) → width_of (formula.Not f) ≡ width_of f
width_not f = fold_not width_step f

pub width_and : (f g : Formula) → width_of (formula.And f g) ≡ max (width_of f) (width_of g)
width_and f g = fold_and width_step f g

pub width_or : (f g : Formula) → width_of (formula.Or f g) ≡ max (width_of f) (width_of g)
width_or f g = fold_or width_step f g

pub width_implies : (f g : Formula) → width_of (formula.Implies f g) ≡ max (width_of f) (width_of g)
width_implies f g = fold_implies width_step f g

pub width_iff : (f g : Formula) → width_of (formula.Iff f g) ≡ max (width_of f) (width_of g)
width_iff f g = fold_iff width_step f g

-- a fact of each formula, from that of its parts
module _ (Q : Formula → Type 0)
    (top : Q formula.Top) (bottom : Q formula.Bottom) (atom : (k : ℕ) → Q (formula.Atom k))
    (negation : (f : Formula) → Q f → Q (formula.Not f))
    (conjunction : (f g : Formula) → Q f → Q g → Q (formula.And f g))
    (disjunction : (f g : Formula) → Q f → Q g → Q (formula.Or f g))
    (implication : (f g : Formula) → Q f → Q g → Q (formula.Implies f g))
    (equivalence : (f g : Formula) → Q f → Q g → Q (formula.Iff f g)) where
  abbrev Known : Type 0
  Known = (f : Formula) × Q f

  at_layer : (y : Formula-F Known) → Q (roll-Formula (map-Formula Known Formula (λ e. e.0) y))
  at_layer Formula-F.Top = subst Q (sym rolls-Top) top
  at_layer Formula-F.Bottom = subst Q (sym rolls-Bottom) bottom
  at_layer (Formula-F.Atom k) = subst Q (sym (rolls-Atom k)) (atom k)
  at_layer (Formula-F.Not e) = subst Q (sym (rolls-Not e.0)) (negation e.0 e.1)
  at_layer (Formula-F.And d e) = subst Q (sym (rolls-And d.0 e.0)) (conjunction d.0 e.0 d.1 e.1)
  at_layer (Formula-F.Or d e) = subst Q (sym (rolls-Or d.0 e.0)) (disjunction d.0 e.0 d.1 e.1)
  at_layer (Formula-F.Implies d e) = subst Q (sym (rolls-Implies d.0 e.0)) (implication d.0 e.0 d.1 e.1)
  at_layer (Formula-F.Iff d e) = subst Q (sym (rolls-Iff d.0 e.0)) (equivalence d.0 e.0 d.1 e.1)

  pub formula_induction : (f : Formula) → Q f
  formula_induction = ind-Formula Q (λ x y is. subst (λ (z : Formula-F Formula). Q (roll-Formula z)) is (at_layer y))
