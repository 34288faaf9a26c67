use Rattle.std.specs.Prelude.{ℕ, ◌+◌, Bool, true, false, not, ◌&&◌, ◌||◌, List, max}
use Rattle.formulas.specs.Words.{truth_at}
use Rattle.formulas.specs.declared.formula.Formula.{Formula}
use Rattle.formulas.specs.declared.formula.Formula.TheOpen.{Formula-F}
use Rattle.formulas.specs.declared.formula.Formula.TheFolds.{fold-Formula}

-- the nodes of a formula, from those of its parts
abbrev pub nodes_step : Formula-F ℕ → ℕ
nodes_step Formula-F.Top = 1
nodes_step Formula-F.Bottom = 1
nodes_step (Formula-F.Atom k) = 1
nodes_step (Formula-F.Not m) = m + 1
nodes_step (Formula-F.And m n) = m + n + 1
nodes_step (Formula-F.Or m n) = m + n + 1
nodes_step (Formula-F.Implies m n) = m + n + 1
nodes_step (Formula-F.Iff m n) = m + n + 1

abbrev pub nodes_of : Formula → ℕ
nodes_of = fold-Formula ℕ nodes_step

abbrev pub depth_step : Formula-F ℕ → ℕ
depth_step Formula-F.Top = 1
depth_step Formula-F.Bottom = 1
depth_step (Formula-F.Atom k) = 1
depth_step (Formula-F.Not m) = m + 1
depth_step (Formula-F.And m n) = max m n + 1
depth_step (Formula-F.Or m n) = max m n + 1
depth_step (Formula-F.Implies m n) = max m n + 1
depth_step (Formula-F.Iff m n) = max m n + 1

abbrev pub depth_of : Formula → ℕ
depth_of = fold-Formula ℕ depth_step

-- one more than the greatest atom, or 0
abbrev pub width_step : Formula-F ℕ → ℕ
width_step Formula-F.Top = 0
width_step Formula-F.Bottom = 0
width_step (Formula-F.Atom k) = k + 1
width_step (Formula-F.Not m) = m
width_step (Formula-F.And m n) = max m n
width_step (Formula-F.Or m n) = max m n
width_step (Formula-F.Implies m n) = max m n
width_step (Formula-F.Iff m n) = max m n

abbrev pub width_of : Formula → ℕ
width_of = fold-Formula ℕ width_step

-- a truth value is that of another
abbrev pub same_truth : Bool → Bool → Bool
same_truth true b = b
same_truth false b = not b

-- one connective, from the values of its parts
abbrev pub truth_step : List Bool → Formula-F Bool → Bool
truth_step v Formula-F.Top = true
truth_step v Formula-F.Bottom = false
truth_step v (Formula-F.Atom k) = truth_at v k
truth_step v (Formula-F.Not a) = not a
truth_step v (Formula-F.And a b) = a && b
truth_step v (Formula-F.Or a b) = a || b
truth_step v (Formula-F.Implies a b) = not a || b
truth_step v (Formula-F.Iff a b) = same_truth a b

-- whether the formula is true at the valuation
abbrev pub holds : Formula → List Bool → Bool
holds f v = fold-Formula Bool (truth_step v) f
