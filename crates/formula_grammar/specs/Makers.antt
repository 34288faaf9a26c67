-- What readers make of the parts of a formula.
use Rattle.std.specs.Prelude.{ℕ, ◌+◌, min, max}
use Rattle.formulas.specs.declared.formula.Formula.{Formula}
use Rattle.formulas.specs.declared.formula.Formula as formula
use Rattle.formulas.specs.Limits.{depth_limit}
use Rattle.formula_grammar.specs.declared.stack.Part.{Part}
use Rattle.formula_grammar.specs.declared.stack.Part.TheVariants.{Top, Bottom, Atom, Not, And, Or, Implies, Iff}

-- the formula itself
abbrev pub formula_of : Part Formula → Formula
formula_of Top = formula.Top
formula_of Bottom = formula.Bottom
formula_of (Atom k) = formula.Atom k
formula_of (Not f) = formula.Not f
formula_of (And f g) = formula.And f g
formula_of (Or f g) = formula.Or f g
formula_of (Implies f g) = formula.Implies f g
formula_of (Iff f g) = formula.Iff f g

-- its depth, counted up to one past the limit
abbrev pub capped_depth : Part ℕ → ℕ
capped_depth Top = 1
capped_depth Bottom = 1
capped_depth (Atom k) = 1
capped_depth (Not m) = min m depth_limit + 1
capped_depth (And m n) = min (max m n) depth_limit + 1
capped_depth (Or m n) = min (max m n) depth_limit + 1
capped_depth (Implies m n) = min (max m n) depth_limit + 1
capped_depth (Iff m n) = min (max m n) depth_limit + 1
