-- What a count of depths tells of the formula that symbols spell.
use Rattle.std.proofs.Common.{◌≡◌, ℕ, ◌+◌, List, [], Option, Some, None, min, refl, ap, sym, ◌∙◌, arith}
use Rattle.std.specs.Option.{option_map}
use Rattle.formulas.specs.Formulas.{depth_of}
use Rattle.formulas.specs.Limits.{depth_limit}
use Rattle.formulas.specs.declared.formula.Formula.{Formula}
use Rattle.formulas.proofs.Equations.{depth_top, depth_bottom, depth_atom, depth_not, depth_and, depth_or, depth_implies, depth_iff}
use Rattle.formula_grammar.specs.declared.symbol.Symbol.{Symbol}
use Rattle.formula_grammar.specs.declared.stack.Part.TheVariants.{Top, Bottom, Atom, Not, And, Or, Implies, Iff}
use Rattle.formula_grammar.specs.Grammar.{equivalence, Spells}
use Rattle.formula_grammar.specs.Machine.{operand, run}
use Rattle.formula_grammar.specs.Makers.{formula_of, capped_depth}
use Rattle.formula_grammar.proofs.Complete.{read_of}
use Rattle.formula_grammar.proofs.Sound.{spelled_from_run}
use Rattle.formula_grammar.proofs.Depths.{Follows, run_map}

abbrev pub capped : Formula → ℕ
capped f = min (depth_of f) (depth_limit + 1)

capped_follows : Follows capped formula_of capped_depth
capped_follows Top = omega (arith, depth_top)
capped_follows Bottom = omega (arith, depth_bottom)
capped_follows (Atom k) = omega (arith, depth_atom k)
capped_follows (Not f) = omega (arith, depth_not f)
capped_follows (And f g) = omega (arith, depth_and f g)
capped_follows (Or f g) = omega (arith, depth_or f g)
capped_follows (Implies f g) = omega (arith, depth_implies f g)
capped_follows (Iff f g) = omega (arith, depth_iff f g)

depths_are : (ts : List Symbol) → run capped_depth ts (operand []) ≡ option_map capped (run formula_of ts (operand []))
depths_are ts = run_map capped formula_of capped_depth capped_follows ts (operand [])

pub no_form : (ts : List Symbol) → run capped_depth ts (operand []) ≡ None → (f : Formula) → Spells equivalence ts f → ⊥
no_form ts h f spelled =
    let found : Some (capped f) ≡ None = ap (option_map capped) (sym (read_of spelled)) ∙ sym (depths_are ts) ∙ h in cc

-- the formula of a depth that was found
abbrev pub HasDepth : List Symbol → ℕ → Type 0
HasDepth ts d = (f : Formula) × Spells equivalence ts f × (d ≡ capped f) × (run formula_of ts (operand []) ≡ Some f)

form_on : (ts : List Symbol) (o : Option Formula) (d : ℕ) → run formula_of ts (operand []) ≡ o → Some d ≡ option_map capped o → HasDepth ts d
form_on ts None d e h = absurd (cc)
form_on ts (Some f) d e h = (f, spelled_from_run ts f e, (cc), e)

pub form_of : (ts : List Symbol) (d : ℕ) → Some d ≡ run capped_depth ts (operand []) → HasDepth ts d
form_of ts d h = form_on ts (run formula_of ts (operand [])) d refl (h ∙ depths_are ts)
