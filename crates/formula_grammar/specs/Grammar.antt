-- Which formula a list of symbols spells.
use Rattle.std.specs.Prelude.{ℕ, List, [], ◌∷◌, ◌++◌}
use Rattle.formulas.specs.declared.formula.Formula.{Formula}
use Rattle.formulas.specs.declared.formula.Formula as formula
use Rattle.formula_grammar.specs.declared.symbol.Symbol.{Symbol}
use Rattle.formula_grammar.specs.declared.symbol.Symbol.TheVariants.{Bang, Ampersand, Bar, Arrow, BothArrow, Open, Close, True, False, Name}

-- from loosest to tightest
pub data Level : Type 0 where
  equivalence : Level
  implication : Level
  disjunction : Level
  conjunction : Level
  negation : Level
  base : Level

-- at a level, a list of symbols spells a formula: -> groups to the right, the other connectives to the left
pub data Spells : Level → List Symbol → Formula → Type 0 where
  one_implication : {ts : List Symbol} {f : Formula} → Spells implication ts f → Spells equivalence ts f
  equivalent : {ss ts : List Symbol} {f g : Formula} →
      Spells equivalence ss f → Spells implication ts g → Spells equivalence (ss ++ BothArrow ∷ ts) (formula.Iff f g)
  one_disjunction : {ts : List Symbol} {f : Formula} → Spells disjunction ts f → Spells implication ts f
  implies : {ss ts : List Symbol} {f g : Formula} →
      Spells disjunction ss f → Spells implication ts g → Spells implication (ss ++ Arrow ∷ ts) (formula.Implies f g)
  one_conjunction : {ts : List Symbol} {f : Formula} → Spells conjunction ts f → Spells disjunction ts f
  either : {ss ts : List Symbol} {f g : Formula} →
      Spells disjunction ss f → Spells conjunction ts g → Spells disjunction (ss ++ Bar ∷ ts) (formula.Or f g)
  one_negation : {ts : List Symbol} {f : Formula} → Spells negation ts f → Spells conjunction ts f
  both : {ss ts : List Symbol} {f g : Formula} →
      Spells conjunction ss f → Spells negation ts g → Spells conjunction (ss ++ Ampersand ∷ ts) (formula.And f g)
  one_base : {ts : List Symbol} {f : Formula} → Spells base ts f → Spells negation ts f
  negated : {ts : List Symbol} {f : Formula} → Spells negation ts f → Spells negation (Bang ∷ ts) (formula.Not f)
  top : Spells base (True ∷ []) formula.Top
  bottom : Spells base (False ∷ []) formula.Bottom
  atom : (k : ℕ) → Spells base (Name k ∷ []) (formula.Atom k)
  bracketed : {ts : List Symbol} {f : Formula} → Spells equivalence ts f → Spells base (Open ∷ ts ++ Close ∷ []) f
