-- A reader with a stack, over what it makes of each part of a formula.
use Rattle.std.specs.Prelude.{Bool, true, false, List, [], ◌∷◌, Option, Some, None, if◌then◌else◌}
use Rattle.std.specs.Option.{option_and_then}
use Rattle.formula_grammar.specs.declared.symbol.Symbol.{Symbol}
use Rattle.formula_grammar.specs.declared.symbol.Symbol.TheVariants.{Bang, Ampersand, Bar, Arrow, BothArrow, Open, Close, True, False, Name}
use Rattle.formula_grammar.specs.declared.stack.Part.{Part}
use Rattle.formula_grammar.specs.declared.stack.Part.TheVariants as part
use Rattle.formula_grammar.specs.declared.stack.Frame.{Frame}
use Rattle.formula_grammar.specs.declared.stack.Frame.TheVariants.{NotOf, AndOf, OrOf, ImpliesOf, IffOf, OpenOf}
use Rattle.formula_grammar.specs.declared.stack.Bind.{Bind}
use Rattle.formula_grammar.specs.declared.stack.Bind.TheVariants.{Loose, Middle, Tight}

-- a formula must come; or a formula was read, and a mark or the end must come
pub data State (V : Type 0) : Type 0 where
  operand : List (Frame V) → State V
  operator : V → List (Frame V) → State V

-- whether the next mark closes the frame
abbrev pub closes : {V : Type 0} → Bind → Frame V → Bool
closes b NotOf = true
closes b (AndOf e) = true
closes Loose (OrOf e) = true
closes Middle (OrOf e) = true
closes Tight (OrOf e) = false
closes Loose (ImpliesOf e) = true
closes Middle (ImpliesOf e) = false
closes Tight (ImpliesOf e) = false
closes Loose (IffOf e) = true
closes Middle (IffOf e) = false
closes Tight (IffOf e) = false
closes b OpenOf = false

-- what a frame makes of its right side
abbrev pub combined : {V : Type 0} → (Part V → V) → Frame V → V → V
combined made NotOf f = made (part.Not f)
combined made (AndOf e) f = made (part.And e f)
combined made (OrOf e) f = made (part.Or e f)
combined made (ImpliesOf e) f = made (part.Implies e f)
combined made (IffOf e) f = made (part.Iff e f)
combined made OpenOf f = f

abbrev pub strip : {V : Type 0} → (Part V → V) → Bind → V → List (Frame V) → V × List (Frame V)
strip made b f [] = (f, [])
strip made b f (x ∷ s) = if closes b x then strip made b (combined made x f) s else (f, x ∷ s)

abbrev pub closed : {V : Type 0} → V × List (Frame V) → Option (State V)
closed (f, OpenOf ∷ s) = Some (operator f s)
closed (f, _) = None

abbrev pub pushed : {V : Type 0} → (V → Frame V) → V × List (Frame V) → Option (State V)
pushed frame p = Some (operand (frame p.0 ∷ p.1))

abbrev pub step : {V : Type 0} → (Part V → V) → Symbol → State V → Option (State V)
step made Bang (operand s) = Some (operand (NotOf ∷ s))
step made Open (operand s) = Some (operand (OpenOf ∷ s))
step made True (operand s) = Some (operator (made part.Top) s)
step made False (operand s) = Some (operator (made part.Bottom) s)
step made (Name k) (operand s) = Some (operator (made (part.Atom k)) s)
step made Ampersand (operator f s) = pushed AndOf (strip made Tight f s)
step made Bar (operator f s) = pushed OrOf (strip made Middle f s)
step made Arrow (operator f s) = pushed ImpliesOf (strip made Middle f s)
step made BothArrow (operator f s) = pushed IffOf (strip made Loose f s)
step made Close (operator f s) = closed (strip made Loose f s)
step made _ _ = None

abbrev pub ended : {V : Type 0} → V × List (Frame V) → Option V
ended (f, []) = Some f
ended (f, _) = None

abbrev pub answer : {V : Type 0} → (Part V → V) → State V → Option V
answer made (operand s) = None
answer made (operator f s) = ended (strip made Loose f s)

abbrev pub run : {V : Type 0} → (Part V → V) → List Symbol → State V → Option V
run made [] st = answer made st
run made (t ∷ ts) st = option_and_then (run made ts) (step made t st)
