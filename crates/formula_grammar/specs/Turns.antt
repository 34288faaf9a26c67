-- The state that a turn and a stack stand for.
use Rattle.std.specs.Prelude.{List, Option, Some, None}
use Rattle.formula_grammar.specs.declared.stack.Frame.{Frame}
use Rattle.formula_grammar.specs.declared.stack.Turn.{Turn}
use Rattle.formula_grammar.specs.declared.stack.Turn.TheVariants.{Operand, Operator, Stuck}
use Rattle.formula_grammar.specs.Machine.{State, operand, operator}

abbrev pub state_of : {V : Type 0} → Turn V → List (Frame V) → Option (State V)
state_of Operand s = Some (operand s)
state_of (Operator f) s = Some (operator f s)
state_of Stuck s = None
