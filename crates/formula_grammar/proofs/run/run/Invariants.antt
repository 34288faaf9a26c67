use Rattle.std.proofs.Common.{◌≡◌, [], reverse, drop}
use Rattle.std.specs.Option.{option_and_then}
use Rattle.formula_grammar.specs.Machine.{operand, run}
use Rattle.formula_grammar.specs.Turns.{state_of}
use Rattle.formula_grammar.proofs.run.run.Given as goal

abbrev pub invariant-loop-symbol : goal.invariant-loop-symbol
invariant-loop-symbol g l =
    let made = g.M.Maker.made in
    option_and_then (run made (drop l.symbol-index l.symbols)) (state_of l.turn (reverse l.stack.items)) ≡ run made l.symbols (operand [])
