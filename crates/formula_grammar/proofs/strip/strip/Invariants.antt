use Rattle.std.proofs.Common.{◌≡◌, reverse, vec_len}
use Rattle.formula_grammar.specs.Machine.{strip}
use Rattle.formula_grammar.proofs.strip.strip.Given as goal

abbrev pub invariant-loop-frame : goal.invariant-loop-frame
invariant-loop-frame g l =
    let made = g.M.Maker.made in
    strip made l.bind l.value (reverse l.stack.items) ≡ strip made l.fn.bind l.fn.right (reverse l.fn.stack.items)

abbrev pub decreases-loop-frame : goal.decreases-loop-frame
decreases-loop-frame g l = vec_len l.stack
