use Rattle.std.proofs.Common.{◌+◌, ◌*◌}
use Rattle.formulas.specs.Formulas.{nodes_of}
use Rattle.formula_text.proofs.+writing.Given as goal

-- each step goes to a part of the formula, or from its parts to one of them
abbrev pub decreases-write_formula : goal.decreases-write_formula
decreases-write_formula a = 2 * nodes_of a.formula.now

abbrev pub decreases-write_negated : goal.decreases-write_negated
decreases-write_negated a = 2 * nodes_of a.child.now + 1

abbrev pub decreases-write_joined : goal.decreases-write_joined
decreases-write_joined a = 2 * (nodes_of a.left.now + nodes_of a.right.now) + 1
