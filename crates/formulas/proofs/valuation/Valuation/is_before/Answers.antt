use Rattle.std.proofs.Common.{ap, ◌∙◌}
use Rattle.std.specs.Ordering.{is_lt}
use Rattle.formulas.proofs.WordOrder.{order_of_words}
use Rattle.formulas.proofs.valuation.Valuation.is_before.Goals as goal

pub returns : goal.returns
returns c = order_of_words c.args.self c.args.other _ c.requires (c.is_lt.ensures ∙ ap is_lt c.cmp.ensures)
