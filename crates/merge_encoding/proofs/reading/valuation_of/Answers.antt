use Rattle.std.proofs.Common.{length, refl, ap, ◌∙◌}
use Rattle.formulas.specs.WordLaws.{word_size}
use Rattle.merge_encoding.proofs.reading.valuation_of.Goals as goal

pub loop-k-init : goal.loop-k-init
loop-k-init c = record { size = ap length c.new-valuation.ensures ∙ word_size (length c.args.lits.now) 0; first = refl }
