use Rattle.std.proofs.Common.{arith, ◌-◌}
use Rattle.formulas.proofs.WordOrder.{word_get}
use Rattle.formulas.proofs.valuation.bit_of.Goals as goal

pub returns : goal.returns
returns c = word_get c.args.atoms c.args.bits c.args.atom (c.args.atoms - 1 - c.args.atom) (omega arith) c.requires.fits
