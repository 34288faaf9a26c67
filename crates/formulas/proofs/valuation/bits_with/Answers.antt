use Rattle.std.proofs.Common.{◌-◌, arith, sym}
use Rattle.std.proofs.lemmas.Nat.{one_shl}
use Rattle.std.proofs.Math.Nat.{pow-le-pow_right}
use Rattle.formulas.proofs.WordOrder.{word_set_true, word_set_false}
use Rattle.formulas.proofs.valuation.bits_with.Goals as goal

pub overflow_sub-result : goal.overflow_sub-result
overflow_sub-result c =
    let set = word_set_false c.args.atoms c.args.bits c.args.atom (c.args.atoms - 1 - c.args.atom) (omega arith) c.requires.fits (sym c.if-bit_of.ensures) in
    omega (arith, one_shl (c.args.atoms - 1 - c.args.atom) 64 (omega arith), set.0)

pub overflow_add-result : goal.overflow_add-result
overflow_add-result c =
    let set = word_set_true c.args.atoms c.args.bits c.args.atom (c.args.atoms - 1 - c.args.atom) (omega arith) c.requires.fits (sym c.if-bit_of.ensures) in
    omega (arith, one_shl (c.args.atoms - 1 - c.args.atom) 64 (omega arith), set.0, pow-le-pow_right {n = 2} (omega arith) c.requires.few)

pub returns-else-value-clause-set : goal.returns-else-value-clause-set
returns-else-value-clause-set c =
    let set = word_set_false c.args.atoms c.args.bits c.args.atom (c.args.atoms - 1 - c.args.atom) (omega arith) c.requires.fits (sym c.if-bit_of.ensures) in
    rw (one_shl (c.args.atoms - 1 - c.args.atom) 64 (omega arith), c.if-value.false) set.1

pub returns-then-value-2-clause-fits : goal.returns-then-value-2-clause-fits
returns-then-value-2-clause-fits c =
    let set = word_set_true c.args.atoms c.args.bits c.args.atom (c.args.atoms - 1 - c.args.atom) (omega arith) c.requires.fits (sym c.if-bit_of.ensures) in
    omega (arith, one_shl (c.args.atoms - 1 - c.args.atom) 64 (omega arith), set.0)

pub returns-then-value-2-clause-set : goal.returns-then-value-2-clause-set
returns-then-value-2-clause-set c =
    let set = word_set_true c.args.atoms c.args.bits c.args.atom (c.args.atoms - 1 - c.args.atom) (omega arith) c.requires.fits (sym c.if-bit_of.ensures) in
    rw (one_shl (c.args.atoms - 1 - c.args.atom) 64 (omega arith), c.if-value-2.true) set.1
