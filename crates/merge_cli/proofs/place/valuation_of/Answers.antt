use Rattle.std.proofs.Common.{◌<◌, length, get_or, ap, ◌∙◌, arith, refl}
use Rattle.std.proofs.lemmas.List.{length-set}
use Rattle.formulas.specs.WordLaws.{word_size}
use Rattle.merge_cli.proofs.Places.{one_more_digit, whole_valuation}
use Rattle.merge_cli.specs.Places.{is_one}
use Rattle.merge_cli.proofs.place.valuation_of.Goals as goal

pub loop-atom-init : goal.loop-atom-init
loop-atom-init c = (ap length c.new-valuation.ensures ∙ word_size (length c.args.digits.now) 0, refl)

pub with-valuation-requires : goal.with-valuation-requires
with-valuation-requires c = omega (arith, c.loop-atom-test.true, c.loop-atom.invariant.0)

pub loop-atom-preserved : goal.loop-atom-preserved
loop-atom-preserved c =
    let v = c.loop-atom.valuation in
    let k = c.loop-atom.atom in
    let i = c.loop-atom.invariant in
    let within : k < length v = omega (arith, c.loop-atom-test.true, i.0) in
    rw c.with-valuation.ensures (length-set v k (is_one (get_or c.args.digits.now k 0)) ∙ i.0, one_more_digit c.args.digits.now v k (get_or c.args.digits.now k 0) c.loop-atom-test.true within refl i.1)

pub returns : goal.returns
returns c = whole_valuation c.args.digits.now c.loop-atom.valuation c.loop-atom.atom c.loop-atom.invariant.0 c.loop-atom-test.false c.loop-atom.invariant.1
