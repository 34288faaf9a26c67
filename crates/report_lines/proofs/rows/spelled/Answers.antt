use Rattle.std.proofs.Common.{◌≡◌, ◌<◌, length, set, ap, sym, ◌∙◌, arith}
use Rattle.std.proofs.lemmas.List.{length-set}
use Rattle.formulas.specs.WordLaws.{word_size}
use Rattle.report_lines.proofs.Elements.{none_read, bits_step, bits_stop, valuation_by, no_valuation_by}
use Rattle.report_lines.proofs.rows.spelled.Goals as goal

pub loop-k-init : goal.loop-k-init
loop-k-init c =
    let size : length c.new-valuation.result ≡ c.args.atoms = ap length c.new-valuation.ensures ∙ word_size c.args.atoms 0 in
    (size, none_read c.args.word.now c.new-valuation.result)

pub loop-k-preserved : goal.loop-k-preserved
loop-k-preserved c =
    let here : c.loop-k.k < length c.args.word.now = c.loop-k-test.true in
    let size : length c.loop-k.valuation ≡ c.args.atoms = c.loop-k.invariant.0 in
    let within : c.loop-k.k < length c.loop-k.valuation = omega arith in
    let long : length (set c.loop-k.valuation c.loop-k.k c.in_ok-bit.bit) ≡ c.args.atoms = length-set c.loop-k.valuation c.loop-k.k c.in_ok-bit.bit ∙ size in (
      ap length c.with-valuation.ensures ∙ long,
      rw c.with-valuation.ensures (bits_step c.args.word.now c.loop-k.valuation c.loop-k.k c.in_ok-bit.bit _ here within (sym c.in_ok-bit.ensures) c.loop-k.invariant.1),
    )

pub returns-in_err-bit : goal.returns-in_err-bit
returns-in_err-bit c =
    c.from_residual.ensures
    ∙ no_valuation_by c.args.atoms c.args.word.now c.if-word-atoms.false (bits_stop c.args.word.now _ c.loop-k.k _ c.loop-k-test.true (sym c.in_err-bit.ensures) c.loop-k.invariant.1)

pub returns : goal.returns
returns c = valuation_by c.args.atoms c.args.word.now c.loop-k.valuation c.loop-k.k c.if-word-atoms.false c.loop-k.invariant.0 (let h = c.loop-k-test.false in let e = c.if-word-atoms.false in omega arith) c.loop-k.invariant.1
