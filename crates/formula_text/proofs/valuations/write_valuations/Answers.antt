use Rattle.formula_text.specs.ValuationWords.{valuation_word}
use Rattle.report_words.proofs.Growth.{part_of_first, part_of_rest, part_of_words, all_words_written, stopped}
use Rattle.formula_text.proofs.valuations.write_valuations.Goals as goal

pub returns-in_err-write_bytes : goal.returns-in_err-write_bytes
returns-in_err-write_bytes c =
    stopped _ _ _ _ c.from_residual.ensures.0
    (part_of_words valuation_word c.args.valuations.now c.loop-valuation.valuation-index c.valuation-item.result _ _ _ _ c.loop-valuation-test.true c.valuation-item.is c.loop-valuation.invariant
    (part_of_first _ _ _ _ c.in_err-write_bytes.ensures.written))

pub returns-in_err-write_valuation : goal.returns-in_err-write_valuation
returns-in_err-write_valuation c =
    stopped _ _ _ _ c.from_residual-in_err-write_valuation.ensures.0
    (part_of_words valuation_word c.args.valuations.now c.loop-valuation.valuation-index c.valuation-item.result _ _ _ _ c.loop-valuation-test.true c.valuation-item.is c.loop-valuation.invariant
    (part_of_rest _ _ _ _ _ c.in_ok-write_bytes.ensures.written c.in_err-write_valuation.ensures))

pub returns : goal.returns
returns c = all_words_written valuation_word c.args.valuations.now c.loop-valuation.valuation-index _ _ c.loop-valuation-test.false c.loop-valuation.invariant
