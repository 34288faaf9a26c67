use Rattle.std.proofs.Common.{◌≡◌, decimal, get_or, rules}
use Rattle.report_words.proofs.Growth.{part_of_words, all_words_written, stopped}
use Rattle.report_words.proofs.writing.write_numbers.Goals as goal

pub returns-in_err-write_number : goal.returns-in_err-write_number
returns-in_err-write_number c =
    let is : c.from.result ≡ get_or c.args.numbers.now c.loop-number.number-index 0 = search rules in
    stopped _ _ _ _ c.from_residual.ensures.0
    (part_of_words decimal c.args.numbers.now c.loop-number.number-index _ 0 _ _ _ c.loop-number-test.true is c.loop-number.invariant c.in_err-write_number.ensures)

pub returns : goal.returns
returns c = all_words_written decimal c.args.numbers.now c.loop-number.number-index _ _ c.loop-number-test.false c.loop-number.invariant
