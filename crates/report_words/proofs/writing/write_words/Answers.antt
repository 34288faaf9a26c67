use Rattle.std.proofs.Common.{refl}
use Rattle.report_words.proofs.Growth.{part_of_words, all_words_written, stopped}
use Rattle.report_words.proofs.writing.write_words.Goals as goal

pub returns-in_err-write_word : goal.returns-in_err-write_word
returns-in_err-write_word c =
    stopped _ _ _ _ c.from_residual.ensures.0
    (part_of_words (λ word. word.now) c.args.words.now c.loop-word.word-index _ _ _ _ _ c.loop-word-test.true refl c.loop-word.invariant c.in_err-write_word.ensures)

pub returns : goal.returns
returns c = all_words_written (λ word. word.now) c.args.words.now c.loop-word.word-index _ _ c.loop-word-test.false c.loop-word.invariant
