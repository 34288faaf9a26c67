use Rattle.report_words.proofs.Growth.{part_of_first, stopped}
use Rattle.report_words.proofs.writing.write_word.Goals as goal

pub returns-in_err-write_bytes : goal.returns-in_err-write_bytes
returns-in_err-write_bytes c = stopped _ _ _ _ c.from_residual.ensures.0 (part_of_first _ _ _ _ c.in_err-write_bytes.ensures.written)
