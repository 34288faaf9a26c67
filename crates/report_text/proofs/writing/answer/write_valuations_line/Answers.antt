use Rattle.report_words.proofs.Growth.{part_of_first, part_of_rest, stopped}
use Rattle.report_text.proofs.writing.answer.write_valuations_line.Goals as goal

pub returns-in_err-write_bytes : goal.returns-in_err-write_bytes
returns-in_err-write_bytes c = stopped _ _ _ _ c.from_residual.ensures.0 (part_of_first _ _ _ _ (part_of_first _ _ _ _ c.in_err-write_bytes.ensures.written))

pub returns-in_err-write_valuations : goal.returns-in_err-write_valuations
returns-in_err-write_valuations c =
    stopped _ _ _ _ c.from_residual-in_err-write_valuations.ensures.0
    (part_of_first _ _ _ _ (part_of_rest _ _ _ _ _ c.in_ok-write_bytes.ensures.written c.in_err-write_valuations.ensures))
