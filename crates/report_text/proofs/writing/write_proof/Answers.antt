use Rattle.std.proofs.Common.{sym, append_assoc}
use Rattle.std.specs.Prelude.{codes}
use Rattle.report_words.specs.Words.{later_text}
use Rattle.report_words.proofs.Growth.{part_of_first, part_of_rest, rest_written, same_text}
use Rattle.report_text.specs.WritingItems.{proof_words}
use Rattle.report_text.proofs.WritingTexts.{stopped_as}
use Rattle.report_text.proofs.writing.write_proof.Goals as goal

pub returns-in_err-write_bytes : goal.returns-in_err-write_bytes
returns-in_err-write_bytes c =
    stopped_as _ _ _ _ _ c.from_residual.ensures.0 (append_assoc (codes "shown") (later_text (proof_words c.args.proof)) (codes "\n"))
    (part_of_first _ _ (codes "shown") _ c.in_err-write_bytes.ensures.written)

pub returns-in_err-write_proof_words : goal.returns-in_err-write_proof_words
returns-in_err-write_proof_words c =
    stopped_as _ _ _ _ _ c.from_residual-in_err-write_proof_words.ensures.0 (append_assoc (codes "shown") (later_text (proof_words c.args.proof)) (codes "\n"))
    (part_of_rest _ _ _ (codes "shown") _ c.in_ok-write_bytes.ensures.written (part_of_first _ _ _ _ c.in_err-write_proof_words.ensures))

pub returns : goal.returns
returns c =
    same_text _ _ _ _ _ (sym (append_assoc (codes "shown") (later_text (proof_words c.args.proof)) (codes "\n")))
    (rest_written _ _ _ _ (codes "shown") _ c.in_ok-write_bytes.ensures.written
    (rest_written _ _ _ _ _ _ c.in_ok-write_proof_words.ensures c.write_bytes-2.ensures.written))
