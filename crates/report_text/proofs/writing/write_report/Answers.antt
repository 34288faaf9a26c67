use Rattle.std.proofs.Common.{sym}
use Rattle.report_words.proofs.Growth.{part_of_first, rest_written, same_text}
use Rattle.report_lines.specs.Reports.{asked_in, parts_in}
use Rattle.report_text.proofs.WritingTexts.{stopped_as}
use Rattle.report_text.proofs.WritingProofs.{report_pieces}
use Rattle.report_text.proofs.writing.write_report.Goals as goal

pub returns-in_err-write_answer : goal.returns-in_err-write_answer
returns-in_err-write_answer c =
    stopped_as _ _ _ _ _ c.from_residual.ensures.0 (report_pieces (asked_in c.args.report.now) (parts_in c.args.report.now)) (part_of_first _ _ _ _ c.in_err-write_answer.ensures)

pub returns : goal.returns
returns c =
    same_text _ _ _ _ _ (sym (report_pieces (asked_in c.args.report.now) (parts_in c.args.report.now)))
    (rest_written _ _ _ _ _ _ c.in_ok-write_answer.ensures c.write_log.ensures)
