use Rattle.std.proofs.Common.{sym}
use Rattle.report_words.proofs.Growth.{part_of_first, part_of_rest, rest_written, same_text}
use Rattle.report_text.proofs.WritingTexts.{front_parts, stopped_as, nothing_of}
use Rattle.profile_text.specs.ProblemText.{problem_text}
use Rattle.report_lines.specs.Parts.{items_text, head_items}
use Rattle.report_text.proofs.writing.answer.write_answer.Goals as goal

pub returns-in_err-write_head : goal.returns-in_err-write_head
returns-in_err-write_head c =
    stopped_as _ _ _ _ _ c.from_residual.ensures.0 (front_parts c.args.distance c.args.aggregator c.args.conflicts c.args.problem.now c.args.answer.now) (part_of_first _ _ (items_text (head_items (record { distance = c.args.distance; aggregator = c.args.aggregator; conflicts = c.args.conflicts }))) _ c.in_err-write_head.ensures)

pub returns-in_err-write_problem : goal.returns-in_err-write_problem
returns-in_err-write_problem c =
    stopped_as _ _ _ _ _ c.from_residual-in_err-write_problem.ensures.0 (front_parts c.args.distance c.args.aggregator c.args.conflicts c.args.problem.now c.args.answer.now)
    (part_of_rest _ _ _ (items_text (head_items (record { distance = c.args.distance; aggregator = c.args.aggregator; conflicts = c.args.conflicts }))) _ c.in_ok-write_head.ensures (nothing_of _ _ _ c.in_err-write_problem.ensures.kept))

pub returns : goal.returns
returns c =
    same_text _ _ _ _ _ (sym (front_parts c.args.distance c.args.aggregator c.args.conflicts c.args.problem.now c.args.answer.now))
    (rest_written _ _ _ _ (items_text (head_items (record { distance = c.args.distance; aggregator = c.args.aggregator; conflicts = c.args.conflicts }))) _ c.in_ok-write_head.ensures
    (rest_written _ _ _ _ (problem_text c.args.problem.now) _ c.in_ok-write_problem.ensures.written c.write_answer_lines.ensures))
