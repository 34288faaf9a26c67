use Rattle.std.proofs.Common.{ap, sym, arith, ◌∙◌, ◌++◌}
use Rattle.report_lines.specs.Parts.{items_text}
use Rattle.report_text.specs.WritingItems.{verdict_entry}
use Rattle.report_text.proofs.WritingTexts.{next_entry, part_of_entries, all_entries, verdicts_from, stopped_as}
use Rattle.report_text.proofs.writing.answer.write_verdicts.Goals as goal

pub returns-in_err-write_verdict : goal.returns-in_err-write_verdict
returns-in_err-write_verdict c =
    stopped_as _ _ _ _ _ c.from_residual.ensures.0 (ap items_text (verdicts_from 0 c.args.verdicts.now))
    (part_of_entries verdict_entry 0 c.args.verdicts.now c.loop-q.q c.loop-q.q c.index-verdicts-q.result _ _ _ _ c.loop-q-test.true (omega arith) c.index-verdicts-q.is c.loop-q.invariant c.in_err-write_verdict.ensures)

pub loop-q-preserved : goal.loop-q-preserved
loop-q-preserved c =
    next_entry verdict_entry 0 c.args.verdicts.now c.loop-q.q c.loop-q.q _ c.index-verdicts-q.result _ _ _ _ c.loop-q-test.true (omega arith) (omega arith) c.index-verdicts-q.is c.loop-q.invariant c.in_ok-write_verdict.ensures

pub returns : goal.returns
returns c =
    all_entries verdict_entry 0 c.args.verdicts.now c.loop-q.q _ _ c.loop-q-test.false c.loop-q.invariant
    ∙ ap (λ items. c.args.into.now.items ++ items_text items) (sym (verdicts_from 0 c.args.verdicts.now))
