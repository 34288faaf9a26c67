use Rattle.std.proofs.Common.{ap, sym, arith, ◌∙◌, ◌++◌}
use Rattle.report_lines.specs.Parts.{items_text}
use Rattle.report_text.specs.WritingItems.{base_entry}
use Rattle.report_text.proofs.WritingTexts.{next_entry, part_of_entries, all_entries, bases_from, stopped_as}
use Rattle.report_text.proofs.writing.answer.write_bases.Goals as goal

pub returns-in_err-write_named : goal.returns-in_err-write_named
returns-in_err-write_named c =
    stopped_as _ _ _ _ _ c.from_residual.ensures.0 (ap items_text (bases_from 0 c.args.models.now))
    (part_of_entries base_entry 0 c.args.models.now c.loop-i.i c.loop-i.i c.index-models-i.result _ _ _ _ c.loop-i-test.true (omega arith) c.index-models-i.is c.loop-i.invariant c.in_err-write_named.ensures)

pub loop-i-preserved : goal.loop-i-preserved
loop-i-preserved c =
    next_entry base_entry 0 c.args.models.now c.loop-i.i c.loop-i.i _ c.index-models-i.result _ _ _ _ c.loop-i-test.true (omega arith) (omega arith) c.index-models-i.is c.loop-i.invariant c.in_ok-write_named.ensures

pub returns : goal.returns
returns c =
    all_entries base_entry 0 c.args.models.now c.loop-i.i _ _ c.loop-i-test.false c.loop-i.invariant
    ∙ ap (λ items. c.args.into.now.items ++ items_text items) (sym (bases_from 0 c.args.models.now))
