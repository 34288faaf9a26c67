use Rattle.std.proofs.Common.{◌≡◌, ◌-◌, ◌++◌, length, take}
use Rattle.report_lines.specs.Parts.{items_text}
use Rattle.report_text.specs.WritingItems.{step_entry}
use Rattle.report_text.proofs.WritingTexts.{items_from}
use Rattle.report_text.proofs.writing.write_steps.Given as goal

abbrev pub invariant-loop-number : goal.invariant-loop-number
invariant-loop-number l =
    l.into.items ≡ l.fn.into.items ++ items_text (items_from step_entry (length l.derivations.main) (take (l.number - length l.derivations.main) l.derivations.steps))
