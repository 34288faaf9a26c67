use Rattle.std.proofs.Common.{◌≡◌, ◌++◌, take}
use Rattle.report_lines.specs.Parts.{items_text}
use Rattle.report_text.specs.WritingItems.{base_entry}
use Rattle.report_text.proofs.WritingTexts.{items_from}
use Rattle.report_text.proofs.writing.answer.write_bases.Given as goal

abbrev pub invariant-loop-i : goal.invariant-loop-i
invariant-loop-i l = l.into.items ≡ l.fn.into.items ++ items_text (items_from base_entry 0 (take l.i l.models))
