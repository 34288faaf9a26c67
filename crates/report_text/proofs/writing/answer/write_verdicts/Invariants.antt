use Rattle.std.proofs.Common.{◌≡◌, ◌++◌, take}
use Rattle.report_lines.specs.Parts.{items_text}
use Rattle.report_text.specs.WritingItems.{verdict_entry}
use Rattle.report_text.proofs.WritingTexts.{items_from}
use Rattle.report_text.proofs.writing.answer.write_verdicts.Given as goal

abbrev pub invariant-loop-q : goal.invariant-loop-q
invariant-loop-q l = l.into.items ≡ l.fn.into.items ++ items_text (items_from verdict_entry 0 (take l.q l.verdicts))
