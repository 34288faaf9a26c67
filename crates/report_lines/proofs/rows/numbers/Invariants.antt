use Rattle.std.proofs.Common.{◌≡◌, length}
use Rattle.report_words.specs.Numbers.{number_at}
use Rattle.report_lines.specs.LineReading.{each_at, after_each}
use Rattle.report_lines.proofs.rows.numbers.Given as goal

abbrev pub invariant-loop-word : goal.invariant-loop-word
invariant-loop-word l = after_each l.all.items (each_at number_at l.words) ≡ each_at number_at l.initial.words

abbrev pub decreases-loop-word : goal.decreases-loop-word
decreases-loop-word l = length l.words
