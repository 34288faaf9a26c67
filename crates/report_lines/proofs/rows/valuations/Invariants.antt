use Rattle.std.proofs.Common.{◌≡◌, length}
use Rattle.report_lines.specs.LineReading.{each_at, after_each, valuation_at}
use Rattle.report_lines.proofs.rows.valuations.Given as goal

abbrev pub invariant-loop-word : goal.invariant-loop-word
invariant-loop-word l = after_each l.all.items (each_at (valuation_at l.atoms) l.words) ≡ each_at (valuation_at l.atoms) l.initial.words

abbrev pub decreases-loop-word : goal.decreases-loop-word
decreases-loop-word l = length l.words
