use Rattle.std.proofs.Common.{◌≡◌, length, take, drop}
use Rattle.report_lines.specs.LineReading.{each_at, after_each, bit_at}
use Rattle.report_lines.proofs.rows.spelled.Given as goal

abbrev pub invariant-loop-k : goal.invariant-loop-k
invariant-loop-k l = (length l.valuation ≡ l.atoms) × (after_each (take l.k l.valuation) (each_at bit_at (drop l.k l.word)) ≡ each_at bit_at l.word)
