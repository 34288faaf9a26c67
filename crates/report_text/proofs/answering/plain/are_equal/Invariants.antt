use Rattle.std.proofs.Common.{◌≡◌, drop}
use Rattle.std.specs.Str.{bytes_eq}
use Rattle.report_text.proofs.answering.plain.are_equal.Given as goal

abbrev pub invariant-loop-k : goal.invariant-loop-k
invariant-loop-k l = bytes_eq (drop l.k l.numbers) (drop l.k l.others) ≡ bytes_eq l.numbers l.others
