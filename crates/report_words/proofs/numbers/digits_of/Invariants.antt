use Rattle.std.proofs.Common.{◌≡◌, drop}
use Rattle.report_words.specs.Numbers.{digits_from}
use Rattle.report_words.proofs.numbers.digits_of.Given as goal

abbrev pub invariant-loop-b : goal.invariant-loop-b
invariant-loop-b l = digits_from l.n (drop l.b-index l.word) ≡ digits_from 0 l.word
