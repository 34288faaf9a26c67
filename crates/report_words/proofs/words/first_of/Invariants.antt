use Rattle.std.proofs.Common.{take}
use Rattle.report_words.proofs.FirstWords.{HasNoBlank}
use Rattle.report_words.proofs.words.first_of.Given as goal

abbrev pub invariant-loop-at : goal.invariant-loop-at
invariant-loop-at l = HasNoBlank (take l.at l.line)
