use Rattle.std.proofs.Common.{◌≡◌, ◌++◌, take, drop}
use Rattle.report_lines.specs.Places.{first_word}
use Rattle.report_lines.proofs.lines.first_word_of.Given as goal

abbrev pub invariant-loop-at : goal.invariant-loop-at
invariant-loop-at l = take l.at l.line ++ first_word (drop l.at l.line) ≡ first_word l.line
