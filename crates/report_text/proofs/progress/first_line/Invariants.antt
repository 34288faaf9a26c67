use Rattle.std.proofs.Common.{take}
use Rattle.report_text.specs.Accepting.{HasNoFeed}
use Rattle.report_text.proofs.progress.first_line.Given as goal

abbrev pub invariant-loop-at : goal.invariant-loop-at
invariant-loop-at l = HasNoFeed (take l.at l.text)
