use Rattle.std.proofs.Common.{ℕ, List, ◌++◌, length}
use Rattle.report_text.specs.Progress.{StandsBefore, IsAt}
use Rattle.report_text.proofs.progress.Progress.piece.Given as goal

abbrev pub invariant-loop-line : goal.invariant-loop-line
invariant-loop-line l = (text : List ℕ) → IsAt text l.initial.self → StandsBefore (text ++ l.piece) l.rest l.self

abbrev pub decreases-loop-line : goal.decreases-loop-line
decreases-loop-line l = length l.rest
