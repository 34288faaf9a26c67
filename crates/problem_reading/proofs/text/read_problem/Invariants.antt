use Rattle.std.proofs.Common.{length}
use Rattle.problem_reading.proofs.Progress.{IsReadTo}
use Rattle.problem_reading.proofs.text.read_problem.Given as goal

abbrev pub invariant-loop-rest : goal.invariant-loop-rest
invariant-loop-rest l = IsReadTo l.bytes l.rest l.reading

abbrev pub decreases-loop-rest : goal.decreases-loop-rest
decreases-loop-rest l = length l.rest
