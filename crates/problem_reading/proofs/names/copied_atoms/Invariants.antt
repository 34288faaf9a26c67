use Rattle.std.proofs.Common.{◌≡◌, ◌++◌, drop}
use Rattle.problem_reading.proofs.names.copied_atoms.Given as goal

abbrev pub invariant-loop-number : goal.invariant-loop-number
invariant-loop-number l = l.copied ++ drop l.number l.atoms ≡ l.atoms
