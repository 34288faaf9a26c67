use Rattle.std.proofs.Common.{◌≡◌, map}
use Rattle.std.specs.List.{range_with_len}
use Rattle.bench_problem.specs.Bench.{atom_name}
use Rattle.bench_problem.proofs.bench.atoms.Given as goal

abbrev pub invariant-loop-number : goal.invariant-loop-number
invariant-loop-number l = l.atoms ≡ map atom_name (range_with_len 0 l.number-counter)
