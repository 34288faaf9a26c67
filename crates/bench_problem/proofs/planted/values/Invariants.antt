use Rattle.std.proofs.Common.{◌≡◌, map, take, length}
use Rattle.std.specs.List.{range_with_len}
use Rattle.bench_problem.specs.Draws.{state_after, drawn_bit}
use Rattle.bench_problem.specs.Planted.{atom_count}
use Rattle.bench_problem.proofs.planted.values.Given as goal

abbrev pub invariant-loop-place : goal.invariant-loop-place
invariant-loop-place l =
    (l.draws ≡ state_after l.initial.draws l.place)
    × (take l.place l.values ≡ map (drawn_bit l.initial.draws) (range_with_len 0 l.place))
    × (length l.values ≡ atom_count)
