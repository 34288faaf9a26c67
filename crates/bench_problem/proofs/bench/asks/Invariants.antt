use Rattle.std.proofs.Common.{◌≡◌, ◌*◌, map}
use Rattle.std.specs.List.{range_with_len}
use Rattle.bench_problem.specs.Bench.{ask_at}
use Rattle.bench_problem.specs.Draws.{state_after}
use Rattle.bench_problem.proofs.bench.asks.Given as goal

abbrev pub invariant-loop : goal.invariant-loop
invariant-loop l =
    (l.asks.items ≡ map (ask_at l.initial.draws) (range_with_len 0 l.counter))
    × (l.draws ≡ state_after l.initial.draws (4 * l.counter))
