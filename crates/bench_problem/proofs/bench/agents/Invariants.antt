use Rattle.std.proofs.Common.{◌≡◌, ◌*◌, map}
use Rattle.std.specs.List.{range_with_len}
use Rattle.bench_problem.specs.Bench.{agent_of, draws_of}
use Rattle.bench_problem.specs.Draws.{state_after}
use Rattle.bench_problem.proofs.bench.agents.Given as goal

abbrev pub invariant-loop-number : goal.invariant-loop-number
invariant-loop-number l =
    (l.agents.items ≡ map (agent_of l.initial.draws) (range_with_len 0 l.number))
    × (l.draws ≡ state_after l.initial.draws (draws_of 10 * l.number))
