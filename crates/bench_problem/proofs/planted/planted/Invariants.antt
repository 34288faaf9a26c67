use Rattle.std.proofs.Common.{◌≡◌, ◌+◌, ◌*◌, ◌-◌}
use Rattle.bench_problem.specs.Draws.{state_after}
use Rattle.bench_problem.specs.Planted.{atom_count, planted}
use Rattle.bench_problem.proofs.planted.planted.Given as goal

abbrev pub invariant-loop : goal.invariant-loop
invariant-loop l =
    (l.formula ≡ planted l.fn.draws (l.counter - 1))
    × (l.draws ≡ state_after l.fn.draws (atom_count + 5 * l.counter))
