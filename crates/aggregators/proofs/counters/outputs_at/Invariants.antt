use Rattle.std.proofs.Common.{◌≡◌, ◌++◌, drop}
use Rattle.aggregators.specs.Levels.{column}
use Rattle.aggregators.proofs.counters.outputs_at.Given as goal

abbrev pub invariant-loop-counter : goal.invariant-loop-counter
invariant-loop-counter l = l.outputs.items ++ column l.k (drop l.counter-index l.counters) ≡ column l.k l.counters
