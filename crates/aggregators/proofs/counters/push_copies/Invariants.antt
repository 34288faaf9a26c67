use Rattle.std.proofs.Common.{◌≡◌, ◌++◌, replicate}
use Rattle.aggregators.proofs.counters.push_copies.Given as goal

abbrev pub invariant-loop : goal.invariant-loop
invariant-loop l = l.parts.items ≡ l.initial.parts.items ++ replicate l.counter l.copied
