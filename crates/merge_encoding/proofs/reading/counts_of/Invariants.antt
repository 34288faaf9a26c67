use Rattle.std.proofs.Common.{◌≡◌, ◌++◌, drop}
use Rattle.clause_store.specs.Truth.{values_of}
use Rattle.aggregators.specs.Levels.{counts_of}
use Rattle.merge_encoding.proofs.reading.counts_of.Given as goal

abbrev pub invariant-loop-counter : goal.invariant-loop-counter
invariant-loop-counter l = l.values.items ++ counts_of (values_of l.assignment) (drop l.counter-index l.counters) ≡ counts_of (values_of l.assignment) l.counters
