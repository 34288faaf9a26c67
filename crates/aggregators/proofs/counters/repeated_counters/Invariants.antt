use Rattle.std.proofs.Common.{◌≡◌, ◌++◌, drop}
use Rattle.merge_model.specs.Merging.{repeated}
use Rattle.aggregators.proofs.counters.repeated_counters.Given as goal

abbrev pub invariant-loop-i : goal.invariant-loop-i
invariant-loop-i l = l.parts.items ++ repeated (drop l.i l.times) (drop l.i l.counters) ≡ repeated l.times l.counters
