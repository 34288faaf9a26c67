use Rattle.std.proofs.Common.{◌≡◌, ◌++◌}
use Rattle.ranks.specs.Ranks.{counts, downs}
use Rattle.aggregators.proofs.leximax.values_down.Given as goal

abbrev pub invariant-loop-level : goal.invariant-loop-level
invariant-loop-level l = l.values.items ++ counts (downs l.level) l.full ≡ counts (downs l.top) l.full

abbrev pub decreases-loop-level : goal.decreases-loop-level
decreases-loop-level l = l.level
