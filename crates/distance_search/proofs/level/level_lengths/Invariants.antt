use Rattle.std.proofs.Common.{◌≡◌, ◌++◌, map, length, drop}
use Rattle.distance_search.proofs.level.level_lengths.Given as goal

abbrev pub invariant-loop-level : goal.invariant-loop-level
invariant-loop-level l = l.lengths.items ++ map length (drop l.level-index l.levels) ≡ map length l.levels
