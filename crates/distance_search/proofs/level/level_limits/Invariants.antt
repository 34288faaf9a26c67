use Rattle.std.proofs.Common.{◌≡◌, ◌++◌, map, min, length, drop}
use Rattle.distance_search.proofs.level.level_limits.Given as goal

abbrev pub invariant-loop-level : goal.invariant-loop-level
invariant-loop-level l = l.limits.items ++ map (λ level. min (length level) l.most) (drop l.level-index l.levels) ≡ map (λ level. min (length level) l.most) l.levels
