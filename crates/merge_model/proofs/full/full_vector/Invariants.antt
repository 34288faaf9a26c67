use Rattle.std.proofs.Common.{◌≡◌, ◌++◌, map, drop}
use Rattle.merge_model.specs.Merging.{repeated}
use Rattle.merge_model.proofs.full.full_vector.Given as goal

abbrev pub invariant-loop-i : goal.invariant-loop-i
invariant-loop-i l = l.full.items ++ repeated (drop l.i (map (λ a. a.times) l.agents)) (drop l.i l.vector) ≡ repeated (map (λ a. a.times) l.agents) l.vector
