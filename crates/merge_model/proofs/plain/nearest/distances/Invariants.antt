use Rattle.std.proofs.Common.{◌≡◌, ◌++◌, map, drop}
use Rattle.merge_model.proofs.plain.nearest.distances.Given as goal

abbrev pub invariant-loop-model : goal.invariant-loop-model
invariant-loop-model g l =
    l.distances.items ++ map (g.D.Distance.dist l.distance l.from) (drop l.model-index l.models) ≡ map (g.D.Distance.dist l.distance l.from) l.models
