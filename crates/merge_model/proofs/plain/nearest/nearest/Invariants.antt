use Rattle.std.proofs.Common.{◌≡◌, drop}
use Rattle.merge_model.specs.Plain.{nearest_from, nearest_of}
use Rattle.merge_model.proofs.plain.nearest.nearest.Given as goal

abbrev pub invariant-loop-model : goal.invariant-loop-model
invariant-loop-model g l =
    (nearest_from (g.D.Distance.dist l.distance) l.from l.nearest (drop l.model-index l.models) ≡ nearest_of (g.D.Distance.dist l.distance) l.from l.models)
    × (l.least ≡ g.D.Distance.dist l.distance l.from l.nearest)
