use Rattle.std.proofs.Common.{◌≡◌, ◌++◌, map, drop}
use Rattle.merge_model.specs.Plain.{nearest_of}
use Rattle.merge_model.proofs.plain.nearest.nearest_models.Given as goal

abbrev pub invariant-loop-table : goal.invariant-loop-table
invariant-loop-table g l =
    l.models.items ++ map (nearest_of (g.D.Distance.dist l.distance) l.from) (drop l.table-index l.tables) ≡ map (nearest_of (g.D.Distance.dist l.distance) l.from) l.tables
