use Rattle.std.proofs.Common.{length, List, Bool, All, subst, sym, ◌∙◌, ◌≡◌}
use Rattle.merge_model.proofs.Nearest.{nearest_sizes}
use Rattle.merge_model.proofs.plain.nearest.vector.Goals as goal

pub distances-requires : goal.distances-requires
distances-requires g c =
    let dist = g.D.Distance.dist c.args.distance.now in
    subst (λ (ws : List (List Bool)). All (λ w. length w ≡ length c.args.from) ws) (sym (c.deref.ensures.value ∙ c.in_ok-models.ensures))
    (nearest_sizes dist c.args.from (length c.args.from) c.args.tables.now c.requires)
