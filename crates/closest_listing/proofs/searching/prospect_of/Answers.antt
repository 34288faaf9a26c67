use Rattle.closest_listing.proofs.searching.prospect_of.Goals as goal

pub best-requires : goal.best-requires
best-requires g c =
    let tells = c.has_models.ensures in
    rw c.in_ok-consistency.ensures.subject (c.in_ok-consistency.ensures.answer.consistent (tells.0 c.if-has_models.true))
