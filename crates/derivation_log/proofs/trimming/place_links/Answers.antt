use Rattle.std.proofs.Common.{◌+◌, false, refl, length, get_or, arith}
use Rattle.derivation_log.proofs.Places.{placed_more, below_rest}
use Rattle.derivation_log.proofs.trimming.place_links.Goals as goal

pub loop-link-preserved : goal.loop-link-preserved
loop-link-preserved c =
    let i = c.loop-link.invariant in
    record {
      links = placed_more c.args.main c.args.places.now c.args.links.now c.loop-link.links c.loop-link.link-index (record { pivot = record { var = 0; positive = false }; number = 0 }) (get_or c.loop-link.links c.loop-link.link-index (record { pivot = record { var = 0; positive = false }; number = 0 })) c.place_of-link.result (omega (arith, c.loop-link-test.true, c.loop-link.auto.links)) i.links refl c.place_of-link.ensures;
      below = below_rest (c.args.main + length c.args.places.now) c.args.links.now c.loop-link.link-index i.below;
    }
