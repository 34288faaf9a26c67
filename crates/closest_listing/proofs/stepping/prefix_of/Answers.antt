use Rattle.std.proofs.Common.{arith}
use Rattle.closest_listing.proofs.Ordered.{take_next, pushed}
use Rattle.closest_listing.proofs.stepping.prefix_of.Goals as goal

pub loop-k-preserved : goal.loop-k-preserved
loop-k-preserved c = pushed _ _ _ _ _ c.in_ok-push.ensures.items c.loop-k.invariant c.get.ensures (take_next c.args.from c.loop-k.k (omega arith))
