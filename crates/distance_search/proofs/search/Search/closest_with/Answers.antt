use Rattle.distance_search.proofs.Kept.{at_hand_on}
use Rattle.distance_search.proofs.search.Search.closest_with.Goals as goal

pub invariant_of-self-clause-at_hand : goal.invariant_of-self-clause-at_hand
invariant_of-self-clause-at_hand g c = at_hand_on _ c.args.self.now.engine.log c.closest_with-outcome.new.engine.log c.args.self.now.pool.items c.closest_with-outcome.ensures.longer c.args.self.now.at_hand
