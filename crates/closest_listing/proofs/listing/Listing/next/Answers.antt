use Rattle.distance_search.proofs.Known.{best_known}
use Rattle.closest_listing.proofs.listing.Listing.next.Goals as goal

pub next_closest-outcome-requires-clause-best : goal.next_closest-outcome-requires-clause-best
next_closest-outcome-requires-clause-best g c = best_known _ c.args.self.now.best c.args.self.now.known
