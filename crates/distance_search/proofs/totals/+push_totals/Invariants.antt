use Rattle.std.proofs.Common.{length}
use Rattle.distance_search.proofs.totals.+push_totals.Given as goal

abbrev pub decreases-push_totals : goal.decreases-push_totals
decreases-push_totals l = length l.lengths.now
