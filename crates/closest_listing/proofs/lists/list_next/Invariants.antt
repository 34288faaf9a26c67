use Rattle.std.proofs.Common.{◌≡◌, length}
use Rattle.cdcl_core.specs.Replies.{IsLonger}
use Rattle.distance_search.specs.Setting.{setting_of}
use Rattle.closest_listing.specs.Listed.{AreListed, last_of}
use Rattle.closest_listing.proofs.lists.list_next.Given as goal

abbrev pub invariant-loop : goal.invariant-loop
invariant-loop g l =
    let q = l.fn.listing.subject in record {
      subject : l.listing.subject ≡ q;
      best : l.listing.best ≡ l.fn.listing.best;
      longer : IsLonger l.fn.listing.engine.log l.listing.engine.log;
      listed : AreListed (setting_of (g.D.Distance.dist q.distance) (g.D.Distance.most q.distance) (g.D.Counted.due q.distance) (g.A.Aggregator.rank q.aggregator) (g.A.Levelled.levels_of q.aggregator) (g.A.Levelled.levels_due q.aggregator) q.problem) l.fn.listing.after l.valuations.items;
      place : l.listing.after ≡ last_of l.fn.listing.after l.valuations.items;
      size : length l.valuations.items ≡ l.counter;
    }
