use Rattle.std.proofs.Common.{◌≡◌, ◌-◌, length}
use Rattle.cdcl_core.specs.Replies.{IsLonger}
use Rattle.distance_search.proofs.warming.bound.Given as goal

abbrev pub invariant-loop-least : goal.invariant-loop-least
invariant-loop-least l = record {
  longer : IsLonger l.fn.engine.log l.engine.log;
  totals : length l.totals.items.items ≡ length l.fn.totals.items.items;
}

abbrev pub decreases-loop-least : goal.decreases-loop-least
decreases-loop-least l = l.most - l.least
