use Rattle.std.proofs.Common.{◌≡◌, length}
use Rattle.cdcl_core.specs.Replies.{IsLonger}
use Rattle.distance_search.proofs.warming.warm_up.Given as goal

abbrev pub invariant-loop-next : goal.invariant-loop-next
invariant-loop-next l = record {
  longer : IsLonger l.fn.engine.log l.engine.log;
  totals : length l.totals.items.items ≡ l.count;
}
