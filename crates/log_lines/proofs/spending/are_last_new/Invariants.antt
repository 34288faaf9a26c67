use Rattle.std.proofs.Common.{◌≡◌, ◌+◌, take, drop}
use Rattle.log_lines.specs.Indexes.{IsIndexOf}
use Rattle.log_lines.specs.Spending.{earlier, noted_of, ends_new}
use Rattle.log_lines.proofs.News.{new_from}
use Rattle.log_lines.proofs.spending.are_last_new.Given as goal

abbrev pub invariant-loop-step : goal.invariant-loop-step
invariant-loop-step l = record {
  value : new_from (take l.main l.known.list) (noted_of l.kinds (drop l.main l.known.list)) l.step ≡ ends_new l.count (take l.main l.known.list) (noted_of l.kinds (drop l.main l.known.list));
  index : IsIndexOf l.index l.known (earlier l.main l.kinds l.known.list l.step) (l.main + l.step);
}
