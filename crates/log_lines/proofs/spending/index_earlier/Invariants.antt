use Rattle.std.proofs.Common.{◌+◌}
use Rattle.log_lines.specs.Indexes.{IsIndexOf}
use Rattle.log_lines.specs.Spending.{earlier}
use Rattle.log_lines.proofs.spending.index_earlier.Given as goal

abbrev pub invariant-loop-step : goal.invariant-loop-step
invariant-loop-step l = IsIndexOf l.index l.known (earlier l.main l.kinds l.known.list l.step) (l.main + l.step)
