use Rattle.std.proofs.Common.{take}
use Rattle.log_lines.specs.Indexes.{IsIndexOf}
use Rattle.log_lines.proofs.spending.index_main.Given as goal

abbrev pub invariant-loop-number : goal.invariant-loop-number
invariant-loop-number l = IsIndexOf l.index l.known (take l.number l.known.list) l.number
