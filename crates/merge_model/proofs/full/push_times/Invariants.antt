use Rattle.std.proofs.Common.{◌≡◌, ◌++◌, replicate}
use Rattle.merge_model.proofs.full.push_times.Given as goal

abbrev pub invariant-loop : goal.invariant-loop
invariant-loop l = l.full.items ≡ l.initial.full.items ++ replicate l.counter l.entry
