use Rattle.std.proofs.Common.{◌≡◌, ◌++◌, drop}
use Rattle.merge_encoding.specs.Assumptions.{each_at_most}
use Rattle.merge_encoding.proofs.assuming.push_limits.Given as goal

abbrev pub invariant-loop-k : goal.invariant-loop-k
invariant-loop-k l = l.lits.items ++ each_at_most (drop l.k l.levels) (drop l.k l.values) ≡ l.initial.lits.items ++ each_at_most l.levels l.values
