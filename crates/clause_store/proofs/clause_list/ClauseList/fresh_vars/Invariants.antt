use Rattle.std.proofs.Common.{◌≡◌}
use Rattle.clause_store.specs.Fresh.{fresh_vars}
use Rattle.clause_store.proofs.clause_list.ClauseList.fresh_vars.Given as goal

abbrev pub invariant-loop-i : goal.invariant-loop-i
invariant-loop-i l = l.vars.items ≡ fresh_vars l.last l.i
