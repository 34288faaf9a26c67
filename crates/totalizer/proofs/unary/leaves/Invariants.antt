use Rattle.std.proofs.Common.{◌≡◌, take}
use Rattle.totalizer.specs.Counter.{leaves}
use Rattle.totalizer.proofs.unary.leaves.Given as goal

abbrev pub invariant-loop-var : goal.invariant-loop-var
invariant-loop-var l = l.parts.items ≡ leaves (take l.var-index l.vars)
