use Rattle.std.proofs.Common.{take}
use Rattle.distance_search.specs.Probes.{MayBeAssumed}
use Rattle.distance_search.proofs.warming.may_be_assumed.Given as goal

abbrev pub invariant-loop-place : goal.invariant-loop-place
invariant-loop-place l = MayBeAssumed l.vars (take l.place l.lits)
