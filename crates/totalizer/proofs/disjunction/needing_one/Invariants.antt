use Rattle.std.proofs.Common.{◌≡◌, ◌∷◌, take}
use Rattle.std.specs.Prelude.{map}
use Rattle.clause_store.specs.Lits.{positive_lit, negative_lit}
use Rattle.totalizer.proofs.disjunction.needing_one.Given as goal

abbrev pub invariant-loop-var : goal.invariant-loop-var
invariant-loop-var l = l.lits.items ≡ negative_lit l.output ∷ map positive_lit (take l.var-index l.vars)
