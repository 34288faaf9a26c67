use Rattle.clause_store.proofs.Packing.{Packed}
use Rattle.clause_store.proofs.clause_list.pack.Given as goal

abbrev pub invariant-loop-k : goal.invariant-loop-k
invariant-loop-k l = Packed l.initial.lits.items l.initial.ends.items l.from l.marks l.k l.count l.end l.begin l.lits.items l.ends.items
