use Rattle.std.proofs.Common.{length, arith, ap}
use Rattle.clause_store.specs.Clauses.{Clauses}
use Rattle.clause_store.proofs.Cuts.{length-cut}
use Rattle.clause_store.proofs.clause_list.ClauseList.clause.Goals as goal

pub part-requires-clause-within : goal.part-requires-clause-within
part-requires-clause-within c =
    let e = ap (λ (v : Clauses). length v.list) c.self.view_is in
    omega (arith, e, length-cut 0 c.self.inside.ends.items c.self.inside.lits.items, c.requires)
