use Rattle.std.proofs.Common.{sym, subst}
use Rattle.clause_store.specs.Lits.{InRange}
use Rattle.clause_store.proofs.Lits.{InRange-sorted_clause}
use Rattle.clause_store.proofs.clause_list.ClauseList.add.Goals as goal

pub add_clause-requires : goal.add_clause-requires
add_clause-requires c = record {
  in_range = subst (InRange c.args.self.now.vars) (sym c.in_ok-clause.ensures) (InRange-sorted_clause c.args.self.now.vars c.args.lits.now c.requires.in_range);
}
