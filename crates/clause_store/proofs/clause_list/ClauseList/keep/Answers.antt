use Rattle.std.proofs.Common.{List, length, arith, ap, take, drop}
use Rattle.clause_store.specs.declared.lit.Lit.{Lit}
use Rattle.clause_store.specs.Lits.{Ascends, InRange}
use Rattle.clause_store.specs.Clauses.{cut, Clauses}
use Rattle.clause_store.specs.Keeping.{kept_of}
use Rattle.clause_store.proofs.Each.{each_append}
use Rattle.clause_store.proofs.Cuts.{length-cut}
use Rattle.clause_store.proofs.Packing.{each_take, each_drop, each_kept}
use Rattle.clause_store.proofs.clause_list.ClauseList.keep.Goals as goal

pub pack-requires-clause-whole : goal.pack-requires-clause-whole
pack-requires-clause-whole c =
    let e = ap (λ (v : Clauses). length v.list) c.self.view_is in
    omega (arith, e, length-cut 0 c.self.inside.ends.items c.self.inside.lits.items, c.requires)

pub invariant_of-self : goal.invariant_of-self
invariant_of-self c =
    let all : List (List Lit) = cut 0 c.self.inside.ends.items c.self.inside.lits.items in (
      c.pack.ensures.rise,
      omega (arith, c.pack.ensures.shorter, c.self.invariant.1),
      c.self.invariant.2,
      record {
        ascend = rw c.pack.ensures.kept (each_append Ascends (take c.args.from all) (kept_of c.args.marks.now (drop c.args.from all)) (each_take Ascends c.args.from all c.self.invariant.3.ascend) (each_kept Ascends c.args.marks.now (drop c.args.from all) (each_drop Ascends c.args.from all c.self.invariant.3.ascend)));
        in_range = rw c.pack.ensures.kept (each_append (InRange c.self.inside.vars) (take c.args.from all) (kept_of c.args.marks.now (drop c.args.from all)) (each_take (InRange c.self.inside.vars) c.args.from all c.self.invariant.3.in_range) (each_kept (InRange c.self.inside.vars) c.args.marks.now (drop c.args.from all) (each_drop (InRange c.self.inside.vars) c.args.from all c.self.invariant.3.in_range)));
      },
    )
