use Rattle.std.proofs.Common.{rules, ◌≡◌, ◌+◌, [], ◌∷◌, ◌++◌, length, List, arith, sym, ap}
use Rattle.std.proofs.Common.{length-append}
use Rattle.clause_store.proofs.Each.{each_push}
use Rattle.clause_store.specs.declared.lit.Lit.{Lit}
use Rattle.clause_store.specs.Lits.{Ascends, InRange}
use Rattle.clause_store.specs.Clauses.{cut, Clauses}
use Rattle.clause_store.proofs.Cuts.{length-cut, cut-push, Rise-push}
use Rattle.clause_store.proofs.clause_list.ClauseList.add_sorted.Goals as goal

pub returns-clause-number : goal.returns-clause-number
returns-clause-number c = rw (← c.self.view_is, length-cut) (search rules)

-- the fields after the literals were added
pub returns-clause-ok : goal.returns-clause-ok
returns-clause-ok c =
    let e1 = c.in_ok-push.ensures.items in
    let e2 = c.in_ok-extend_from_slice.ensures.items in
    let e0 = c.in_ok-reserve.ensures.items in
    let e3 : c.in-Some.end ≡ length c.self.inside.lits.items + length c.args.lits.now = omega (arith, c.in-Some.ensures, c.len.ensures) in
    let e4 : cut 0 c.push.new.self.items c.extend_from_slice.new.self.items ≡ cut 0 c.self.inside.ends.items c.self.inside.lits.items ++ c.args.lits.now ∷ [] = rw (e1, e2, e0, e3) (cut-push 0 c.self.inside.ends.items c.self.inside.lits.items c.args.lits.now c.self.invariant.0) in
    rw (← c.self.view_is) (ap (λ (cs : List (List Lit)). record { list = cs; vars = c.self.inside.vars }) e4)

pub invariant_of-self-2 : goal.invariant_of-self-2
invariant_of-self-2 c =
    let e1 = c.in_ok-push.ensures.items in
    let e2 = c.in_ok-extend_from_slice.ensures.items in
    let e0 = c.in_ok-reserve.ensures.items in
    let e3 : c.in-Some.end ≡ length c.self.inside.lits.items + length c.args.lits.now = omega (arith, c.in-Some.ensures, c.len.ensures) in
    let e4 : cut 0 c.push.new.self.items c.extend_from_slice.new.self.items ≡ cut 0 c.self.inside.ends.items c.self.inside.lits.items ++ c.args.lits.now ∷ [] = rw (e1, e2, e0, e3) (cut-push 0 c.self.inside.ends.items c.self.inside.lits.items c.args.lits.now c.self.invariant.0) in
    let e5 : c.args.self.now.vars ≡ c.self.inside.vars = ap (λ (v : Clauses). v.vars) (sym c.self.view_is) in
    let e6 : InRange c.self.inside.vars c.args.lits.now = rw (← e5) c.requires.in_range in (
      (rw (e1, e2, e0, e3, length-append) (Rise-push 0 c.self.inside.ends.items (length c.self.inside.lits.items) (length c.args.lits.now) c.self.invariant.0)),
      (rw (e2, length-append) (omega (arith, e3, c.if-end-ge-LITERAL_LIMIT.false))),
      c.self.invariant.2,
      record {
        ascend = rw e4 (each_push Ascends (cut 0 c.self.inside.ends.items c.self.inside.lits.items) c.args.lits.now c.self.invariant.3.ascend c.requires.ascends);
        in_range = rw e4 (each_push (InRange c.self.inside.vars) (cut 0 c.self.inside.ends.items c.self.inside.lits.items) c.args.lits.now c.self.invariant.3.in_range e6);
      },
    )
