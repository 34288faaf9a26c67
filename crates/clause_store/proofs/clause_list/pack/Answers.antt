use Rattle.std.proofs.Common.{◌+◌, ◌-◌, ◌≡◌, ℕ, List, ◌∙◌, ap, sym, refl, length, arith}
use Rattle.std.proofs.lemmas.Bool.Decides.{nat_tests}
use Rattle.clause_store.specs.Clauses.{cut, start_at}
use Rattle.clause_store.proofs.Cuts.{length-cut}
use Rattle.clause_store.proofs.Packing.{turn, packed_start, packed_keep, packed_skip, packed_at, kept_whole}
use Rattle.clause_store.proofs.clause_list.pack.Goals as goal
use Rattle.clause_store.proofs.clause_list.pack.Goals.{then-mark, else-mark}

pub returns-then-is_empty-clause-kept : goal.returns-then-is_empty-clause-kept
returns-then-is_empty-clause-kept c =
    let e = c.is_empty.ensures in let t = c.if-is_empty.true in
    let none : length c.args.marks.now ≡ 0 = grind (arith, nat_tests) in
    kept_whole c.args.from c.args.marks.now (cut 0 c.args.ends.now.items c.args.lits.now.items) none (c.requires.whole ∙ sym (length-cut 0 c.args.ends.now.items c.args.lits.now.items))

pub loop-k-init : goal.loop-k-init
loop-k-init c = packed_start c.args.lits.now.items c.args.ends.now.items c.args.from c.args.marks.now c.start-begin.result c.requires.rise c.requires.whole (c.start-begin.ensures ∙ ap (λ (es : List ℕ). start_at 0 es c.args.from) c.deref.ensures.value)

pub copy_within-requires-clause-start_le_end : goal.copy_within-requires-clause-start_le_end
copy_within-requires-clause-start_le_end c =
    let t = turn c.args.lits.now.items c.args.ends.now.items c.args.from c.args.marks.now c.loop-k.k c.loop-k.count c.loop-k.end c.loop-k.begin c.loop-k.lits.items c.loop-k.ends.items c.index.result.now c.loop-k.invariant c.loop-k-test.true c.index.ensures in t.ordered

pub copy_within-requires-clause-in_bounds : goal.copy_within-requires-clause-in_bounds
copy_within-requires-clause-in_bounds c =
    let t = turn c.args.lits.now.items c.args.ends.now.items c.args.from c.args.marks.now c.loop-k.k c.loop-k.count c.loop-k.end c.loop-k.begin c.loop-k.lits.items c.loop-k.ends.items c.index.result.now c.loop-k.invariant c.loop-k-test.true c.index.ensures in
    omega (arith, t.within, c.loop-k.invariant.lits_count, c.loop-k.lits.ok.0)

pub copy_within-requires-clause-dest_in_bounds : goal.copy_within-requires-clause-dest_in_bounds
copy_within-requires-clause-dest_in_bounds c =
    let t = turn c.args.lits.now.items c.args.ends.now.items c.args.from c.args.marks.now c.loop-k.k c.loop-k.count c.loop-k.end c.loop-k.begin c.loop-k.lits.items c.loop-k.ends.items c.index.result.now c.loop-k.invariant c.loop-k-test.true c.index.ensures in
    omega (arith, t.within, t.room, c.loop-k.invariant.lits_count, c.loop-k.lits.ok.0)

pub overflow_sub-end : goal.overflow_sub-end
overflow_sub-end c =
    let t = turn c.args.lits.now.items c.args.ends.now.items c.args.from c.args.marks.now c.loop-k.k c.loop-k.count c.loop-k.end c.loop-k.begin c.loop-k.lits.items c.loop-k.ends.items c.index.result.now c.loop-k.invariant c.loop-k-test.true c.index.ensures in t.ordered

pub overflow_cast-end : goal.overflow_cast-end
overflow_cast-end c =
    let t = turn c.args.lits.now.items c.args.ends.now.items c.args.from c.args.marks.now c.loop-k.k c.loop-k.count c.loop-k.end c.loop-k.begin c.loop-k.lits.items c.loop-k.ends.items c.index.result.now c.loop-k.invariant c.loop-k-test.true c.index.ensures in
    omega (arith, t.within, t.room, c.requires.few)

pub loop-k-preserved : goal.loop-k-preserved
loop-k-preserved c =
    elim c.if-mark.branch [
      | then-mark w ↦ (
          packed_at c.args.lits.now.items c.args.ends.now.items c.args.from c.args.marks.now _ _ _ _ _ _ _ _ _ _ _
          (packed_keep c.args.lits.now.items c.args.ends.now.items c.args.from c.args.marks.now c.loop-k.k c.loop-k.count c.loop-k.end c.loop-k.begin c.loop-k.lits.items c.loop-k.ends.items c.index.result.now (c.loop-k.end + (c.index.result.now - c.loop-k.begin)) c.loop-k.invariant c.loop-k-test.true w.if-mark.true c.index.ensures refl)
          w.count-is w.end-is w.begin-is (ap (λ v. v.items) w.lits-is ∙ w.copy_within.ensures.items) (ap (λ v. v.items) w.ends-is)
          )
      | else-mark w ↦ (
          packed_at c.args.lits.now.items c.args.ends.now.items c.args.from c.args.marks.now _ _ _ _ _ _ _ _ _ _ _ (packed_skip c.args.lits.now.items c.args.ends.now.items c.args.from c.args.marks.now c.loop-k.k c.loop-k.count c.loop-k.end c.loop-k.begin c.loop-k.lits.items c.loop-k.ends.items c.index.result.now c.loop-k.invariant c.loop-k-test.true w.if-mark.false c.index.ensures)
          w.count-is w.end-is w.begin-is (ap (λ v. v.items) w.lits-is) (ap (λ v. v.items) w.ends-is)
          )
    ]
