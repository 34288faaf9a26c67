use Rattle.std.proofs.Common.{arith, ◌≡◌, ◌+◌, ℕ, List, sym, ◌∙◌, [], ◌∷◌, subst, take, get_or}
use Rattle.clause_store.specs.declared.lit.Lit.{Lit}
use Rattle.watch_lists.specs.declared.entry.Entry.{Entry}
use Rattle.cdcl_core.specs.Marked.{lower, others, IsAdded}
use Rattle.cdcl_core.proofs.Levels.{no_lit}
use Rattle.cdcl_core.proofs.Holding.{added_then, others_more, others_same}
use Rattle.cdcl_core.proofs.marks.Marks.add.Goals as goal
use Rattle.cdcl_core.proofs.marks.Marks.add.Goals.{then-branch, else-branch}

pub loop-lit-preserved-then-is_left_out : goal.loop-lit-preserved-then-is_left_out
loop-lit-preserved-then-is_left_out c =
    let es : List Entry = c.args.trail.now.entries in
    let low : List Entry = lower c.args.level es in
    let q = others_same c.args.but c.loop-lit.lit-index c.args.lits.now no_lit c.loop-lit-test.true (sym c.is_left_out.ensures ∙ c.if-is_left_out.true) in
    record {
      size = c.loop-lit.invariant.size;
      added = subst (λ (zs : List Lit). IsAdded es low c.args.self.now.marked.items c.args.self.now.kept.items c.loop-lit.self.marked.items c.loop-lit.self.kept.items zs c.loop-lit.count) (sym q) c.loop-lit.invariant.added;
      few = omega (arith, c.loop-lit.invariant.few);
    }

pub loop-lit-preserved : goal.loop-lit-preserved
loop-lit-preserved c =
    let es : List Entry = c.args.trail.now.entries in
    let low : List Entry = lower c.args.level es in
    let q = others_more c.args.but c.loop-lit.lit-index c.args.lits.now no_lit c.loop-lit-test.true (sym c.is_left_out.ensures ∙ c.if-is_left_out.false) in
    let step = λ (n : ℕ) (a : IsAdded es low c.loop-lit.self.marked.items c.loop-lit.self.kept.items c.mark.new.self.marked.items c.mark.new.self.kept.items (get_or c.args.lits.now c.loop-lit.lit-index no_lit ∷ []) n).
    subst (λ (zs : List Lit). IsAdded es low c.args.self.now.marked.items c.args.self.now.kept.items c.mark.new.self.marked.items c.mark.new.self.kept.items zs (c.loop-lit.count + n)) (sym q)
    (added_then es low c.args.self.now.marked.items c.loop-lit.self.marked.items c.mark.new.self.marked.items c.args.self.now.kept.items c.loop-lit.self.kept.items c.mark.new.self.kept.items (others c.args.but (take c.loop-lit.lit-index c.args.lits.now)) (get_or c.args.lits.now c.loop-lit.lit-index no_lit ∷ []) c.loop-lit.count n c.loop-lit.invariant.added a) in
    elim c.if-branch.branch [
      | then-branch w ↦ record {
        size = c.mark.ensures.size;
        added = rw w.count-is (step 1 (let a = c.in_ok-mark.ensures.added in rw w.if-branch.true at a));
        few = omega (arith, w.count-is, c.loop-lit.invariant.few);
      }
      | else-branch w ↦ record {
        size = c.mark.ensures.size;
        added = rw w.count-is (let b : c.loop-lit.count ≡ c.loop-lit.count + 0 = omega arith in rw b (step 0 (let a = c.in_ok-mark.ensures.added in rw w.if-branch.false at a)));
        few = omega (arith, w.count-is, c.loop-lit.invariant.few);
      }
    ]
