use Rattle.std.proofs.Common.{◌≡◌, ℕ, ◌+◌, ◌∙◌, List, ap, sym, subst, set}
use Rattle.std.specs.List.{swap}
use Rattle.derivation_log.specs.declared.derivations.Row.{Row}
use Rattle.derivation_log.specs.Marking.{placed_row}
use Rattle.derivation_log.proofs.Places.{Kept, kept_skip, kept_one}
use Rattle.derivation_log.proofs.trimming.keep_rows.Goals as goal
use Rattle.derivation_log.proofs.trimming.keep_rows.Goals.{then-mark, else-mark}

pub loop-k-preserved : goal.loop-k-preserved
loop-k-preserved c =
    elim c.if-mark.branch [
      | then-mark w ↦ (
          let one = kept_one (placed_row c.args.main c.args.places.now) c.args.rows.now.items c.args.marks.now c.loop-k.k c.loop-k.count c.loop-k.rows.items w.index_mut.result.now c.loop-k.invariant c.loop-k-test.true w.if-mark.true w.index_mut.ensures.value in
          let items : c.if-mark.rows.items ≡ swap (set c.loop-k.rows.items c.loop-k.k (placed_row c.args.main c.args.places.now w.index_mut.result.now)) c.loop-k.count c.loop-k.k =
          ap (λ v. v.items) w.rows-is ∙ w.swap.ensures.items ∙ ap (λ (x : Row). swap (set c.loop-k.rows.items c.loop-k.k x) c.loop-k.count c.loop-k.k) w.place_row.ensures in
          subst (λ (rs : List Row). Kept (placed_row c.args.main c.args.places.now) c.args.rows.now.items c.args.marks.now (c.loop-k.k + 1) c.if-mark.count rs) (sym items)
          (subst (λ (n : ℕ). Kept (placed_row c.args.main c.args.places.now) c.args.rows.now.items c.args.marks.now (c.loop-k.k + 1) n (swap (set c.loop-k.rows.items c.loop-k.k (placed_row c.args.main c.args.places.now w.index_mut.result.now)) c.loop-k.count c.loop-k.k)) (sym w.count-is) one)
          )
      | else-mark w ↦ (
          let k = kept_skip (placed_row c.args.main c.args.places.now) c.args.rows.now.items c.args.marks.now c.loop-k.k c.loop-k.count c.loop-k.rows.items c.loop-k.invariant c.loop-k-test.true w.if-mark.false in
          rw (w.count-is, w.rows-is) k
          )
    ]
