use Rattle.std.proofs.Common.{◌≡◌, ◌+◌, ◌-◌, ◌∙◌, sym, false, get_or, arith}
use Rattle.std.proofs.lemmas.List.{get_or_read}
use Rattle.derivation_log.proofs.Sweeps.{swept_less}
use Rattle.derivation_log.proofs.trimming.marks_of.Goals as goal

pub loop-k-preserved : goal.loop-k-preserved
loop-k-preserved c =
    let i = c.loop-k.invariant in
    let w = i.within in
    let z = i.size in
    let s : c.loop-k.k ≡ c.loop-k.k - 1 + 1 = omega (arith, c.loop-k-test.true) in
    let f : get_or c.loop-k.marks.items (c.loop-k.k - 1) false ≡ false =
    sym (get_or_read c.loop-k.marks.items (c.loop-k.k - 1) c.index.result.now (omega (arith, c.loop-k-test.true)) c.index.ensures false) ∙ c.if-index.false in
    record {
      marks = swept_less c.args.main c.loop-k.k (c.loop-k.k - 1) c.args.rows.now _ c.loop-k.marks.items s (omega (arith, c.loop-k-test.true)) i.marks f;
      size = i.size;
      within = omega arith;
    }
