use Rattle.std.proofs.Common.{rules, length, arith}
use Rattle.clause_store.proofs.Cuts.{get-cut, Rise-bounds}
use Rattle.clause_store.proofs.clause_list.part.Goals as goal

pub slice_bounds-result-count : goal.slice_bounds-result-count
slice_bounds-result-count c = omega (arith, Rise-bounds 0 c.args.ends.now (length c.args.lits.now) c.args.k c.requires.rise c.requires.within, c.start-from.ensures)

pub slice_bounds-result-start : goal.slice_bounds-result-start
slice_bounds-result-start c = let b = Rise-bounds 0 c.args.ends.now (length c.args.lits.now) c.args.k c.requires.rise c.requires.within in let e = c.start-from.ensures in search rules

pub slice_bounds-result-end : goal.slice_bounds-result-end
slice_bounds-result-end c = let b = Rise-bounds 0 c.args.ends.now (length c.args.lits.now) c.args.k c.requires.rise c.requires.within in search rules

pub returns : goal.returns
returns c = rw c.start-from.ensures (get-cut 0 c.args.ends.now c.args.lits.now c.args.k c.requires.within)
