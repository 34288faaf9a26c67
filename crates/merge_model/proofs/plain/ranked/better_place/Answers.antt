use Rattle.std.proofs.Common.{◌∙◌}
use Rattle.merge_model.proofs.Best.{compared, best_taken, best_kept}
use Rattle.merge_model.proofs.plain.ranked.better_place.Goals as goal

pub returns-then-is_lt : goal.returns-then-is_lt
returns-then-is_lt g c =
    let rank = g.A.Aggregator.rank c.args.aggregator.now in
    best_taken rank c.args.fulls.now c.args.place c.args.best c.requires.before c.requires.within
    (compared rank c.args.fulls.now c.args.place c.args.best c.index-fulls-place.result c.index-fulls-best.result c.as_slice.result.now c.as_slice-2.result.now c.compare-order.result c.is_lt.result
    c.requires.within c.requires.before.within c.index-fulls-place.is c.index-fulls-best.is c.as_slice.ensures c.as_slice-2.ensures c.compare-order.ensures c.is_lt.ensures ∙ c.if-is_lt.true)

pub returns-else-is_lt : goal.returns-else-is_lt
returns-else-is_lt g c =
    let rank = g.A.Aggregator.rank c.args.aggregator.now in
    best_kept rank c.args.fulls.now c.args.place c.args.best c.requires.before
    (compared rank c.args.fulls.now c.args.place c.args.best c.index-fulls-place.result c.index-fulls-best.result c.as_slice.result.now c.as_slice-2.result.now c.compare-order.result c.is_lt.result
    c.requires.within c.requires.before.within c.index-fulls-place.is c.index-fulls-best.is c.as_slice.ensures c.as_slice-2.ensures c.compare-order.ensures c.is_lt.ensures ∙ c.if-is_lt.false)
