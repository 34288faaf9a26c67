use Rattle.std.proofs.Common.{◌∙◌, List, ap, subst, sym}
use Rattle.std.specs.List.{AllZip}
use Rattle.merge_model.specs.declared.answer.Verdict.{Verdict}
use Rattle.merge_model.specs.Answers.{profile_of, IsVerdict}
use Rattle.merge_model.proofs.Closest.{over_at, best_within, merged_rightly}
use Rattle.merge_model.proofs.plain.judged.merged.Goals as goal

pub shown-requires : goal.shown-requires
shown-requires g c =
    let dist = g.D.Distance.dist c.args.distance.now in
    let rank = g.A.Aggregator.rank c.args.aggregator.now in
    over_at dist rank (profile_of c.args.problem.now) c.args.walk.now.candidates.items c.args.walk.now.fulls.items c.args.walk.now.best
    c.requires.candidates c.requires.fulls c.requires.consistent c.requires.best c.args.walk.now.best c.index.result.now c.deref.result.now
    (best_within dist rank (profile_of c.args.problem.now) c.args.walk.now.candidates.items c.args.walk.now.fulls.items c.args.walk.now.best c.requires.candidates c.requires.fulls c.requires.consistent c.requires.best)
    c.index.ensures (c.deref.ensures.value ∙ c.requires.tables)

pub returns : goal.returns
returns g c =
    let dist = g.D.Distance.dist c.args.distance.now in
    let rank = g.A.Aggregator.rank c.args.aggregator.now in
    let p = profile_of c.args.problem.now in
    merged_rightly dist rank p c.args.walk.now.candidates.items c.args.walk.now.fulls.items c.args.walk.now.best
    c.requires.candidates c.requires.fulls c.requires.consistent c.requires.best
    c.args.problem.now.asks c.index.result.now c.index-2.result.now c.deref.result.now c.in_ok-best.best c.from_vec.result c.from_vec-2.result
    c.index.ensures c.index-2.ensures (c.deref.ensures.value ∙ c.requires.tables)
    c.in_ok-best.ensures.model c.in_ok-best.ensures.vector c.in_ok-best.ensures.nearest
    (c.from_vec.ensures ∙ c.in_ok-measure.ensures ∙ ap rank c.as_slice.ensures)
    (subst (λ (xs : List Verdict). AllZip (IsVerdict dist rank p) c.args.problem.now.asks xs) (sym c.from_vec-2.ensures) c.in_ok-verdicts.ensures)
