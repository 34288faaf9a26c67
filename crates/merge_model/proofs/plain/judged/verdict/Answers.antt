use Rattle.std.proofs.Common.{◌≡◌, ◌∙◌, ◌<◌, ℕ, List, Bool, length, get_or, subst, sym}
use Rattle.merge_model.specs.Answers.{profile_of}
use Rattle.merge_model.specs.Plain.{IsBestOf}
use Rattle.merge_model.proofs.Closest.{entailed, over_at, refuted, wide}
use Rattle.merge_model.proofs.plain.judged.verdict.Goals as goal

best_of : (rank : List ℕ → List ℕ) (xs ys : List (List ℕ)) (best : ℕ) → xs ≡ ys → IsBestOf rank ys (length ys) best → IsBestOf rank xs (length xs) best
best_of rank xs ys best same h = subst (λ (zs : List (List ℕ)). IsBestOf rank zs (length zs) best) (sym same) h

pub refuting_place-requires-clause-width : goal.refuting_place-requires-clause-width
refuting_place-requires-clause-width g c =
    wide (g.D.Distance.dist c.args.distance.now) (g.A.Aggregator.rank c.args.aggregator.now) (profile_of c.args.problem.now) c.deref.result.now c.args.walk.now.fulls.items c.args.walk.now.best
    (c.deref.ensures.value ∙ c.requires.walk.candidates) c.requires.walk.fulls c.requires.walk.consistent c.requires.walk.best _ c.requires.width

pub shown-requires : goal.shown-requires
shown-requires g c =
    over_at (g.D.Distance.dist c.args.distance.now) (g.A.Aggregator.rank c.args.aggregator.now) (profile_of c.args.problem.now) c.args.walk.now.candidates.items c.args.walk.now.fulls.items c.args.walk.now.best
    c.requires.walk.candidates c.requires.walk.fulls c.requires.walk.consistent c.requires.walk.best c.in-Some.place c.index.result.now c.deref-in-Some.result.now
    (subst (λ (xs : List (List Bool)). c.in-Some.place < length xs) c.deref.ensures.value c.in-Some.ensures.within) c.index.ensures (c.deref-in-Some.ensures.value ∙ c.requires.walk.tables)

pub returns-in-None : goal.returns-in-None
returns-in-None g c =
    entailed (g.D.Distance.dist c.args.distance.now) (g.A.Aggregator.rank c.args.aggregator.now) (profile_of c.args.problem.now) c.deref.result.now c.deref-2.result.now c.args.walk.now.best
    (c.deref.ensures.value ∙ c.requires.walk.candidates) (c.deref-2.ensures.value ∙ c.requires.walk.fulls) c.requires.walk.consistent
    (best_of (g.A.Aggregator.rank c.args.aggregator.now) c.deref-2.result.now c.args.walk.now.fulls.items c.args.walk.now.best c.deref-2.ensures.value c.requires.walk.best)
    c.args.ask.now c.in-None.ensures

pub returns-in_ok-shown-in-Some : goal.returns-in_ok-shown-in-Some
returns-in_ok-shown-in-Some g c =
    refuted (g.D.Distance.dist c.args.distance.now) (g.A.Aggregator.rank c.args.aggregator.now) (profile_of c.args.problem.now) c.deref.result.now c.deref-2.result.now c.args.walk.now.best
    (c.deref.ensures.value ∙ c.requires.walk.candidates) (c.deref-2.ensures.value ∙ c.requires.walk.fulls) c.requires.walk.consistent
    (best_of (g.A.Aggregator.rank c.args.aggregator.now) c.deref-2.result.now c.args.walk.now.fulls.items c.args.walk.now.best c.deref-2.ensures.value c.requires.walk.best)
    c.args.ask.now c.in-Some.place c.index.result.now c.deref-in-Some.result.now c.in_ok-shown-in-Some.shown c.in-Some.ensures
    (subst (λ (xs : List (List Bool)). c.index.result.now ≡ get_or xs c.in-Some.place c.index.result.now) (sym c.deref.ensures.value) c.index.ensures)
    (c.deref-in-Some.ensures.value ∙ c.requires.walk.tables)
    c.in_ok-shown-in-Some.ensures.model c.in_ok-shown-in-Some.ensures.vector c.in_ok-shown-in-Some.ensures.nearest
