use Rattle.std.proofs.Common.{ℕ, subst, inl, inr}
use Rattle.merge_model.specs.Plain.{Refutes}
use Rattle.merge_model.proofs.Best.{below_or_at, not_true}
use Rattle.merge_model.proofs.plain.ranked.refuting_place.Goals as goal

pub loop-place-preserved : goal.loop-place-preserved
loop-place-preserved g c =
    let P : ℕ → Type 0 = λ k. Refutes (g.A.Aggregator.rank c.args.aggregator.now) c.args.candidates.now c.args.fulls.now c.args.best c.args.ask.now k in
    λ k below refuted. elim (below_or_at k c.loop-place.place below) [
      | inl i ↦ c.loop-place.invariant k i refuted
      | inr e ↦ not_true c.refutes.result (P c.loop-place.place) c.refutes.ensures c.if-refutes.false (subst P e refuted)
    ]
