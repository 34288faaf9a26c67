use Rattle.merge_model.specs.Plain.{IsBestOf}
use Rattle.merge_model.proofs.plain.ranked.best_place.Given as goal

abbrev pub invariant-loop-place : goal.invariant-loop-place
invariant-loop-place g l = IsBestOf (g.A.Aggregator.rank l.aggregator) l.fulls l.place l.best
