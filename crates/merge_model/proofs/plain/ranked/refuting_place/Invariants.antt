use Rattle.std.proofs.Common.{ℕ, ◌<◌}
use Rattle.merge_model.specs.Plain.{Refutes}
use Rattle.merge_model.proofs.plain.ranked.refuting_place.Given as goal

abbrev pub invariant-loop-place : goal.invariant-loop-place
invariant-loop-place g l = (k : ℕ) → k < l.place → Refutes (g.A.Aggregator.rank l.aggregator) l.candidates l.fulls l.best l.ask k → ⊥
