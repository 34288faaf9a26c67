-- Variables that come before levels, beside the outputs of the levels.
use Rattle.std.proofs.Common.{ℕ, ◌<◌, inl, inr, List, ◌++◌, sym, ◌∙◌, arith}
use Rattle.std.specs.Prelude.{slice_index, Contains, ◌⊎◌}
use Rattle.std.proofs.lemmas.Grind.{get_or_default_zero}
use Rattle.std.proofs.lemmas.List.Elements.{All-get_or}
use Rattle.totalizer.specs.Counter.{AreVarsWithin, AreDistinct}
use Rattle.totalizer.proofs.Distinct.{ShareNone, distinct_append}
use Rattle.aggregators.specs.Levels.{AreFreshOrOf}

-- distinct variables up to v, none of them an output of a counter, are distinct together with the outputs of levels
pub distinct_before : (v : ℕ) (xs given outputs : List ℕ) → AreVarsWithin v xs → AreDistinct xs → ShareNone xs given → AreFreshOrOf v given outputs → AreDistinct outputs → AreDistinct (xs ++ outputs)
distinct_before v xs given outputs within d apart origin e =
    distinct_append xs outputs d e (λ j k hj hk same.
    elim (All-get_or (λ x. (v < x) ⊎ Contains given x) outputs k 0 hk origin) [
      | inl above ↦ (let low = (within j hj).1 in omega arith)
      | inr among ↦ apart j among.0 hj among.1 (same ∙ sym among.2 ∙ get_or_default_zero given among.0 (slice_index outputs k) among.1)
    ])
