use Rattle.std.proofs.Common.{◌≡◌, ◌++◌, ◌∷◌, take}
use Rattle.std.specs.List.{flat_map}
use Rattle.formula_text.specs.ValuationWords.{valuation_word}
use Rattle.formula_text.proofs.valuations.write_valuations.Given as goal

abbrev pub invariant-loop-valuation : goal.invariant-loop-valuation
invariant-loop-valuation l = l.into.items ≡ l.fn.into.items ++ flat_map (λ v. 32 ∷ valuation_word v) (take l.valuation-index l.valuations)
