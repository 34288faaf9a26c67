use Rattle.std.proofs.Common.{◌≡◌, ◌++◌, ◌∷◌, [], take}
use Rattle.std.specs.List.{flat_map}
use Rattle.formula_text.specs.ValuationWords.{truth_digit}
use Rattle.formula_text.proofs.valuations.write_valuation.Given as goal

abbrev pub invariant-loop-atom : goal.invariant-loop-atom
invariant-loop-atom l = l.into.items ≡ l.fn.into.items ++ flat_map (λ value. truth_digit value ∷ []) (take l.atom l.valuation)
