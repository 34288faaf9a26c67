use Rattle.std.proofs.Common.{◌≡◌, ◌++◌, ◌∷◌, take}
use Rattle.std.specs.List.{flat_map}
use Rattle.report_words.specs.Numbers.{literal_word}
use Rattle.derivation_log.specs.StepLines.{widen}
use Rattle.derivation_log.proofs.writing.put_literals.Given as goal

abbrev pub invariant-loop-lit : goal.invariant-loop-lit
invariant-loop-lit l = l.text.items ≡ l.initial.text.items ++ flat_map (λ x. 32 ∷ literal_word (widen x)) (take l.lit-index l.lits)
