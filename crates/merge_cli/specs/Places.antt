-- Where a list begins.
use Rattle.std.specs.Prelude.{◌≡◌, ℕ, ◌≤◌, ◌<◌, Bool, List, [], ◌∷◌, length, ◌==◌, Option, None, Some, ◌⊎◌}
use Rattle.formulas.specs.Limits.{valuation_limit}
use Rattle.formula_text.specs.ValuationWords.{valuation_word}
use Rattle.merge_model.specs.declared.problem.Problem.{Problem}
use Rattle.merge_cli.specs.declared.place.Place.{Place}
use Rattle.merge_cli.specs.declared.place.Place.TheVariants.{Start, Above, TooLong}

-- 0 or 1
abbrev pub IsTruthDigit : ℕ → Type 0
IsTruthDigit digit = (digit ≡ 48) ⊎ (digit ≡ 49)

abbrev pub is_one : ℕ → Bool
is_one digit = digit == 49

-- the last words of a list say where it begins: no word, or the word of a valuation of at least one atom
abbrev pub IsPlace : List (List ℕ) → Place → Type 0
IsPlace words Start = words ≡ []
IsPlace words (Above v) = (words ≡ valuation_word v ∷ []) × (1 ≤ length v) × (length v ≤ valuation_limit)
IsPlace words TooLong = (v : List Bool) × (words ≡ valuation_word v ∷ []) × (valuation_limit < length v)

-- the place has as many truth values as the problem has atoms, or none
abbrev pub IsPlaceOf : Problem → Place → Type 0
IsPlaceOf problem Start = Unit {0}
IsPlaceOf problem (Above v) = length v ≡ length problem.atoms
IsPlaceOf problem TooLong = ⊥

-- the valuation above which a list begins, if there is one
abbrev pub above : Place → Option (List Bool)
above Start = None
above (Above v) = Some v
above TooLong = None
