-- A valuation as a word.
use Rattle.std.specs.Prelude.{ℕ, Bool, List, map, if◌then◌else◌}

-- the digit of a truth value: 0 for false and 1 for true
abbrev pub truth_digit : Bool → ℕ
truth_digit value = if value then 49 else 48

-- the truth values of the atoms in their order
abbrev pub valuation_word : List Bool → List ℕ
valuation_word v = map truth_digit v
