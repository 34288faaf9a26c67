-- Reading rows of digits, numbers and valuations, as functions on lists.
use Rattle.std.specs.Prelude.{ℕ, ◌==◌, Bool, true, false, if◌then◌else◌, List, [], ◌∷◌, ◌++◌, length, Option, Some, None}
use Rattle.derivation_log.specs.StepReading.{◌>>=◌}

-- what was read in front of what is read next
abbrev pub after_each : {B : Type 0} → List B → Option (List B) → Option (List B)
after_each front read = read >>= λ ys. Some (front ++ ys)

-- each element, read by f; none where one is not read
unfoldable pub each_at : {A B : Type 0} → (A → Option B) → List A → Option (List B)
each_at f [] = Some []
each_at f (x ∷ xs) = f x >>= λ y. after_each (y ∷ []) (each_at f xs)

-- the truth value of a digit
abbrev pub bit_at : ℕ → Option Bool
bit_at b = if b == 49 then Some true else (if b == 48 then Some false else None)

-- the valuation over n atoms that a word spells
unfoldable pub valuation_at : ℕ → List ℕ → Option (List Bool)
valuation_at n word = if length word == n then each_at bit_at word else None
