use Rattle.std.specs.Prelude.{◌≡◌, ℕ, zero, suc, ◌+◌, ◌-◌, ◌^◌, Bool, true, false, List, [], ◌∷◌, ◌++◌, length, map, slice_get, unwrap_or, nat_le, if◌then◌else◌}

-- the word of n truth values that a number below 2 ^ n stands for, its highest bit first
abbrev pub word_of : ℕ → ℕ → List Bool
word_of zero bits = []
word_of (suc n) bits = if nat_le (2 ^ n) bits then true ∷ word_of n (bits - 2 ^ n) else false ∷ word_of n bits

-- the number that a word stands for
abbrev pub number_of : List Bool → ℕ
number_of [] = 0
number_of (true ∷ v) = 2 ^ length v + number_of v
number_of (false ∷ v) = number_of v

-- all words of n values, in rising order: false before true at the first place where two differ
abbrev pub all_words : ℕ → List (List Bool)
all_words zero = [] ∷ []
all_words (suc n) = map (λ v. false ∷ v) (all_words n) ++ map (λ v. true ∷ v) (all_words n)

-- the value of atom k, false past the end
abbrev pub truth_at : List Bool → ℕ → Bool
truth_at v k = unwrap_or (slice_get v k) false

-- a word is before another: false before true at the first place where they differ
abbrev pub IsBefore : List Bool → List Bool → Type 0
IsBefore [] w = ⊥
IsBefore (a ∷ v) [] = ⊥
IsBefore (false ∷ v) (true ∷ w) = Unit {0}
IsBefore (true ∷ v) (false ∷ w) = ⊥
IsBefore (false ∷ v) (false ∷ w) = IsBefore v w
IsBefore (true ∷ v) (true ∷ w) = IsBefore v w

-- the word right after another of its length
abbrev pub IsNext : List Bool → List Bool → Type 0
IsNext v w =
    (length w ≡ length v) × IsBefore v w × ((u : List Bool) → length u ≡ length v → IsBefore v u → IsBefore u w → ⊥)
