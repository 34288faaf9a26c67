-- Words of digits, and how often an agent counts.
use Rattle.std.specs.Prelude.{ℕ, ◌+◌, ◌-◌, ◌*◌, Bool, nat_lt, length, slice_index, not, ◌&&◌, ◌==◌, List, [], ◌∷◌}
use Rattle.std.specs.Char.{is_ascii_digit}
use Rattle.std.specs.List.{list_all}
use Rattle.formulas.specs.Limits.{times_limit}

-- digits, of which the first is not 0
abbrev pub is_numeral : List ℕ → Bool
is_numeral w = nat_lt 0 (length w) && not (slice_index w 0 == 48) && list_all is_ascii_digit w

-- the number of the digits after a number
abbrev pub value_after : ℕ → List ℕ → ℕ
value_after n [] = n
value_after n (b ∷ w) = value_after (n * 10 + (b - 48)) w

-- where counting how often an agent counts ends: one more than all agents may count together
abbrev pub times_cap : ℕ
times_cap = times_limit + 1
