-- Numbers of 1 to 19 digits and literals, as words and back.
use Rattle.std.specs.Prelude.{ℕ, ◌+◌, ◌-◌, ◌*◌, ◌^◌, ◌<◌, ◌≤◌, ◌==◌, Bool, true, false, ◌&&◌, if◌then◌else◌, List, [], ◌∷◌, Option, None, Some, decimal}
use Rattle.std.specs.Char.{is_ascii_digit}
use Rattle.std.specs.Option.{option_and_then}
use Rattle.std.specs.Prelude.{nat_lt}
use Rattle.report_words.specs.declared.numbers.WideLit.{WideLit}

-- a number has a numeral where it is below this: at most 19 digits
abbrev pub numeral_limit : ℕ
numeral_limit = 10 ^ 19

-- a number below this takes one digit more
abbrev pub front_limit : ℕ
front_limit = 1_000_000_000_000_000_000

-- the number has at most 19 digits
abbrev pub HasNumeral : ℕ → Type 0
HasNumeral n = n < numeral_limit

-- the number of the digits so far and the digits that follow
abbrev pub digits_from : ℕ → List ℕ → Option ℕ
digits_from n [] = Some n
digits_from n (b ∷ bs) = if is_ascii_digit b && nat_lt n front_limit then digits_from (10 * n + (b - 48)) bs else None

-- the number that a word spells
unfoldable pub number_at : List ℕ → Option ℕ
number_at [] = None
number_at (b ∷ []) = digits_from 0 (b ∷ [])
number_at (b ∷ c ∷ bs) = if b == 48 then None else digits_from 0 (b ∷ c ∷ bs)

-- how a literal is written
abbrev pub literal_word : WideLit → List ℕ
literal_word l = if l.positive then decimal l.var else 45 ∷ decimal l.var

-- a literal that has a word
pub record IsLiteral (l : WideLit) : Type 0 where
  pub low : 1 ≤ l.var
  pub high : HasNumeral l.var

abbrev pub signed : Bool → ℕ → Option WideLit
signed positive n = if n == 0 then None else Some (record { var = n; positive = positive })

-- the literal that a word spells
unfoldable pub literal_at : List ℕ → Option WideLit
literal_at [] = None
literal_at (b ∷ bs) = if b == 45 then option_and_then (signed false) (number_at bs) else option_and_then (signed true) (number_at (b ∷ bs))
