-- The kinds of bytes of a line.
use Rattle.std.specs.Prelude.{ℕ, Bool, false, List, [], ◌∷◌, ◌==◌, ◌||◌, not}
use Rattle.formulas.specs.Names.{is_word_byte}

-- a space, a tab or a carriage return
abbrev pub is_blank : ℕ → Bool
is_blank b = b == 32 || b == 9 || b == 13

-- one of ! & ( ) - : < > |
abbrev pub is_mark_byte : ℕ → Bool
is_mark_byte b = b == 33 || b == 38 || b == 40 || b == 41 || b == 45 || b == 58 || b == 60 || b == 62 || b == 124

-- a byte that no line has before its comment
abbrev pub is_bad : ℕ → Bool
is_bad b = not (is_word_byte b || is_blank b || is_mark_byte b)

-- whether a word byte comes first
abbrev pub starts_word : List ℕ → Bool
starts_word [] = false
starts_word (b ∷ s) = is_word_byte b
