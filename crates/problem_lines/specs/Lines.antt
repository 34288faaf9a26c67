-- The lines of a text, and what of a line is no comment.
use Rattle.std.specs.Prelude.{ℕ, List, [], ◌∷◌, ◌==◌, not, if◌then◌else◌}
use Rattle.std.specs.List.{take_while}

-- a byte before the first of some lines
abbrev pub with_byte : ℕ → List (List ℕ) → List (List ℕ)
with_byte b [] = (b ∷ []) ∷ []
with_byte b (line ∷ lines) = (b ∷ line) ∷ lines

-- each line ends at a line feed; a last piece without one is a line if it is not empty
abbrev pub lines_of : List ℕ → List (List ℕ)
lines_of [] = []
lines_of (b ∷ text) = if b == 10 then [] ∷ lines_of text else with_byte b (lines_of text)

-- the part of a line before its first `#`
abbrev pub content_of : List ℕ → List ℕ
content_of line = take_while (λ b. not (b == 35)) line
