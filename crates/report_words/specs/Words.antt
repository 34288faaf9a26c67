-- A line is its words with one blank between each two.
use Rattle.std.specs.Prelude.{ℕ, List, [], ◌∷◌, ◌++◌, eqb}
use Rattle.std.specs.List.{slice_split, flat_map}

abbrev pub words_of : List ℕ → List (List ℕ)
words_of line = slice_split (λ b. eqb b 32) line

-- the words after the first, each with the blank before it
abbrev pub later_text : List (List ℕ) → List ℕ
later_text words = flat_map (λ w. 32 ∷ w) words

abbrev pub line_of : List (List ℕ) → List ℕ
line_of [] = []
line_of (w ∷ ws) = w ++ later_text ws
