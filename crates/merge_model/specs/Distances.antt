-- The distances. The Hamming distance is the one of the examples of Konieczny and Pino Pérez (2002);
-- the drastic distance, and which laws are asked of a distance, are this project's own choice.
use Rattle.std.specs.Prelude.{ℕ, ◌+◌, Bool, true, false, List, [], ◌∷◌}

-- 0 where two truth values are one, and 1 otherwise
abbrev pub apart : Bool → Bool → ℕ
apart true true = 0
apart true false = 1
apart false true = 1
apart false false = 0

-- the number of places where two valuations differ, of those that both have
abbrev pub hamming : List Bool → List Bool → ℕ
hamming [] w = 0
hamming (a ∷ v) [] = 0
hamming (a ∷ v) (b ∷ w) = apart a b + hamming v w

-- 0 where two valuations are one, and 1 otherwise, also where one is longer
abbrev pub drastic : List Bool → List Bool → ℕ
drastic [] [] = 0
drastic [] (b ∷ w) = 1
drastic (a ∷ v) [] = 1
drastic (true ∷ v) (true ∷ w) = drastic v w
drastic (true ∷ v) (false ∷ w) = 1
drastic (false ∷ v) (true ∷ w) = 1
drastic (false ∷ v) (false ∷ w) = drastic v w
