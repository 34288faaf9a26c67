-- Lists of which some members are kept.
use Rattle.std.specs.Prelude.{Bool, if◌then◌else◌, List, [], ◌∷◌}

-- the members at the marked places, in order
abbrev pub kept_of : {X : Type 0} → List Bool → List X → List X
kept_of [] xs = []
kept_of (mark ∷ marks) [] = []
kept_of (mark ∷ marks) (x ∷ xs) = if mark then x ∷ kept_of marks xs else kept_of marks xs
