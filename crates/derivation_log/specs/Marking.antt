-- Marking what is needed, and numbering what is marked, as functions on lists.
use Rattle.std.specs.Prelude.{ℕ, ◌+◌, ◌-◌, ◌<◌, nat_lt, Bool, false, true, if◌then◌else◌, List, [], ◌∷◌, map}
use Rattle.std.specs.List.{AllByRecursion}
use Rattle.std.specs.Prelude.{slice_index_or, slice_set}
use Rattle.derivation_log.specs.declared.derivations.Row.{Row}
use Rattle.derivation_log.specs.declared.step.Link.{Link}

-- the mark of the step of a number is set
abbrev pub mark : ℕ → ℕ → List Bool → List Bool
mark main n marks = if nat_lt n main then marks else slice_set marks (n - main) true

abbrev pub mark_all : ℕ → List ℕ → List Bool → List Bool
mark_all main [] marks = marks
mark_all main (n ∷ ns) marks = mark_all main ns (mark main n marks)

-- the numbers of the clauses that a row resolves
abbrev pub numbers_of : Row → List ℕ
numbers_of row = row.first ∷ map (λ (link : Link). link.number) row.chain

-- from the last of these lists of numbers back to list k, what a marked step uses is marked
abbrev pub swept : ℕ → ℕ → List (List ℕ) → List Bool → List Bool
swept main k [] marks = marks
swept main k (used ∷ rest) marks = let later = swept main (k + 1) rest marks in if slice_index_or later k false then mark_all main used later else later

-- the numbers of the steps, were each marked one left, from a number on
abbrev pub places_from : ℕ → List Bool → List ℕ
places_from next [] = []
places_from next (m ∷ ms) = next ∷ places_from (if m then next + 1 else next) ms

abbrev pub place_in : ℕ → List ℕ → ℕ → ℕ
place_in main places n = if nat_lt n main then n else slice_index_or places (n - main) 0

abbrev pub placed_link : ℕ → List ℕ → Link → Link
placed_link main places link = record link { number = place_in main places link.number }

abbrev pub placed_row : ℕ → List ℕ → Row → Row
placed_row main places row = record row { first = place_in main places row.first; chain = map (placed_link main places) row.chain }

abbrev pub AreBelow : ℕ → List ℕ → Type 0
AreBelow n ns = AllByRecursion (λ k. k < n) ns

abbrev pub RowsBelow : ℕ → List Row → Type 0
RowsBelow n rows = AllByRecursion (λ row. AreBelow n (numbers_of row)) rows
