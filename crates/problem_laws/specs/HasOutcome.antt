-- That a line has an outcome after the lines before it.
use Rattle.std.specs.Prelude.{ℕ, List, [], ◌∷◌, ◌++◌, ◌⊎◌}
use Rattle.problem_reading.specs.declared.stop.TextKind.{TextKind}
use Rattle.problem_reading.specs.Lines.{AreFaultless, IsNextFault}

-- the next line may join the lines, or has a least fault after them
abbrev pub HasOutcome : List (List ℕ) → List ℕ → Type 0
HasOutcome lines next = AreFaultless (lines ++ next ∷ []) ⊎ ((kind : TextKind) × IsNextFault lines next kind)
