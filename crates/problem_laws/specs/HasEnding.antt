-- That the end of lines without a fault has an outcome.
use Rattle.std.specs.Prelude.{ℕ, List, ◌⊎◌}
use Rattle.merge_model.specs.declared.problem.Problem.{Problem}
use Rattle.problem_reading.specs.declared.stop.TextFault.{TextFault}
use Rattle.problem_reading.specs.declared.stop.TextStop.TheVariants.{Fault}
use Rattle.problem_reading.specs.Lines.{Spell, StopsAtEnd}

-- none of the lines has a fault, and this is the fault of their end
abbrev pub EndsWith : List (List ℕ) → TextFault → Type 0
EndsWith lines fault = StopsAtEnd lines (Fault fault)

-- the lines spell a problem, or their end has a fault
abbrev pub HasEnding : List (List ℕ) → Type 0
HasEnding lines = ((p : Problem) × Spell lines p) ⊎ ((f : TextFault) × EndsWith lines f)
