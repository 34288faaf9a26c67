-- That a text has a reading.
use Rattle.std.specs.Prelude.{ℕ, List, ◌⊎◌}
use Rattle.merge_model.specs.declared.problem.Problem.{Problem}
use Rattle.problem_reading.specs.declared.stop.TextFault.{TextFault}
use Rattle.problem_reading.specs.Spelling.{Spelled, FirstFault}

-- the text spells a problem, or has a first fault
abbrev pub HasReading : List ℕ → Type 0
HasReading bytes = ((p : Problem) × Spelled bytes p) ⊎ ((f : TextFault) × FirstFault bytes f)
