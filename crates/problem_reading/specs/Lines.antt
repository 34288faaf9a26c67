-- What the lines of a problem text that were read so far say of the next line, and of the end.
use Rattle.std.specs.Prelude.{◌≡◌, ℕ, ◌+◌, List, length}
use Rattle.merge_model.specs.declared.problem.Problem.{Problem}
use Rattle.problem_reading.specs.declared.said.Said.{Said}
use Rattle.problem_reading.specs.declared.stop.TextKind.{TextKind}
use Rattle.problem_reading.specs.declared.stop.TextStop.{TextStop}
use Rattle.problem_reading.specs.declared.stop.TextStop.TheVariants.{Fault, NoMemory}
use Rattle.problem_reading.specs.Canonical.{IsWritten}
use Rattle.problem_reading.specs.Drafts.{Draft}
use Rattle.problem_reading.specs.Faults.{IsLineFault}
use Rattle.problem_reading.specs.Saying.{Says}
use Rattle.problem_reading.specs.Spelling.{Declares, IsProblemOf, EndsAt}

-- none of the lines has a fault
abbrev pub AreFaultless : List (List ℕ) → Type 0
AreFaultless lines = (d : Draft) × Declares lines d

-- none of the lines has a fault, and this is the least fault of the next one
abbrev pub IsNextFault : List (List ℕ) → List ℕ → TextKind → Type 0
IsNextFault lines next kind = (d : Draft) × Declares lines d × IsLineFault d next kind

-- why the next line is not read; want of memory says nothing
abbrev pub StopsAfter : List (List ℕ) → List ℕ → TextStop → Type 0
StopsAfter lines next (Fault fault) = (fault.line ≡ length lines + 1) × IsNextFault lines next fault.kind
StopsAfter lines next NoMemory = Unit {0}

-- after the lines the next one has no fault, and is the canonical line of what it says
abbrev pub IsCanonicalNext : List (List ℕ) → List ℕ → Type 0
IsCanonicalNext lines next = (d : Draft) × (said : Said) × Declares lines d × Says d next said × IsWritten d next said

-- none of the lines has a fault, and they spell the problem
abbrev pub Spell : List (List ℕ) → Problem → Type 0
Spell lines p = (d : Draft) × Declares lines d × IsProblemOf d p

-- none of the lines has a fault, and this stops the reading at their end
abbrev pub StopsAtEnd : List (List ℕ) → TextStop → Type 0
StopsAtEnd lines stop = (d : Draft) × Declares lines d × EndsAt d stop

-- what a reading keeps of its lines: what they declare, and how many there are
pub record HasRead (lines : List (List ℕ)) (d : Draft) (count : ℕ) : Type 0 where
  pub declares : Declares lines d
  pub number : count ≡ length lines
