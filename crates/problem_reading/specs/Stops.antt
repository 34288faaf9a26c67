-- Why a line is not read; want of memory says nothing.
use Rattle.std.specs.Prelude.{ℕ, Bool, List}
use Rattle.line_tokens.specs.Lexemes.{Lexeme}
use Rattle.problem_lines.specs.Forms.{Form}
use Rattle.problem_reading.specs.declared.stop.LineStop.{LineStop}
use Rattle.problem_reading.specs.declared.stop.LineStop.TheVariants.{Fault, NoMemory}
use Rattle.problem_reading.specs.Drafts.{Draft}
use Rattle.problem_reading.specs.Faults.{IsFormulaFault, IsFormFault, IsLineFault}

abbrev pub IsFormulaStop : List (List ℕ) → List Lexeme → Bool → Bool → Bool → LineStop → Type 0
IsFormulaStop atoms ts reserved twice over (Fault kind) = IsFormulaFault atoms ts reserved twice over kind
IsFormulaStop atoms ts reserved twice over NoMemory = Unit {0}

abbrev pub IsFormStop : Draft → Form → LineStop → Type 0
IsFormStop d form (Fault kind) = IsFormFault d form kind
IsFormStop d form NoMemory = Unit {0}

abbrev pub IsLineStop : Draft → List ℕ → LineStop → Type 0
IsLineStop d line (Fault kind) = IsLineFault d line kind
IsLineStop d line NoMemory = Unit {0}
