-- How a refused text is answered.
use Rattle.std.specs.Prelude.{◌≡◌, ℕ, List, ◌++◌, codes, decimal}
use Rattle.problem_reading.specs.declared.stop.TextFault.{TextFault}
use Rattle.problem_reading.specs.declared.stop.TextStop.{TextStop}
use Rattle.problem_reading.specs.declared.stop.TextStop.TheVariants.{Fault, NoMemory}
use Rattle.problem_reading.specs.declared.stop.TextKind.{TextKind}
use Rattle.problem_reading.specs.declared.stop.TextKind.TheVariants.{BadByte, BadLine, BadForm, UnknownAtom, Reserved, Twice, TooMany, TooDeep, NoAtoms, NoAgent}

-- more bytes came than a command takes
abbrev pub too_long_text : List ℕ
too_long_text = codes "refused: too long\n"

abbrev pub kind_word : TextKind → List ℕ
kind_word BadByte = codes "bad-byte"
kind_word BadLine = codes "bad-line"
kind_word BadForm = codes "bad-form"
kind_word UnknownAtom = codes "unknown-atom"
kind_word Reserved = codes "reserved"
kind_word Twice = codes "twice"
kind_word TooMany = codes "too-many"
kind_word TooDeep = codes "too-deep"
kind_word NoAtoms = codes "no-atoms"
kind_word NoAgent = codes "no-agent"

-- a line, and what is wrong with it
abbrev pub line_refusal_text : ℕ → List ℕ → List ℕ
line_refusal_text line word = codes "refused line " ++ decimal line ++ codes ": " ++ word ++ codes "\n"

abbrev pub refusal_of : ℕ → TextKind → List ℕ
refusal_of line kind = line_refusal_text line (kind_word kind)

abbrev pub refusal_text : TextFault → List ℕ
refusal_text fault = refusal_of fault.line fault.kind

-- the answer names this fault
abbrev pub SaysFault : TextFault → ℕ → List ℕ → Type 0
SaysFault fault status text = (status ≡ 1) × (text ≡ refusal_text fault)

-- the answer to a text that was not read as a problem
abbrev pub SaysStop : TextStop → ℕ → List ℕ → Type 0
SaysStop (Fault fault) status text = SaysFault fault status text
SaysStop NoMemory status text = ⊥
