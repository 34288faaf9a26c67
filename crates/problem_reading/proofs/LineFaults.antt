-- The faults of a line are those of its form.
use Rattle.std.proofs.Common.{◌≡◌, ℕ, false, List}
use Rattle.std.specs.List.{list_any}
use Rattle.line_tokens.specs.Bytes.{is_bad}
use Rattle.problem_lines.specs.Lines.{content_of}
use Rattle.problem_lines.specs.Forms.{Form, blank, declaration, condition, belief, query, unknown}
use Rattle.problem_reading.specs.declared.stop.TextKind.{TextKind}
use Rattle.problem_reading.specs.declared.stop.TextKind.TheVariants.{BadByte, BadLine, BadForm, UnknownAtom, Reserved, Twice, TooMany, TooDeep, NoAtoms, NoAgent}
use Rattle.problem_reading.specs.Drafts.{Draft}
use Rattle.problem_reading.specs.Faults.{IsFormFault, IsLineFault, line_form}

no_bad_byte : (d : Draft) (form : Form) → IsFormFault d form BadByte → ⊥
no_bad_byte d blank h = h
no_bad_byte d unknown h = absurd (cc)
no_bad_byte d (declaration names) h = h
no_bad_byte d (condition ts) h = h
no_bad_byte d (belief name times ts) h = h
no_bad_byte d (query ts) h = h

-- the fault of a line's form is that of the line, which has no bad byte
pub fault_of_form : (d : Draft) (line : List ℕ) (k : TextKind) → list_any is_bad (content_of line) ≡ false → IsFormFault d (line_form line) k → IsLineFault d line k
fault_of_form d line BadByte good h = absurd (no_bad_byte d (line_form line) h)
fault_of_form d line BadLine good h = (good, h)
fault_of_form d line BadForm good h = (good, h)
fault_of_form d line UnknownAtom good h = (good, h)
fault_of_form d line Reserved good h = (good, h)
fault_of_form d line Twice good h = (good, h)
fault_of_form d line TooMany good h = (good, h)
fault_of_form d line TooDeep good h = (good, h)
fault_of_form d line NoAtoms good h = (good, h)
fault_of_form d line NoAgent good h = (good, h)
