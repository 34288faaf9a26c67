-- Each text spells a problem or has a first fault.
use Rattle.std.proofs.Common.{◌≡◌, ◌+◌, ℕ, List, [], ◌∷◌, ◌++◌, length, append_assoc, append-nil, refl, sym, subst, ◌∙◌, inl, inr}
use Rattle.problem_lines.specs.Lines.{lines_of}
use Rattle.problem_reading.specs.Drafts.{Draft, empty_draft}
use Rattle.problem_reading.specs.Saying.{Adds}
use Rattle.problem_reading.specs.Spelling.{Declares, no_lines, one_more}
use Rattle.problem_laws.specs.HasEnding.{HasEnding}
use Rattle.problem_laws.specs.HasReading.{HasReading}
use Rattle.problem_laws.proofs.EndLaws.{has_ending}
use Rattle.problem_laws.proofs.LineChoice.{LineChoice, line_choice}

-- the outcome of the end of a text's lines is one of the text
of_ending : (bytes : List ℕ) → HasEnding (lines_of bytes) → HasReading bytes
of_ending bytes (inl h) = inl h
of_ending bytes (inr h) = inr (h.0, inr h.1)

at_line : (bytes : List ℕ) (before after : List (List ℕ)) (line : List ℕ) (d : Draft) → before ++ line ∷ after ≡ lines_of bytes → Declares before d → LineChoice d line →
    ((e : Draft) → Adds d line e → HasReading bytes) → HasReading bytes
at_line bytes before after line d same declares (inl h) more = more h.0 h.1
at_line bytes before after line d same declares (inr h) more = inr (
  record { line = length before + 1; kind = h.0 },
  inl (record {
    before = before;
    line = line;
    after = after;
    draft = d;
    lines = sym same;
    declares = declares;
    number = refl;
    least = h.1;
  }),
)

from : (bytes : List ℕ) (before rest : List (List ℕ)) (d : Draft) → before ++ rest ≡ lines_of bytes → Declares before d → HasReading bytes
from bytes before [] d same declares = of_ending bytes (has_ending (lines_of bytes) (d, subst (λ (ls : List (List ℕ)). Declares ls d) (sym (append-nil before) ∙ same) declares))
from bytes before (line ∷ rest) d same declares =
    at_line bytes before rest line d same declares (line_choice d line)
    (λ e adds. from bytes (before ++ line ∷ []) rest e (append_assoc before (line ∷ []) rest ∙ same) (one_more line e declares adds))

pub has_reading : (bytes : List ℕ) → HasReading bytes
has_reading bytes = from bytes [] (lines_of bytes) empty_draft refl no_lines
