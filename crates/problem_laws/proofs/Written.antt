-- Lines that are each canonical after those before them.
use Rattle.std.proofs.Common.{◌≡◌, List, [], ◌∷◌, ◌++◌, append_assoc, ap, sym, subst, ◌∙◌}
use Rattle.problem_reading.specs.declared.said.Said.{Said}
use Rattle.problem_reading.specs.Canonical.{IsWritten}
use Rattle.problem_reading.specs.Drafts.{Draft, empty_draft}
use Rattle.problem_reading.specs.Lines.{IsCanonicalNext}
use Rattle.problem_reading.specs.Saying.{Says, after}
use Rattle.problem_reading.specs.Spelling.{Declares, no_lines, one_more}
use Rattle.problem_reading.proofs.OneDraft.{Line, end_parts}
use Rattle.problem_laws.proofs.TextLaws.{last_of}

-- after a canonical line, this is declared
abbrev pub AddsWritten : Draft → Line → Draft → Type 0
AddsWritten d line e = (said : Said) × Says d line said × IsWritten d line said × (e ≡ after d said)

-- such lines, and what they declare
pub data DeclaresWritten : List Line → Draft → Type 0 where
  none_written : DeclaresWritten [] empty_draft
  more_written : {lines : List Line} {d : Draft} (line : Line) (e : Draft) → DeclaresWritten lines d → AddsWritten d line e → DeclaresWritten (lines ++ line ∷ []) e

pub written_declares : {lines : List Line} {d : Draft} → DeclaresWritten lines d → Declares lines d
written_declares none_written = no_lines
written_declares (more_written line e h adds) = one_more line e (written_declares h) (adds.0, adds.1, adds.3)

-- each of them is the canonical next one
pub written_next : {lines : List Line} {e : Draft} → DeclaresWritten lines e → (before rest : List Line) (line : Line) → lines ≡ before ++ line ∷ rest → IsCanonicalNext before line
written_next none_written [] rest line same = absurd (cc)
written_next none_written (b ∷ before) rest line same = absurd (cc)
written_next (more_written {lines = ls} {d = d} x e h adds) before [] line same =
    let parts = end_parts ls before x line same in (
      d,
      adds.0,
      subst (λ (zs : List Line). Declares zs d) parts.0 (written_declares h),
      subst (λ (z : Line). Says d z adds.0) parts.1 adds.1,
      subst (λ (z : Line). IsWritten d z adds.0) parts.1 adds.2,
    )
written_next (more_written {lines = ls} {d = d} x e h adds) before (a ∷ rest) line same =
    let end = last_of a rest in
    let all = same ∙ ap (λ zs. before ++ line ∷ zs) end.2 ∙ sym (append_assoc before (line ∷ end.0) (end.1 ∷ [])) in
    written_next h before end.0 line (end_parts ls (before ++ line ∷ end.0) x end.1 all).0
