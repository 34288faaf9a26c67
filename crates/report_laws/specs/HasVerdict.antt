-- That a text has a verdict.
use Rattle.std.specs.Prelude.{ℕ, List, ◌⊎◌}
use Rattle.report_lines.specs.declared.kinds.Kind.{Kind}
use Rattle.report_lines.specs.declared.kinds.RefusedKind.{RefusedKind}
use Rattle.report_lines.specs.Judged.{IsAccepted, IsFirstWrong}

-- the text is accepted as a report of some kind, or has a first wrong line
abbrev pub HasVerdict : List ℕ → Type 0
HasVerdict text = ((k : Kind) × IsAccepted text k) ⊎ ((line : ℕ) × (k : RefusedKind) × IsFirstWrong text line k)
