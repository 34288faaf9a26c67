-- What is written of accepted parts.
use Rattle.std.specs.Prelude.{ℕ, List}
use Rattle.report_lines.specs.declared.kinds.Kind.TheVariants as kind
use Rattle.report_lines.specs.Accepted.{Parts, AreAccepted}
use Rattle.report_lines.specs.Judged.{IsAccepted}
use Rattle.report_lines.specs.Parts.{Asked, HasParts, AreSpent, operator_of, kind_of_answer}

-- the report of accepted parts is accepted
abbrev pub WrittenLaw : Type 0
WrittenLaw = (text : List ℕ) (asked : Asked) (r : Parts) → HasParts text asked r → AreAccepted (operator_of asked r) r → IsAccepted text (kind_of_answer r.answer)

-- and that of a log that is spent is accepted as spent
abbrev pub WrittenSpentLaw : Type 0
WrittenSpentLaw = (text : List ℕ) (asked : Asked) (r : Parts) → HasParts text asked r → AreSpent asked r → IsAccepted text kind.Spent
