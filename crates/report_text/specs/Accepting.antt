-- What the judgement of a whole report says.
use Rattle.std.specs.Prelude.{◌≡◌, ℕ, false, List, All, eqb, Result, Ok, Err}
use Rattle.report_lines.specs.Accepted.{Parts}
use Rattle.report_lines.specs.Parts.{Asked, HasParts, kind_of_answer}
use Rattle.report_text.specs.PartsLaws.{IsBorneOut}
use Rattle.report_lines.specs.Judged.{IsFirstWrong, IsAccepted}
use Rattle.report_lines.specs.declared.kinds.Kind.{Kind}
use Rattle.report_text.specs.declared.accepting.AcceptStop.{AcceptStop}
use Rattle.report_text.specs.declared.accepting.AcceptStop.TheVariants as stops
use Rattle.report_text.specs.declared.stop.LineStop.{LineStop}
use Rattle.report_text.specs.declared.stop.LineStop.TheVariants as lines

-- the first wrong line of the text, unless memory was refused
abbrev pub IsStop : List ℕ → AcceptStop → Type 0
IsStop text (stops.Refused refusal) = IsFirstWrong text refusal.line refusal.kind
IsStop text stops.NoMemory = Unit {0}

-- no line feed
abbrev pub HasNoFeed : List ℕ → Type 0
HasNoFeed bytes = All (λ b. eqb b 10 ≡ false) bytes

-- why a line does not lead on, with its number
abbrev pub stop_at : ℕ → LineStop → AcceptStop
stop_at line (lines.Wrong k) = stops.Refused (record { line = line; kind = k })
stop_at line lines.NoMemory = stops.NoMemory

-- the text has the parts of a report, which bear its answer out
abbrev pub IsBorneOutText : List ℕ → Kind → Type 0
IsBorneOutText text k = (asked : Asked) × (r : Parts) × HasParts text asked r × (kind_of_answer r.answer ≡ k) × IsBorneOut asked r

-- what a whole text comes to
abbrev pub IsEnd : List ℕ → Result Kind AcceptStop → Type 0
IsEnd text (Ok kind) = IsAccepted text kind
IsEnd text (Err stop) = IsStop text stop
