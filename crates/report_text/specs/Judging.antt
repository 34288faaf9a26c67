-- What a state of the checker says of the next line.
use Rattle.std.specs.Prelude.{List, ℕ, Result, Ok, Err}
use Rattle.report_lines.specs.Items.{Item}
use Rattle.report_lines.specs.Judged.{IsRightAs, IsWrongAs}
use Rattle.report_lines.specs.Places.{Position, IsDue}
use Rattle.report_text.specs.declared.stop.LineStop.{LineStop}
use Rattle.report_text.specs.declared.stop.LineStop.TheVariants as stops

-- The line is right at p as an item of D, and the new state stands where it leads; or it is wrong at p in this way; or
-- there was no memory. `stands` says where the new state stands.
abbrev pub JudgedAs : {X : Type 0} → (Item → Type 0) → Position → List ℕ → (Position → Type 0) → Result X LineStop → Type 0
JudgedAs D p line stands (Ok _) = (q : Position) × IsRightAs D p line q × stands q
JudgedAs D p line stands (Err (stops.Wrong k)) = IsWrongAs D p line k
JudgedAs D p line stands (Err stops.NoMemory) = Unit {0}

-- so of every line that is due
abbrev pub IsJudged : {X : Type 0} → Position → List ℕ → (Position → Type 0) → Result X LineStop → Type 0
IsJudged p line stands result = JudgedAs (IsDue p) p line stands result
