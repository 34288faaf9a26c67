-- Where a checker stands.
use Rattle.std.specs.Prelude.{◌≡◌, ◌≢◌, ℕ, List, Option, None, Some, Result, Ok, Err}
use Rattle.report_lines.specs.declared.kinds.Kind.{Kind}
use Rattle.report_lines.specs.declared.kinds.Due.{Due}
use Rattle.report_lines.specs.declared.kinds.Due.TheVariants as due
use Rattle.report_lines.specs.Judged.{IsRight, IsWrong}
use Rattle.report_lines.specs.Places.{Position}
use Rattle.report_text.specs.declared.answering.Answering.{Answering}
use Rattle.report_text.specs.declared.checker.Checker.{Checker}
use Rattle.report_text.specs.declared.checker.Checker.TheVariants as checkers
use Rattle.report_text.specs.declared.logging.LogDue.TheVariants as log
use Rattle.report_text.specs.declared.stop.LineStop.{LineStop}
use Rattle.report_text.specs.declared.stop.LineStop.TheVariants as stops
use Rattle.report_text.specs.Answering as answering
use Rattle.report_text.specs.Front.{StandsAtFront}
use Rattle.report_text.specs.Logging.{IsFitLog, StandsAtLog}

-- the first line of an answer was read
abbrev pub IsBegun : Due → Type 0
IsBegun due.Agents = ⊥
IsBegun due.Asks = ⊥
IsBegun _ = Unit {0}

pub record StandsInAnswer (a : Answering) (p : Position) : Type 0 where
  pub place : answering.StandsAtAnswer a p
  pub fit : answering.IsFit a
  pub begun : IsBegun a.due

-- where the checker stands
abbrev pub Stands : Checker → Position → Type 0
Stands (checkers.Front front) p = StandsAtFront front p
Stands (checkers.Answer answer) p = StandsInAnswer answer p
Stands (checkers.Log log) p = StandsAtLog log p

-- the checker is one that right lines lead to
abbrev pub IsFit : Checker → Type 0
IsFit (checkers.Front front) = Unit {0}
IsFit (checkers.Answer answer) = answering.IsFit answer
IsFit (checkers.Log log) = IsFitLog log

-- no line may follow
abbrev pub IsOver : Checker → Type 0
IsOver (checkers.Log state) = state.due ≡ log.Over
IsOver _ = ⊥

-- the line is right at p, and the next checker stands where it leads; or it is wrong at p in this way; or there was no
-- memory
abbrev pub IsNext : Position → List ℕ → Result Checker LineStop → Type 0
IsNext p line (Ok next) = (q : Position) × IsRight p line q × Stands next q
IsNext p line (Err (stops.Wrong k)) = IsWrong p line k
IsNext p line (Err stops.NoMemory) = Unit {0}

-- the same of a checker that goes on in place
abbrev pub IsAfter : Position → List ℕ → Checker → Result (Unit {0}) LineStop → Type 0
IsAfter p line next (Ok _) = IsNext p line (Ok next)
IsAfter p line next (Err stop) = IsNext p line (Err stop)

-- what is accepted where the report is over
abbrev pub IsOutcome : Position → Option Kind → Type 0
IsOutcome p None = p.due ≢ due.Over
IsOutcome p (Some kind) = (p.due ≡ due.Over) × (kind ≡ p.kind)
