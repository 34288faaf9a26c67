-- What is known of a text that comes in pieces.
use Rattle.std.specs.Prelude.{◌≡◌, ℕ, List, [], ◌++◌, Result, Ok, Err}
use Rattle.report_lines.specs.Places.{Position}
use Rattle.report_lines.specs.declared.kinds.Due.TheVariants as due
use Rattle.report_text.specs.declared.accepting.AcceptStop.{AcceptStop}
use Rattle.report_text.specs.declared.progress.Progress.{Progress}
use Rattle.report_text.specs.Accepting.{IsStop, HasNoFeed}
use Rattle.report_text.specs.Checker.{Stands}
use Rattle.report_text.specs.Open.{Open}

-- the checker stands where right lines of the text lead; then come the bytes that are held, and these
pub record StandsBefore (text next : List ℕ) (progress : Progress) : Type 0 where
  pub place : Position
  pub stands : Stands progress.checker place
  pub reads : Open text (progress.held.items ++ next) place progress.number
  pub unended : HasNoFeed progress.held.items

-- the text has come, and no answer is due yet: no line feed is held, and nothing after an end
pub record IsAt (text : List ℕ) (progress : Progress) : Type 0 where
  pub place : Position
  pub stands : Stands progress.checker place
  pub reads : Open text progress.held.items place progress.number
  pub unended : HasNoFeed progress.held.items
  pub nothing_late : place.due ≡ due.Over → progress.held.items ≡ []

-- a line was right, and these bytes are next; or the text is refused, whatever follows
abbrev pub IsTaken : List ℕ → List ℕ → Progress → Result (Unit {0}) AcceptStop → Type 0
IsTaken text next progress (Ok _) = StandsBefore text next progress
IsTaken text next progress (Err stop) = (more : List ℕ) → IsStop (text ++ more) stop

-- the text has come and no answer is due yet; or it is refused, whatever follows
abbrev pub IsFed : List ℕ → Progress → Result (Unit {0}) AcceptStop → Type 0
IsFed text progress (Ok _) = IsAt text progress
IsFed text progress (Err stop) = (more : List ℕ) → IsStop (text ++ more) stop
