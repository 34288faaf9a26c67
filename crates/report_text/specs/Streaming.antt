-- What the judgement of a source says.
use Rattle.std.specs.Prelude.{◌≡◌, ℕ, ◌≤◌, ◌⊎◌, List, [], ◌++◌, length, Option, Result, Ok, Err}
use Rattle.std.specs.Io.KnownBytes.{IsAtEnd}
use Rattle.edge.specs.Streams.{Gave, piece_limit}
use Rattle.report_lines.specs.Places.{Position}
use Rattle.report_lines.specs.Judged.{IsFirstWrong, IsAccepted}
use Rattle.report_lines.specs.declared.kinds.Due.TheVariants as due
use Rattle.report_lines.specs.declared.kinds.Kind.{Kind}
use Rattle.report_text.specs.Accepting.{HasNoFeed, IsBorneOutText}
use Rattle.report_text.specs.Open.{Open}
use Rattle.report_text.specs.declared.accepting.AcceptStop.{AcceptStop}
use Rattle.report_text.specs.declared.accepting.AcceptStop.TheVariants as texts
use Rattle.report_text.specs.declared.accepting.Refused.{Refused}
use Rattle.report_text.specs.declared.streaming.AcceptFromStop.{AcceptFromStop}
use Rattle.report_text.specs.declared.streaming.AcceptFromStop.TheVariants as stops

-- no answer is due yet: the text is right lines and the beginning of one more, with nothing after an end
pub record IsUndecided (text : List ℕ) : Type 0 where
  pub rest : List ℕ
  pub place : Position
  pub number : ℕ
  pub reads : Open text rest place number
  pub unended : HasNoFeed rest
  pub nothing_late : place.due ≡ due.Over → rest ≡ []

-- no answer was due before the last read, which gave a piece at most
pub record IsReadNoFurther (text : List ℕ) : Type 0 where
  pub before : List ℕ
  pub last : List ℕ
  pub whole : text ≡ before ++ last
  pub few : length last ≤ piece_limit
  pub undecided : IsUndecided before

-- the text is accepted, and the source, which has this left, is at its end
pub record IsAcceptedFrom (text : List ℕ) (left : Option (List ℕ)) (kind : Kind) : Type 0 where
  pub accepted : IsAccepted text kind
  pub borne_out : IsBorneOutText text kind
  pub at_end : IsAtEnd left

-- the first wrong line of the text, and of each that begins so, unless the source is at its end
pub record IsRefusedFrom (text : List ℕ) (left : Option (List ℕ)) (refusal : Refused) : Type 0 where
  pub first : IsFirstWrong text refusal.line refusal.kind
  pub lasting : ((more : List ℕ) → IsFirstWrong (text ++ more) refusal.line refusal.kind) ⊎ IsAtEnd left

-- what is answered to the text that a source gave; a read fails only while no answer is due
abbrev pub IsAnswerFrom : List ℕ → Option (List ℕ) → Result Kind AcceptFromStop → Type 0
IsAnswerFrom text left (Ok kind) = IsAcceptedFrom text left kind
IsAnswerFrom text left (Err (stops.Refused refusal)) = IsRefusedFrom text left refusal
IsAnswerFrom text left (Err stops.Failed) = IsUndecided text
IsAnswerFrom text left (Err stops.NoMemory) = Unit {0}

-- the source gave a text, no more of it than was needed, and this is the answer to it
pub record IsJudgedFrom (before now : Option (List ℕ)) (room_before room_now : ℕ) (result : Result Kind AcceptFromStop) : Type 0 where
  pub text : List ℕ
  pub gave : Gave before now room_before room_now text
  pub needed : IsReadNoFurther text
  pub answer : IsAnswerFrom text now result

-- the first wrong line of all bytes, unless a read failed or memory was refused
abbrev pub IsStopFrom : List ℕ → AcceptFromStop → Type 0
IsStopFrom all (stops.Refused refusal) = IsFirstWrong all refusal.line refusal.kind
IsStopFrom all stops.Failed = Unit {0}
IsStopFrom all stops.NoMemory = Unit {0}

-- a stop of a text as one of a source
abbrev pub stop_from : AcceptStop → AcceptFromStop
stop_from (texts.Refused refusal) = stops.Refused refusal
stop_from texts.NoMemory = stops.NoMemory
