-- What `check` answers to a text.
use Rattle.std.specs.Prelude.{◌≡◌, ℕ, List, ◌++◌, codes, Option}
use Rattle.std.specs.Io.KnownBytes.{IsAtEnd}
use Rattle.report_lines.specs.declared.kinds.Kind.{Kind}
use Rattle.report_lines.specs.declared.kinds.Kind.TheVariants as kind
use Rattle.report_lines.specs.declared.kinds.RefusedKind.{RefusedKind}
use Rattle.report_lines.specs.declared.kinds.RefusedKind.TheVariants as refused
use Rattle.report_lines.specs.Judged.{IsAccepted, IsFirstWrong}
use Rattle.edge.specs.Streams.{Gave}
use Rattle.report_text.specs.Accepting.{IsBorneOutText}
use Rattle.report_text.specs.Streaming.{IsUndecided}
use Rattle.report_text.specs.declared.accepting.Refused.{Refused}
use Rattle.merge_cli.specs.Refusals.{line_refusal_text}

abbrev pub accepted_text : Kind → List ℕ
accepted_text kind.Merged = codes "accepted merged\n"
accepted_text kind.Inconsistent = codes "accepted inconsistent\n"
accepted_text kind.Spent = codes "accepted spent\n"

abbrev pub wrong_word : RefusedKind → List ℕ
wrong_word refused.Form = codes "form"
wrong_word refused.Problem = codes "problem"
wrong_word refused.Step = codes "step"
wrong_word refused.Witness = codes "witness"
wrong_word refused.Claim = codes "claim"
wrong_word refused.Ended = codes "ended"

-- the first wrong line of a report, and what is wrong with it
abbrev pub wrong_line_text : ℕ → RefusedKind → List ℕ
wrong_line_text line k = line_refusal_text line (wrong_word k)

-- the answer names this line
abbrev pub SaysWrong : Refused → ℕ → List ℕ → Type 0
SaysWrong refused status text = (status ≡ 7) × (text ≡ wrong_line_text refused.line refused.kind)

-- the answers to a text
pub data CheckAnswers (read : List ℕ) (status : ℕ) (text : List ℕ) : Type 0 where
  accepted : (k : Kind) → IsAccepted read k → IsBorneOutText read k → status ≡ 0 → text ≡ accepted_text k → CheckAnswers read status text
  wrong : (line : ℕ) (k : RefusedKind) → IsFirstWrong read line k → status ≡ 7 → text ≡ wrong_line_text line k → CheckAnswers read status text

-- the answers to what a check read, where this is left: it read to the end, or a line is the first wrong one whatever follows
pub data StreamAnswers (now : Option (List ℕ)) (read : List ℕ) (status : ℕ) (text : List ℕ) : Type 0 where
  at_end : IsAtEnd now → CheckAnswers read status text → StreamAnswers now read status text
  early : (line : ℕ) (k : RefusedKind) → ((more : List ℕ) → IsFirstWrong (read ++ more) line k) → status ≡ 7 → text ≡ wrong_line_text line k → StreamAnswers now read status text

-- a source gave bytes on which no answer is due yet
abbrev pub GaveUndecided : Option (List ℕ) → Option (List ℕ) → ℕ → ℕ → Type 0
GaveUndecided before now room_before room_now = (bytes : List ℕ) × Gave before now room_before room_now bytes × IsUndecided bytes
