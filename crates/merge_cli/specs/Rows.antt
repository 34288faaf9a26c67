-- Rows that commands share: the answers to what was read, from the answers to a whole text; and the answers
-- to a problem text, from the answers to a problem. `answers` relates what was read to a status and a text.
use Rattle.std.specs.Prelude.{◌≡◌, ℕ, List, length, Option}
use Rattle.std.specs.Io.KnownBytes.{IsAtEnd}
use Rattle.edge.specs.Streams.{Exceeds}
use Rattle.merge_model.specs.declared.problem.Problem.{Problem}
use Rattle.problem_reading.specs.declared.stop.TextFault.{TextFault}
use Rattle.problem_reading.specs.Spelling.{Spelled, FirstFault}
use Rattle.merge_cli.specs.Refusals.{refusal_text, too_long_text}

-- more bytes came than the command takes, or the text was read to its end
pub data ReadAnswers (limit : Option ℕ) (answers : List ℕ → ℕ → List ℕ → Type 0) (now : Option (List ℕ)) (read : List ℕ) (status : ℕ) (text : List ℕ) : Type 0 where
  too_long : Exceeds limit (length read)
      → status ≡ 1 → text ≡ too_long_text
      → ReadAnswers limit answers now read status text
  of_text : IsAtEnd now → ¬ (Exceeds limit (length read))
      → answers read status text
      → ReadAnswers limit answers now read status text

-- the text has a first fault, or it spells a problem
pub data ProblemTextAnswers (answers : Problem → ℕ → List ℕ → Type 0) (read : List ℕ) (status : ℕ) (text : List ℕ) : Type 0 where
  refused : (fault : TextFault) → FirstFault read fault
      → status ≡ 1 → text ≡ refusal_text fault
      → ProblemTextAnswers answers read status text
  of_problem : (problem : Problem) → Spelled read problem
      → answers problem status text
      → ProblemTextAnswers answers read status text
