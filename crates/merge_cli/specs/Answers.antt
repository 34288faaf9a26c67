-- What a run answers to its words and to what it read, where nothing stops it.
use Rattle.std.specs.Prelude.{◌≡◌, ℕ, List, [], codes, Option, Some}
use Rattle.edge.specs.Streams.{Exceeds, Gave}
use Rattle.merge_model.specs.declared.problem.Problem.{Problem}
use Rattle.problem_reading.specs.Spelling.{Spelled}
use Rattle.report_text.specs.Streaming.{IsReadNoFurther}
use Rattle.merge_cli.specs.declared.commands.Command.{Command}
use Rattle.merge_cli.specs.declared.commands.Command.TheVariants as variants
use Rattle.merge_cli.specs.declared.commands.Command.TheVariants.{Merge, Check, Bench}
use Rattle.merge_cli.specs.Bench.{BenchAnswers}
use Rattle.merge_cli.specs.Commands.{IsCommand, IsNoCommand, limit_of, Reads, ReadsProblem}
use Rattle.merge_cli.specs.Check.{StreamAnswers}
use Rattle.merge_cli.specs.List.{ListAnswers}
use Rattle.merge_cli.specs.Merge.{MergeAnswers}
use Rattle.merge_cli.specs.Rows.{ReadAnswers, ProblemTextAnswers}

-- what a command answers to a problem; `check` and `bench` read none
abbrev pub ProblemAnswers : Command → Problem → ℕ → List ℕ → Type 0
ProblemAnswers (Merge distance aggregator conflicts) =
    MergeAnswers (record { distance = distance; aggregator = aggregator; conflicts = conflicts })
ProblemAnswers Check = λ problem status text. ⊥
ProblemAnswers (Bench number) = λ problem status text. ⊥
ProblemAnswers (variants.List distance aggregator count place) =
    ListAnswers (record { distance = distance; aggregator = aggregator; count = count; place = place })

-- what a command that reads a problem text answers to it
abbrev pub TextAnswers : Command → List ℕ → ℕ → List ℕ → Type 0
TextAnswers command = ProblemTextAnswers (ProblemAnswers command)

-- A table of answers: what the source tells after the run, what was read, the status and the text.
abbrev pub Table : Type 1
Table = Option (List ℕ) → List ℕ → ℕ → List ℕ → Type 0

-- what a command answers to what it read
abbrev pub CommandAnswers : Command → Table
CommandAnswers (Merge distance aggregator conflicts) =
    ReadAnswers (limit_of (Merge distance aggregator conflicts)) (TextAnswers (Merge distance aggregator conflicts))
CommandAnswers Check = λ now read status text. IsReadNoFurther read × StreamAnswers now read status text
CommandAnswers (Bench number) = λ now read status text. (read ≡ []) × BenchAnswers number status text
CommandAnswers (variants.List distance aggregator count place) =
    ReadAnswers (limit_of (variants.List distance aggregator count place)) (TextAnswers (variants.List distance aggregator count place))

-- the answers to any words
pub data Answers (words : List (List ℕ)) (now : Option (List ℕ)) (read : List ℕ) (status : ℕ) (text : List ℕ) : Type 0 where
  refused_words : IsNoCommand words → read ≡ [] → status ≡ 2 → text ≡ codes "refused words\n" → Answers words now read status text
  of_command : (command : Command) → IsCommand words command → CommandAnswers command now read status text → Answers words now read status text

-- the source gave some bytes, and the table has this status and this text for them
pub record Answered (table : Table) (before now : Option (List ℕ)) (room_before room_now : ℕ) (status : ℕ) (text : List ℕ) : Type 0 where
  pub read : List ℕ
  pub gave : Gave before now room_before room_now read
  pub answers : table now read status text

-- the words are those of a command that reads
abbrev pub IsReading : List (List ℕ) → Type 0
IsReading words = (command : Command) × IsCommand words command × Reads command

-- the words are those of no command that reads
abbrev pub IsUnread : List (List ℕ) → Type 0
IsUnread words = (command : Command) → IsCommand words command → Reads command → ⊥

-- the words are those of a command that takes fewer bytes
abbrev pub IsTooMuch : List (List ℕ) → ℕ → Type 0
IsTooMuch words count = (command : Command) × IsCommand words command × Exceeds (limit_of command) count

-- the source tells these bytes, and the words are those of a command that reads them as a problem text
abbrev pub AsksText : Option (List ℕ) → List (List ℕ) → Command → List ℕ → Type 0
AsksText left words command bytes = (left ≡ Some bytes) × IsCommand words command × ReadsProblem command

-- so, and the bytes spell this problem
abbrev pub AsksProblem : Option (List ℕ) → List (List ℕ) → Command → Problem → Type 0
AsksProblem left words command problem = (bytes : List ℕ) × AsksText left words command bytes × Spelled bytes problem

-- the source tells these bytes, and the words are those of a check
abbrev pub AsksCheck : Option (List ℕ) → List (List ℕ) → List ℕ → Type 0
AsksCheck left words bytes = (left ≡ Some bytes) × IsCommand words Check
