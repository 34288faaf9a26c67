-- Where a checker stands before the answer.
use Rattle.std.specs.Prelude.{◌≡◌, ◌≢◌, ◌≤◌, ℕ, Bool, true, ◌||◌, ◌⊎◌, List, [], Some, Result, Ok, Err, IsSome, codes}
use Rattle.std.specs.Str.{bytes_eq}
use Rattle.edge.specs.declared.refused.NoMemory.{NoMemory}
use Rattle.merge_model.specs.declared.operator.AggregatorName.{AggregatorName}
use Rattle.merge_model.specs.declared.operator.DistanceName.{DistanceName}
use Rattle.merge_model.specs.declared.problem.Problem.{Problem}
use Rattle.problem_reading.specs.Drafts.{Draft}
use Rattle.problem_reading.specs.Spelling.{Declares}
use Rattle.report_words.specs.Words.{words_of}
use Rattle.report_lines.specs.declared.kinds.Due.{Due}
use Rattle.report_lines.specs.declared.kinds.Due.TheVariants as due
use Rattle.report_lines.specs.Items.{Item, item_words}
use Rattle.report_lines.specs.Places.{Position, start, first_word, conflict_limit, IsDue, IsAnswerLine}
use Rattle.report_text.specs.declared.front.Front.{Front}
use Rattle.report_text.specs.declared.front.FrontDue.{FrontDue}
use Rattle.report_text.specs.declared.front.FrontDue.TheVariants as front

abbrev pub due_of : FrontDue → Due
due_of front.Head = due.Head
due_of front.Distance = due.Distance
due_of front.Aggregator = due.Aggregator
due_of front.Conflicts = due.Conflicts
due_of front.Atoms = due.Atoms
due_of front.Constraint = due.Constraint
due_of front.FirstAgent = due.FirstAgent
due_of front.Agents = due.Agents
due_of front.Asks = due.Asks

-- the line is no line of the answer, by its first word
abbrev pub takes : FrontDue → List ℕ → Bool
takes front.Agents line = bytes_eq (first_word line) (codes "agent") || bytes_eq (first_word line) (codes "ask")
takes front.Asks line = bytes_eq (first_word line) (codes "ask")
takes _ line = true

-- the first line of the answer may be next
abbrev pub IsAnswerDue : FrontDue → Type 0
IsAnswerDue front.Agents = Unit {0}
IsAnswerDue front.Asks = Unit {0}
IsAnswerDue _ = ⊥

-- what is due after a line of the problem
abbrev pub Precedes : FrontDue → FrontDue → Type 0
Precedes front.Atoms next = next ≡ front.Constraint
Precedes front.Constraint next = next ≡ front.FirstAgent
Precedes front.FirstAgent next = next ≡ front.Agents
Precedes front.Agents next = (next ≡ front.Agents) ⊎ (next ≡ front.Asks)
Precedes front.Asks next = next ≡ front.Asks
Precedes _ next = ⊥

-- the first word of a line of the problem after which this is due
abbrev pub word_before : FrontDue → List ℕ
word_before front.Constraint = codes "atoms"
word_before front.FirstAgent = codes "constraint"
word_before front.Agents = codes "agent"
word_before front.Asks = codes "ask"
word_before _ = []

abbrev pub HasConflicts : ℕ → Type 0
HasConflicts conflicts = (1 ≤ conflicts) × (conflicts ≤ conflict_limit)

-- all that stands before an answer has come
pub record IsWhole (conflicts : ℕ) (draft : Draft) : Type 0 where
  pub number : HasConflicts conflicts
  pub atom : draft.atoms ≢ []
  pub constraint : IsSome draft.constraint
  pub agent : draft.agents ≢ []

-- what has come before this is due
abbrev pub HasCome : FrontDue → ℕ → Draft → Type 0
HasCome front.Atoms conflicts draft = HasConflicts conflicts
HasCome front.Constraint conflicts draft = HasConflicts conflicts × (draft.atoms ≢ [])
HasCome front.FirstAgent conflicts draft = HasConflicts conflicts × (draft.atoms ≢ []) × IsSome draft.constraint
HasCome front.Agents conflicts draft = IsWhole conflicts draft
HasCome front.Asks conflicts draft = IsWhole conflicts draft
HasCome _ conflicts draft = Unit {0}

-- the start with what the front knows, and this draft
abbrev pub position_of : Front → Draft → Position
position_of f draft = record start { due = due_of f.due; distance = f.distance; aggregator = f.aggregator; conflicts = f.conflicts; draft = draft }

-- the front stands here: its lines declare the draft
pub record StandsAtFront (f : Front) (p : Position) : Type 0 where
  pub place : p ≡ position_of f p.draft
  pub declared : Declares f.lines p.draft
  pub come : HasCome f.due f.conflicts p.draft

-- of the lines that are due only those of an answer have the words of this one
pub record LeavesAnswers (p : Position) (line : List ℕ) : Type 0 where
  pub due : (x : Item) → IsAnswerLine p x → IsDue p x
  pub only : (x : Item) → IsDue p x → words_of line ≡ item_words x → IsAnswerLine p x

abbrev pub draft_in : Problem → Draft
draft_in problem = record { atoms = problem.atoms; constraint = Some problem.constraint; agents = problem.agents; asks = problem.asks }

-- the lines so far stated these names, this number and this problem
pub record States (p : Position) (distance : DistanceName) (aggregator : AggregatorName) (conflicts : ℕ) (problem : Problem) : Type 0 where
  pub number : HasConflicts conflicts
  pub draft : p.draft ≡ draft_in problem
  pub due : (p.due ≡ due.Agents) ⊎ (p.due ≡ due.Asks)
  pub place : p ≡ record start { due = p.due; distance = distance; aggregator = aggregator; conflicts = conflicts; draft = p.draft }

abbrev pub IsFinished : Position → Result (DistanceName × AggregatorName × ℕ × Problem) NoMemory → Type 0
IsFinished p (Ok x) = States p x.0 x.1 x.2 x.3
IsFinished p (Err _) = ⊥
