-- The state of a checker while it reads an answer, and what it hands on to the log.
use Rattle.std.specs.Prelude.{◌≡◌, ℕ, ◌<◌, ◌≤◌, ◌⊎◌, List, [], length, map, All, Some, slice_index}
use Rattle.merge_model.specs.declared.problem.Problem.{Problem}
use Rattle.merge_encoding.specs.Assumptions.{IsProper}
use Rattle.merge_encoding.specs.Claims.{Assertion, NoModelOfConstraint, NoModelOfBase, NoNearer, NoBetter, NoBreaker, NoModelWith, said}
use Rattle.merge_encoding.specs.Frames.{frame_of, IsFrameOver}
use Rattle.problem_reading.specs.Drafts.{Draft}
use Rattle.report_lines.specs.declared.kinds.Due.{Due}
use Rattle.report_lines.specs.declared.kinds.Due.TheVariants as due
use Rattle.report_lines.specs.declared.kinds.Subject.{Subject}
use Rattle.report_lines.specs.declared.kinds.Subject.TheVariants.{TheConstraint, BaseOf}
use Rattle.report_lines.specs.Items.{Item}
use Rattle.report_lines.specs.ClaimsDue.{DueClaim}
use Rattle.report_lines.specs.Holding.{stored_main}
use Rattle.report_lines.specs.Places.{Position, IsAnswerLine, DueAt, atoms_at, agents_at, asks_at, top_at, measure_at, values_at, main_at}
use Rattle.report_text.specs.declared.answering.Answering.{Answering}
use Rattle.report_text.specs.declared.answering.Logged.{Logged}
use Rattle.report_text.specs.declared.answering.claims.Claimed.{Claimed}

-- what the lines of the problem declare
abbrev pub draft_of : Problem → Draft
draft_of problem = record { atoms = problem.atoms; constraint = Some problem.constraint; agents = problem.agents; asks = problem.asks }

-- a claim as the definitions see it
abbrev pub due_claim : Claimed → DueClaim
due_claim c = record { model = c.model; says = said c.says }

-- where the state stands
abbrev pub position_of : Answering → Position
position_of a = record {
  due = a.due;
  distance = a.distance;
  aggregator = a.aggregator;
  conflicts = a.conflicts;
  draft = draft_of a.problem;
  kind = a.kind;
  model = a.model;
  vector = a.vector.items;
  best = a.best.items;
  verdicts = a.verdicts;
  named = a.named;
  claims = map due_claim a.claims.items;
  steps = [];
}

abbrev pub StandsAtAnswer : Answering → Position → Type 0
StandsAtAnswer a p = p ≡ position_of a

-- the lines that the state judges: of the answer alone
abbrev pub AnswerAt : Due → Position → Item → Type 0
AnswerAt due.Agents p x = IsAnswerLine p x
AnswerAt due.Asks p x = IsAnswerLine p x
AnswerAt d p x = DueAt d p x

-- an entry for each agent, none above the greatest distance
abbrev pub IsVectorAt : Position → List ℕ → Type 0
IsVectorAt p ds = (length ds ≡ agents_at p) × All (λ d. d ≤ top_at p) ds

-- the constraint, or an agent that is there
abbrev pub IsSubjectAt : Position → Subject → Type 0
IsSubjectAt p TheConstraint = Unit {0}
IsSubjectAt p (BaseOf i) = i < agents_at p

-- agents and queries are there; a valuation is over the atoms; a distance is from 1 to the greatest one; level values are
-- those of the first vector, and at least 1 where a lower one is looked for
abbrev pub IsProperAt : Position → Assertion → Type 0
IsProperAt p NoModelOfConstraint = Unit {0}
IsProperAt p (NoModelOfBase i) = i < agents_at p
IsProperAt p (NoNearer i v k) = (i < agents_at p) × (length v ≡ atoms_at p) × (1 ≤ k) × (k ≤ top_at p)
IsProperAt p (NoBetter j values) = IsVectorAt p p.best × (values ≡ values_at p) × (1 ≤ slice_index values j)
IsProperAt p (NoBreaker q values) = IsVectorAt p p.best × (values ≡ values_at p) × (q < asks_at p)
IsProperAt p (NoModelWith values prefix) = ⊥

abbrev pub AreProperAt : Position → Type 0
AreProperAt p = All (λ (c : DueClaim). IsProperAt p c.says) p.claims

-- no verdict and no claim yet
abbrev pub IsFirst : Answering → Type 0
IsFirst a = (a.verdicts ≡ 0) × (a.claims.items ≡ [])

-- the first vector is known, and with it its measure and its level values
abbrev pub IsMeasured : Answering → Type 0
IsMeasured a = IsVectorAt (position_of a) a.best.items × (a.measure.items ≡ measure_at (position_of a)) × (a.values.items ≡ values_at (position_of a))

-- so after a verdict
abbrev pub IsAfterNo : Answering → Type 0
IsAfterNo a = IsMeasured a × (1 ≤ a.verdicts) × (a.verdicts ≤ length a.problem.asks)

-- what is known at each place of an answer
abbrev pub FitsAt : Due → Answering → Type 0
FitsAt due.Agents a = IsFirst a
FitsAt due.Asks a = IsFirst a
FitsAt due.Model a = IsAfterNo a
FitsAt due.Vector a = (length a.model ≡ length a.problem.atoms) × (IsFirst a ⊎ IsAfterNo a)
FitsAt due.Nearest a = IsMeasured a × (length a.model ≡ length a.problem.atoms) × (length a.vector.items ≡ length a.problem.agents)
FitsAt due.Measure a = IsMeasured a × (a.verdicts ≡ 0)
FitsAt due.Verdict a = IsMeasured a × (a.verdicts < length a.problem.asks)
FitsAt due.Named a = a.named < length a.problem.agents
FitsAt due.Main a = Unit {0}
FitsAt d a = ⊥

-- the state is one that lines that were right lead to
pub record IsFit (a : Answering) : Type 0 where
  pub place : FitsAt a.due a
  pub claims : AreProperAt (position_of a)

-- the main clauses that are due at a position where the answer is over, their frame, and the claims, each proper for them
pub record IsLoggedAt (p : Position) (logged : Logged) : Type 0 where
  pub due : p.due ≡ due.Main
  pub conflicts : p.conflicts ≡ logged.conflicts
  pub kind : p.kind ≡ logged.kind
  pub claims : p.claims ≡ map due_claim logged.claims.items
  pub steps : p.steps ≡ []
  pub list : logged.clauses.list ≡ stored_main p
  pub vars : logged.clauses.vars ≡ (main_at p).vars
  pub frame : logged.frame ≡ frame_of (main_at p)
  pub over : IsFrameOver logged.clauses.vars logged.frame
  pub proper : All (λ (c : DueClaim). IsProper (main_at p) c.says) p.claims
