-- Positions in the report of some parts.
use Rattle.std.proofs.Common.{ℕ, Bool, List, [], Some}
use Rattle.merge_model.specs.declared.problem.Problem.{Problem}
use Rattle.problem_reading.specs.Drafts.{Draft}
use Rattle.log_lines.specs.Spending.{Noted}
use Rattle.report_lines.specs.declared.kinds.Due.{Due}
use Rattle.report_lines.specs.declared.kinds.Kind.{Kind}
use Rattle.report_lines.specs.declared.kinds.Kind.TheVariants as kind
use Rattle.report_lines.specs.ClaimsDue.{DueClaim}
use Rattle.report_lines.specs.Places.{Position}
use Rattle.report_lines.specs.Parts.{Asked}

-- what a position keeps of the answer, its claims apart
pub record Seen : Type 0 where
  pub model : List Bool
  pub vector : List ℕ
  pub best : List ℕ
  pub verdicts : ℕ
  pub named : ℕ

abbrev pub unseen : Seen
unseen = record { model = []; vector = []; best = []; verdicts = 0; named = 0 }

abbrev pub place : Asked → Draft → Due → Kind → Seen → List DueClaim → List Noted → Position
place asked draft due answer seen claims steps = record {
  due = due;
  distance = asked.distance;
  aggregator = asked.aggregator;
  conflicts = asked.conflicts;
  draft = draft;
  kind = answer;
  model = seen.model;
  vector = seen.vector;
  best = seen.best;
  verdicts = seen.verdicts;
  named = seen.named;
  claims = claims;
  steps = steps;
}

-- before the answer
abbrev pub begun : Asked → Draft → Due → Position
begun asked draft due = place asked draft due kind.Merged unseen [] []

-- what the lines of a problem declare
abbrev pub draft_of : Problem → Draft
draft_of problem = record { atoms = problem.atoms; constraint = Some problem.constraint; agents = problem.agents; asks = problem.asks }
