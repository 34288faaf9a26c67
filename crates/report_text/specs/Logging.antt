-- The state of a checker from the main line on: over the log, the proofs and the end.
use Rattle.std.specs.Prelude.{◌≡◌, ℕ, ◌+◌, nat_le, nat_lt, ◌&&◌, Bool, List, length, map, take, drop}
use Rattle.std.specs.List.{AllByRecursion}
use Rattle.clause_store.specs.declared.lit.Lit.{Lit}
use Rattle.clause_store.specs.Clauses.{clause_at}
use Rattle.log_lines.specs.Spending.{Noted, noted_of}
use Rattle.merge_encoding.specs.Assumptions.{IsProperIn}
use Rattle.merge_encoding.specs.Frames.{frame_of}
use Rattle.report_lines.specs.declared.kinds.Due.{Due}
use Rattle.report_lines.specs.declared.kinds.Due.TheVariants as due
use Rattle.report_lines.specs.ClaimsDue.{DueClaim}
use Rattle.report_lines.specs.Holding.{stored_main, refutes}
use Rattle.report_lines.specs.Places.{Position, main_at}
use Rattle.report_text.specs.Answering.{due_claim}
use Rattle.report_text.specs.declared.logging.LogDue.{LogDue}
use Rattle.report_text.specs.declared.logging.LogDue.TheVariants as log
use Rattle.report_text.specs.declared.logging.Logging.{Logging}

abbrev pub due_at : LogDue → Due
due_at log.Main = due.Main
due_at log.Log = due.Log
due_at log.Proofs = due.Proofs
due_at log.Over = due.Over

-- the main clauses, and the steps so far
abbrev pub main_in : Logging → List (List Lit)
main_in s = take s.main s.known.list

abbrev pub steps_in : Logging → List Noted
steps_in s = noted_of s.kinds.items (drop s.main s.known.list)

-- the claims that are still due
abbrev pub claims_in : Logging → List DueClaim
claims_in s = map due_claim (drop s.next s.claims.items)

-- a clause is known for each main clause and each step, and what the claims assume is in the frame
pub record IsFitLog (s : Logging) : Type 0 where
  pub counted : s.main + length s.kinds.items ≡ length s.known.list
  pub proper : AllByRecursion (λ (c : DueClaim). IsProperIn s.frame c.says) (claims_in s)

-- where the state stands
pub record StandsAtLog (s : Logging) (p : Position) : Type 0 where
  pub fit : IsFitLog s
  pub due : p.due ≡ due_at s.due
  pub conflicts : p.conflicts ≡ s.conflicts
  pub kind : p.kind ≡ s.kind
  pub main : stored_main p ≡ main_in s
  pub vars : (main_at p).vars ≡ s.known.vars
  pub steps : p.steps ≡ steps_in s
  pub frame : frame_of (main_at p) ≡ s.frame
  pub claims : p.claims ≡ claims_in s

-- the number is that of a step whose clause refutes the assumptions
abbrev pub refutes_from : ℕ → List (List Lit) → ℕ → List Lit → Bool
refutes_from main known n assumptions = (nat_le main n && nat_lt n (length known)) && refutes (clause_at known n) assumptions
