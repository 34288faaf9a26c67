-- What an accepted text says, by its parts.
use Rattle.std.specs.Prelude.{◌≡◌, ℕ, List, ◌⊎◌}
use Rattle.merge_model.specs.declared.answer.Answer.{Answer}
use Rattle.merge_model.specs.declared.answer.Answer.TheVariants.{Merged, Inconsistent, GaveUp}
use Rattle.merge_model.specs.Answers.{dist_named, rank_named, IsRight, IsNamed}
use Rattle.problem_laws.specs.Sameness.{SameProblem}
use Rattle.report_lines.specs.declared.kinds.Kind.{Kind}
use Rattle.report_lines.specs.Accepted.{Parts, AreAccepted}
use Rattle.report_lines.specs.Judged.{IsAccepted}
use Rattle.report_lines.specs.Parts.{Asked, operator_of, kind_of_answer, HasParts, AreSpent}

-- the parts are accepted, and so the answer merges the problem rightly or names its formulas
pub record IsRightByParts (asked : Asked) (r : Parts) : Type 0 where
  pub accepted : AreAccepted (operator_of asked r) r
  pub right : IsRight (dist_named asked.distance r.problem.atoms) (rank_named asked.aggregator) r.problem r.answer ⊎ IsNamed r.problem r.answer

-- what bears an answer out: parts that are accepted, or a log that is spent
abbrev pub BearsOut : Answer → Asked → Parts → Type 0
BearsOut (Merged best measure verdicts) asked r = IsRightByParts asked r
BearsOut (Inconsistent constraint agents) asked r = IsRightByParts asked r
BearsOut GaveUp asked r = AreSpent asked r

-- the parts bear their answer out
abbrev pub IsBorneOut : Asked → Parts → Type 0
IsBorneOut asked r = BearsOut r.answer asked r

-- an accepted text has the parts of a report, which bear its answer out
abbrev pub PartsLaw : Type 0
PartsLaw = (text : List ℕ) (k : Kind) → IsAccepted text k → (asked : Asked) × (r : Parts) × HasParts text asked r × (kind_of_answer r.answer ≡ k) × IsBorneOut asked r

-- the same is asked, of problems of the same parts, and the answers, the steps and the numbers of the proofs are the same
pub record AreSame (a b : Asked) (r s : Parts) : Type 0 where
  pub asked : a ≡ b
  pub problem : SameProblem r.problem s.problem
  pub answer : r.answer ≡ s.answer
  pub steps : r.steps ≡ s.steps
  pub shown : r.shown ≡ s.shown

-- a text has the parts of at most one report
abbrev pub OnePartsLaw : Type 0
OnePartsLaw = (text : List ℕ) (a b : Asked) (r s : Parts) → HasParts text a r → HasParts text b s → AreSame a b r s
