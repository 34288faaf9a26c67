-- What a report says, by its parts.
use Rattle.std.specs.Prelude.{◌≡◌, ℕ, map}
use Rattle.std.specs.List.{AllZip}
use Rattle.merge_encoding.specs.Claims.{Assertion, NoModelOfConstraint, NoModelOfBase, NoNearer, NoBetter, NoBreaker, NoModelWith}
use Rattle.report_lines.specs.declared.report.Proof.{Proof}
use Rattle.report_lines.specs.declared.report.Proof.TheVariants as proof
use Rattle.report_lines.specs.declared.report.Report.{Report}
use Rattle.report_lines.specs.ClaimsDue.{DueClaim}
use Rattle.report_lines.specs.Accepted.{Parts, log_of}
use Rattle.report_lines.specs.Parts.{Asked, operator_of, claims_of}

-- the number of its step
abbrev pub step_of : Proof → ℕ
step_of (proof.Constraint n) = n
step_of (proof.Base i n) = n
step_of (proof.Far k i n) = n
step_of (proof.Least j n) = n
step_of (proof.Holds q n) = n

-- the proof of a claim on a shown model by the step of a number; no report claims the last
abbrev pub proof_by : ℕ → Assertion → ℕ → Proof
proof_by k NoModelOfConstraint n = proof.Constraint n
proof_by k (NoModelOfBase i) n = proof.Base i n
proof_by k (NoNearer i v d) n = proof.Far k i n
proof_by k (NoBetter j values) n = proof.Least j n
proof_by k (NoBreaker q values) n = proof.Holds q n
proof_by k (NoModelWith values prefix) n = proof.Constraint n

-- the proof is one of the claim
abbrev pub IsProofOf : DueClaim → Proof → Type 0
IsProofOf claim given = given ≡ proof_by claim.model claim.says (step_of given)

abbrev pub asked_in : Report → Asked
asked_in r = record { distance = r.distance; aggregator = r.aggregator; conflicts = r.conflicts }

abbrev pub parts_in : Report → Parts
parts_in r = record { problem = r.problem; answer = r.answer; steps = r.derivations.steps; shown = map step_of r.proofs }

-- the log stands over the main clauses of the problem, and the proofs are those of the claims that are due for the answer, in
-- order
pub record IsReport (r : Report) : Type 0 where
  pub main : r.derivations.main ≡ (log_of (operator_of (asked_in r) (parts_in r)) (parts_in r)).main
  pub vars : r.derivations.vars ≡ (log_of (operator_of (asked_in r) (parts_in r)) (parts_in r)).vars
  pub proofs : AllZip IsProofOf (claims_of (asked_in r) (parts_in r)) r.proofs
