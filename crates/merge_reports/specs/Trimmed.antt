-- Logs that hold only what shows the answer.
use Rattle.std.specs.Prelude.{◌≡◌, ℕ, Bool, true, false, List, [], ◌∷◌, map}
use Rattle.derivation_log.specs.Logs.{Log}
use Rattle.derivation_log.specs.Trimming.{IsTrimmed, AreUsed}
use Rattle.merge_model.specs.declared.answer.Answer.{Answer}
use Rattle.merge_model.specs.declared.answer.Answer.TheVariants.{Merged, Inconsistent, GaveUp}
use Rattle.report_lines.specs.declared.report.Proof.{Proof}
use Rattle.report_lines.specs.declared.report.Proof.TheVariants as proof
use Rattle.report_lines.specs.declared.report.Report.{Report}
use Rattle.report_lines.specs.Accepted.{Parts, log_of}
use Rattle.report_lines.specs.Parts.{Asked, operator_of}
use Rattle.report_lines.specs.Reports.{step_of, asked_in, parts_in}

-- where there is an answer, each step is named by a line that shows a claim, or a later step uses it
abbrev pub IsTrimmedBy : Asked → Parts → Answer → Type 0
IsTrimmedBy asked r (Merged best measure verdicts) = AreUsed (log_of (operator_of asked r) r) r.shown
IsTrimmedBy asked r (Inconsistent constraint agents) = AreUsed (log_of (operator_of asked r) r) r.shown
IsTrimmedBy asked r GaveUp = Unit {0}

abbrev pub IsTrimmedReport : Report → Type 0
IsTrimmedReport report = IsTrimmedBy (asked_in report) (parts_in report) report.answer

abbrev pub is_given_up : Answer → Bool
is_given_up (Merged best measure verdicts) = false
is_given_up (Inconsistent constraint agents) = false
is_given_up GaveUp = true

-- the proof by the step of another number
abbrev pub proof_with : Proof → ℕ → Proof
proof_with (proof.Constraint m) n = proof.Constraint n
proof_with (proof.Base i m) n = proof.Base i n
proof_with (proof.Far k i m) n = proof.Far k i n
proof_with (proof.Least j m) n = proof.Least j n
proof_with (proof.Holds q m) n = proof.Holds q n

-- the proofs by the steps of these numbers
abbrev pub proofs_with : List Proof → List ℕ → List Proof
proofs_with [] numbers = []
proofs_with (p ∷ ps) [] = []
proofs_with (p ∷ ps) (n ∷ ns) = proof_with p n ∷ proofs_with ps ns

-- the log was trimmed to what the proofs need, which name its steps by their new numbers
pub record IsTrimmedTo (old : Log) (proofs : List Proof) (new : Log) (placed : List Proof) : Type 0 where
  pub numbers : List ℕ
  pub log : IsTrimmed old (map step_of proofs) new numbers
  pub proofs_placed : placed ≡ proofs_with proofs numbers

-- so where there is an answer; else nothing has changed
abbrev pub IsTrimmedFor : Answer → Log → List Proof → Log → List Proof → Type 0
IsTrimmedFor (Merged best measure verdicts) old proofs new placed = IsTrimmedTo old proofs new placed
IsTrimmedFor (Inconsistent constraint agents) old proofs new placed = IsTrimmedTo old proofs new placed
IsTrimmedFor GaveUp old proofs new placed = (new ≡ old) × (placed ≡ proofs)
