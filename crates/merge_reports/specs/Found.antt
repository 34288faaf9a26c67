-- What is found of a problem, with the steps that prove it.
use Rattle.std.specs.Prelude.{◌≡◌, ℕ, ◌+◌, ◌≤◌, ◌<◌, ◌^◌, List, [], ◌∷◌, ◌++◌, length}
use Rattle.std.specs.List.{AllZip}
use Rattle.clause_store.specs.Limits.{var_limit, clause_limit}
use Rattle.clause_store.specs.Lits.{AreInRange}
use Rattle.derivation_log.specs.Logs.{Log, known_of}
use Rattle.cdcl_core.specs.Replies.{IsGrown}
use Rattle.merge_model.specs.declared.answer.Answer.{Answer}
use Rattle.merge_model.specs.declared.answer.Answer.TheVariants.{Merged, Inconsistent, GaveUp}
use Rattle.merge_model.specs.declared.answer.Verdict.{Verdict}
use Rattle.merge_model.specs.declared.answer.Verdict.TheVariants.{Yes, No}
use Rattle.merge_model.specs.Answers.{IsVerdict, IsRightMerge, NamesModels}
use Rattle.merge_model.specs.Merging.{repeated}
use Rattle.merge_encoding.specs.Claims.{NoBreaker, ask_at}
use Rattle.distance_search.specs.Setting.{Setting}
use Rattle.distance_search.specs.Replies.{Shows}
use Rattle.distance_search.specs.declared.reply.SearchStop.{SearchStop}
use Rattle.distance_search.specs.declared.reply.SearchStop.TheVariants as stops
use Rattle.report_lines.specs.declared.report.Proof.{Proof}
use Rattle.report_lines.specs.ClaimsDue.{DueClaim, of_first, far_claims, verdict_claims, claims_due}
use Rattle.report_lines.specs.Reports.{step_of, IsProofOf}

-- the proof is one of the claim, by a step that shows it
abbrev pub IsShownBy : Setting → Log → DueClaim → Proof → Type 0
IsShownBy s log claim given = IsProofOf claim given × Shows s log (step_of given) claim.says

abbrev pub AreShownBy : Setting → Log → List DueClaim → List Proof → Type 0
AreShownBy s log claims proofs = AllZip (IsShownBy s log) claims proofs

-- the claims that are due for the verdict on query q
abbrev pub claims_on : List ℕ → ℕ → Verdict → List DueClaim
claims_on values q Yes = of_first (NoBreaker q values) ∷ []
claims_on values q (No shown) = far_claims (q + 1) shown.model shown.vector

-- the verdict on query q is right, and the proofs of it were appended
pub record IsRuled (s : Setting) (log : Log) (values : List ℕ) (q : ℕ) (old new : List Proof) (verdict : Verdict) : Type 0 where
  pub right : IsVerdict s.dist s.rank s.profile (ask_at s.asks q) verdict
  pub more : List Proof
  pub appended : new ≡ old ++ more
  pub shown : AreShownBy s log (claims_on values q verdict) more

-- the verdicts on the queries are right, in order, and the proofs of them were appended
pub record AreRuled (s : Setting) (log : Log) (values : List ℕ) (old new : List Proof) (verdicts : List Verdict) : Type 0 where
  pub right : AllZip (IsVerdict s.dist s.rank s.profile) s.asks verdicts
  pub more : List Proof
  pub appended : new ≡ old ++ more
  pub shown : AreShownBy s log (verdict_claims values 0 verdicts) more

-- the level values of a vector
abbrev pub values_by : Setting → List ℕ → List ℕ
values_by s vector = s.values_of (repeated s.profile.times vector) s.top

-- a right merge, or the formulas that have no model
abbrev pub IsRightBy : Setting → Answer → Type 0
IsRightBy s (Merged best measure verdicts) = IsRightMerge s.dist s.rank s.profile s.asks best measure verdicts
IsRightBy s (Inconsistent constraint agents) = NamesModels s.profile constraint agents
IsRightBy s GaveUp = ⊥

-- the answer is right, and these are the proofs of its claims, in order
pub record IsFound (s : Setting) (log : Log) (answer : Answer) (proofs : List Proof) : Type 0 where
  pub right : IsRightBy s answer
  pub shown : AreShownBy s log (claims_due (values_by s) answer) proofs

-- the last steps, as many as the budget, were learned by one question; so many are fewer than the clauses that could
-- be learned
pub record HasSpent (log : Log) (budget : ℕ) : Type 0 where
  pub before : Log
  pub grown : IsGrown before log budget
  pub few : budget < 3 ^ log.vars

-- how a search ends that has no answer
abbrev pub IsEnded : Log → ℕ → SearchStop → Type 0
IsEnded log budget (stops.GaveUp number) = HasSpent log budget
IsEnded log budget stops.NoMemory = Unit {0}

-- the log's numbers are below its limits
pub record IsSmall (log : Log) : Type 0 where
  pub vars : log.vars ≤ var_limit
  pub count : length (known_of log) < clause_limit
  pub in_range : AreInRange log.vars (known_of log)
