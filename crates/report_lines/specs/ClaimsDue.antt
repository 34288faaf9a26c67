-- The claims that are due for an answer, in the order of the lines that show them.
use Rattle.std.specs.Prelude.{ℕ, zero, suc, ◌+◌, Bool, List, [], ◌∷◌, ◌++◌, Option, None, Some}
use Rattle.merge_encoding.specs.Claims.{Assertion, NoModelOfConstraint, NoModelOfBase, NoNearer, NoBetter, NoBreaker}
use Rattle.merge_model.specs.declared.answer.Answer.{Answer}
use Rattle.merge_model.specs.declared.answer.Answer.TheVariants.{Merged, Inconsistent, GaveUp}
use Rattle.merge_model.specs.declared.answer.Verdict.{Verdict}
use Rattle.merge_model.specs.declared.answer.Verdict.TheVariants.{Yes, No}
use Rattle.report_lines.specs.declared.kinds.Subject.{Subject}
use Rattle.report_lines.specs.declared.kinds.Subject.TheVariants.{TheConstraint, BaseOf}

-- a claim that a step is to prove. It speaks of the first model that is shown, number 0, or of the model in
-- which query K is false, number K, counted from 1
pub record DueClaim : Type 0 where
  pub model : ℕ
  pub says : Assertion

-- a claim of the first model, or of none
abbrev pub of_first : Assertion → DueClaim
of_first says = record { model = 0; says = says }

-- a claim for each number that is not 0, of its place, from i on, and of the number
abbrev pub numbered : (ℕ → ℕ → DueClaim) → ℕ → List ℕ → List DueClaim
numbered claim i [] = []
numbered claim i (zero ∷ ks) = numbered claim (i + 1) ks
numbered claim i (suc k ∷ ks) = claim i (suc k) ∷ numbered claim (i + 1) ks

-- no model of a base is nearer to shown model k than its entry, for each entry that is not 0
abbrev pub far_claims : ℕ → List Bool → List ℕ → List DueClaim
far_claims k model vector = numbered (λ i d. record { model = k; says = NoNearer i model d }) 0 vector

-- no candidate is better first at a level, for each level whose value is not 0
abbrev pub least_claims : List ℕ → List DueClaim
least_claims values = numbered (λ j x. of_first (NoBetter j values)) 0 values

-- of the verdicts on the queries from q on
abbrev pub verdict_claims : List ℕ → ℕ → List Verdict → List DueClaim
verdict_claims values q [] = []
verdict_claims values q (Yes ∷ verdicts) = of_first (NoBreaker q values) ∷ verdict_claims values (q + 1) verdicts
verdict_claims values q (No shown ∷ verdicts) = far_claims (q + 1) shown.model shown.vector ++ verdict_claims values (q + 1) verdicts

-- that a formula has no model
abbrev pub lack_of : Subject → Assertion
lack_of TheConstraint = NoModelOfConstraint
lack_of (BaseOf i) = NoModelOfBase i

-- a claim where there is no model
abbrev pub unless_some : Subject → Option (List Bool) → List DueClaim
unless_some subject None = of_first (lack_of subject) ∷ []
unless_some subject (Some v) = []

abbrev pub base_claims : ℕ → List (Option (List Bool)) → List DueClaim
base_claims i [] = []
base_claims i (entry ∷ entries) = unless_some (BaseOf i) entry ++ base_claims (i + 1) entries

-- the claims that are due for an answer, where these are the level values of a vector
abbrev pub claims_due : (List ℕ → List ℕ) → Answer → List DueClaim
claims_due values_of (Merged best measure verdicts) =
    far_claims 0 best.model best.vector ++ (least_claims (values_of best.vector) ++ verdict_claims (values_of best.vector) 0 verdicts)
claims_due values_of (Inconsistent constraint agents) = unless_some TheConstraint constraint ++ base_claims 0 agents
claims_due values_of GaveUp = []
