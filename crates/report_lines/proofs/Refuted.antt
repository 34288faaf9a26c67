-- What the lines that show claims come to: no assignment satisfies the main clauses with the assumptions of a claim.
use Rattle.std.proofs.Common.{◌≡◌, ℕ, zero, suc, ◌+◌, ◌<◌, ◌≤◌, Bool, List, [], ◌∷◌, ◌++◌, length, map, ◌∙◌, subst, arith, Some, Option, None}
use Rattle.std.specs.Prelude.{Contains, slice_get, slice_index, slice_index_or}
use Rattle.std.specs.List.{AllZip, AllByRecursion}
use Rattle.clause_store.specs.declared.lit.Lit.{Lit}
use Rattle.clause_store.specs.Lits.{sorted_clause}
use Rattle.clause_store.proofs.Truths.{stored_true}
use Rattle.derivation_log.specs.declared.step.Step.{Step}
use Rattle.derivation_log.specs.Logs.{clauses_of, IsSound}
use Rattle.log_checker.specs.Laws.{RefuteLaw}
use Rattle.merge_model.specs.declared.answer.Verdict.{Verdict}
use Rattle.merge_model.specs.declared.answer.Verdict.TheVariants.{Yes, No}
use Rattle.merge_encoding.specs.MainDues.{MainDue}
use Rattle.merge_encoding.specs.Claims.{Assertion, NoModelOfBase, NoBreaker}
use Rattle.merge_encoding.specs.Assumptions.{assumed, NoneSatisfies}
use Rattle.report_lines.specs.declared.kinds.Subject.TheVariants.{BaseOf}
use Rattle.report_lines.specs.ClaimsDue.{DueClaim, numbered, far_claims, verdict_claims, unless_some, base_claims}
use Rattle.report_lines.specs.Accepted.{Shows}

-- a known clause from the number of main clauses on is that of a step
step_there : (main cs : List (List Lit)) (number : ℕ) (c : List Lit) → length main ≤ number → slice_get (main ++ cs) number ≡ Some c → Contains cs c
step_there [] [] number c le e = absurd (cc)
step_there [] (d ∷ cs) zero c le e = (zero, omega arith, cc)
step_there [] (d ∷ cs) (suc k) c le e = let r = step_there [] cs k c (omega arith) e in (suc r.0, (let lt : r.0 < length cs = r.1 in omega arith), r.2)
step_there (m ∷ main) cs zero c le e = absurd (omega arith)
step_there (m ∷ main) cs (suc k) c le e = step_there main cs k c (omega arith) e

-- a sound log and a line
pub shown_none : RefuteLaw → (main : MainDue) (vars : ℕ) (steps : List Step) (lits : List Lit) (number : ℕ) → IsSound (map sorted_clause main.clauses) steps →
    Shows (record { main = map sorted_clause main.clauses; vars = vars; steps = steps }) lits number → NoneSatisfies main lits
shown_none law main vars steps lits number sound h = λ b r a.
    let stored = map sorted_clause main.clauses in
    law b stored steps h.1 lits (stored_true b main.clauses ∙ r) sound (step_there stored (clauses_of steps) number h.1 h.0 h.2) h.3 a

-- nothing satisfies what the claim assumes
abbrev pub IsOut : MainDue → Assertion → Type 0
IsOut main claim = NoneSatisfies main (assumed main claim)

abbrev pub AreOut : MainDue → List DueClaim → Type 0
AreOut main claims = AllByRecursion (λ claim. IsOut main claim.says) claims

pub all_out : RefuteLaw → (main : MainDue) (vars : ℕ) (steps : List Step) (claims : List DueClaim) (numbers : List ℕ) → IsSound (map sorted_clause main.clauses) steps →
    AllZip (λ claim number. Shows (record { main = map sorted_clause main.clauses; vars = vars; steps = steps }) (assumed main claim.says) number) claims numbers → AreOut main claims
all_out law main vars steps [] numbers sound h = tt
all_out law main vars steps (c ∷ cs) [] sound h = absurd h
all_out law main vars steps (c ∷ cs) (k ∷ ks) sound h = (shown_none law main vars steps (assumed main c.says) k sound h.0, all_out law main vars steps cs ks sound h.1)

pub out_front : (main : MainDue) (cs ds : List DueClaim) → AreOut main (cs ++ ds) → AreOut main cs × AreOut main ds
out_front main [] ds h = (tt, h)
out_front main (c ∷ cs) ds h = let r = out_front main cs ds h.1 in ((h.0, r.0), r.1)

-- the claim of a place whose number is not 0
pub numbered_out : (main : MainDue) (claim : ℕ → ℕ → DueClaim) (i : ℕ) (ks : List ℕ) → AreOut main (numbered claim i ks) → (j k : ℕ) → j < length ks → slice_index ks j ≡ suc k → IsOut main (claim (i + j) (suc k)).says
numbered_out main claim i [] h j k lt e = absurd (omega arith)
numbered_out main claim i (zero ∷ ks) h zero k lt e = absurd (omega arith)
numbered_out main claim i (zero ∷ ks) h (suc j) k lt e =
    let same : i + 1 + j ≡ i + suc j = omega arith in
    subst (λ (n : ℕ). IsOut main (claim n (suc k)).says) same (numbered_out main claim (i + 1) ks h j k (omega arith) e)
numbered_out main claim i (suc x ∷ ks) h zero k lt e =
    let same : i ≡ i + 0 = omega arith in
    subst (λ (n : ℕ). IsOut main (claim n (suc k)).says) same (subst (λ (n : ℕ). IsOut main (claim i n).says) e h.0)
numbered_out main claim i (suc x ∷ ks) h (suc j) k lt e =
    let same : i + 1 + j ≡ i + suc j = omega arith in
    subst (λ (n : ℕ). IsOut main (claim n (suc k)).says) same (numbered_out main claim (i + 1) ks h.1 j k (omega arith) e)

-- what a verdict on query q comes to
abbrev pub IsVerdictOut : MainDue → List ℕ → ℕ → Verdict → Type 0
IsVerdictOut main values q Yes = IsOut main (NoBreaker q values)
IsVerdictOut main values q (No shown) = AreOut main (far_claims (q + 1) shown.model shown.vector)

pub verdict_out : (main : MainDue) (values : List ℕ) (q : ℕ) (verdicts : List Verdict) → AreOut main (verdict_claims values q verdicts) → (i : ℕ) → i < length verdicts → IsVerdictOut main values (q + i) (slice_index_or verdicts i Yes)
verdict_out main values q [] h i lt = absurd (omega arith)
verdict_out main values q (Yes ∷ verdicts) h zero lt = let same : q ≡ q + 0 = omega arith in subst (λ (n : ℕ). IsOut main (NoBreaker n values)) same h.0
verdict_out main values q (Yes ∷ verdicts) h (suc i) lt =
    let same : q + 1 + i ≡ q + suc i = omega arith in
    subst (λ (n : ℕ). IsVerdictOut main values n (slice_index_or verdicts i Yes)) same (verdict_out main values (q + 1) verdicts h.1 i (omega arith))
verdict_out main values q (No shown ∷ verdicts) h zero lt =
    let same : q ≡ q + 0 = omega arith in
    subst (λ (n : ℕ). IsVerdictOut main values n (No shown)) same (out_front main (far_claims (q + 1) shown.model shown.vector) (verdict_claims values (q + 1) verdicts) h).0
verdict_out main values q (No shown ∷ verdicts) h (suc i) lt =
    let same : q + 1 + i ≡ q + suc i = omega arith in
    subst (λ (n : ℕ). IsVerdictOut main values n (slice_index_or verdicts i Yes)) same
    (verdict_out main values (q + 1) verdicts (out_front main (far_claims (q + 1) shown.model shown.vector) (verdict_claims values (q + 1) verdicts) h).1 i (omega arith))

-- the claim of a base for which none stands
pub base_out : (main : MainDue) (i : ℕ) (entries : List (Option (List Bool))) → AreOut main (base_claims i entries) → (j : ℕ) → j < length entries → slice_index_or entries j None ≡ None → IsOut main (NoModelOfBase (i + j))
base_out main i [] h j lt e = absurd (omega arith)
base_out main i (None ∷ entries) h zero lt e = let same : i ≡ i + 0 = omega arith in subst (λ (n : ℕ). IsOut main (NoModelOfBase n)) same h.0
base_out main i (Some v ∷ entries) h zero lt e = absurd (cc)
base_out main i (entry ∷ entries) h (suc j) lt e =
    let same : i + 1 + j ≡ i + suc j = omega arith in
    subst (λ (n : ℕ). IsOut main (NoModelOfBase n)) same
    (base_out main (i + 1) entries (out_front main (unless_some (BaseOf i) entry) (base_claims (i + 1) entries) h).1 j (omega arith) e)
