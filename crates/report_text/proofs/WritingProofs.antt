-- The lines of the log and of the proofs.
use Rattle.std.proofs.Common.{◌≡◌, ◌+◌, ◌<◌, ℕ, zero, suc, List, [], ◌∷◌, ◌++◌, map, length, slice_get, Some, arith, ap, sym, ◌∙◌, refl, subst, append_assoc, append-nil}
use Rattle.std.specs.Prelude.{codes, decimal, Bool, Option, None}
use Rattle.std.specs.List.{flat_map, AllByRecursion, AllZip}
use Rattle.std.proofs.lemmas.List.Concat.{flat_map-cons}
use Rattle.clause_store.specs.declared.lit.Lit.{Lit}
use Rattle.merge_model.specs.Answers.{profile_of}
use Rattle.merge_model.specs.declared.answer.Answer.{Answer}
use Rattle.merge_model.specs.declared.answer.Answer.TheVariants.{Merged, Inconsistent, GaveUp}
use Rattle.merge_model.specs.declared.answer.Verdict.{Verdict}
use Rattle.merge_model.specs.declared.answer.Verdict.TheVariants.{Yes, No}
use Rattle.merge_encoding.specs.Claims.{Assertion, NoModelOfConstraint, NoModelOfBase, NoNearer, NoBetter, NoBreaker, NoModelWith}
use Rattle.derivation_log.specs.declared.step.Step.{Step}
use Rattle.derivation_log.specs.StepLines.{HasLine, step_line, step_words}
use Rattle.report_words.specs.Words.{line_of}
use Rattle.report_lines.specs.declared.kinds.Subject.{Subject}
use Rattle.report_lines.specs.declared.kinds.Subject.TheVariants.{TheConstraint, BaseOf}
use Rattle.report_lines.specs.declared.report.Proof.{Proof}
use Rattle.report_lines.specs.ClaimsDue.{DueClaim, of_first, numbered, far_claims, least_claims, verdict_claims, unless_some, base_claims, claims_due}
use Rattle.report_lines.specs.declared.report.Report.{Report}
use Rattle.report_lines.specs.Accepted.{Parts, log_of, values_in}
use Rattle.report_lines.specs.Items.{Item, MainLine, EndLine, claim_words}
use Rattle.report_lines.specs.Parts.{Asked, HaveLines, operator_of, kind_of_answer, front_items, log_items, step_items, items_text, report_text, shown_claims}
use Rattle.report_lines.specs.Places.{end_number}
use Rattle.report_lines.specs.Reports.{IsReport, IsProofOf, asked_in, parts_in, proof_by, step_of}
use Rattle.report_text.specs.WritingItems.{front_text, proof_text, step_entry}
use Rattle.report_text.proofs.WritingTexts.{items_text-append}

-- the step of a number has a line
pub has_line : (n : ℕ) (steps : List Step) (k m : ℕ) (step : Step) → HaveLines n steps → m ≡ n + k → slice_get steps k ≡ Some step → HasLine m step
has_line n [] k m step h at is = absurd (grind arith)
has_line n (s ∷ steps) zero m step h at is =
    let same : s ≡ step = cc in
    let number : n ≡ m = omega arith in
    subst (λ (j : ℕ). HasLine j step) number (subst (λ (t : Step). HasLine n t) same h.0)
has_line n (s ∷ steps) (suc k) m step h at is = has_line (n + 1) steps k m step h.1 (omega arith) is

-- the line of a step is written
pub step_written : (n : ℕ) (step : Step) (old new : List ℕ) → new ≡ old ++ line_of (step_words (step_line n step)) ++ codes "\n" → new ≡ old ++ items_text (step_entry n step)
step_written n step old new is =
    let line = line_of (step_words (step_line n step)) in
    is ∙ append_assoc old line (codes "\n") ∙ ap (λ t. old ++ t) (sym (append-nil (line ++ codes "\n")))

-- where there is an element
pub within : {X : Type 0} (xs : List X) (k : ℕ) (x : X) → slice_get xs k ≡ Some x → k < length xs
within [] k x is = absurd (cc)
within (y ∷ xs) zero x is = omega arith
within (y ∷ xs) (suc k) x is = let more : k < length xs = within xs k x is in omega arith

-- an assertion that a report can claim
IsClaimed : Assertion → Type 0
IsClaimed NoModelOfConstraint = Unit {0}
IsClaimed (NoModelOfBase i) = Unit {0}
IsClaimed (NoNearer i v d) = Unit {0}
IsClaimed (NoBetter j values) = Unit {0}
IsClaimed (NoBreaker q values) = Unit {0}
IsClaimed (NoModelWith values prefix) = ⊥

abbrev AreClaimed : List DueClaim → Type 0
AreClaimed claims = AllByRecursion (λ claim. IsClaimed claim.says) claims

both : (xs ys : List DueClaim) → AreClaimed xs → AreClaimed ys → AreClaimed (xs ++ ys)
both [] ys h g = g
both (x ∷ xs) ys h g = (h.0, both xs ys h.1 g)

numbered_claimed : (claim : ℕ → ℕ → DueClaim) → ((i k : ℕ) → IsClaimed (claim i k).says) → (i : ℕ) (ks : List ℕ) → AreClaimed (numbered claim i ks)
numbered_claimed claim h i [] = tt
numbered_claimed claim h i (zero ∷ ks) = numbered_claimed claim h (i + 1) ks
numbered_claimed claim h i (suc k ∷ ks) = (h i (suc k), numbered_claimed claim h (i + 1) ks)

far_claimed : (k : ℕ) (model : List Bool) (vector : List ℕ) → AreClaimed (far_claims k model vector)
unfolding IsClaimed
far_claimed k model vector = numbered_claimed (λ i d. record { model = k; says = NoNearer i model d }) (λ i d. tt) 0 vector

least_claimed : (values : List ℕ) → AreClaimed (least_claims values)
unfolding IsClaimed
least_claimed values = numbered_claimed (λ j x. of_first (NoBetter j values)) (λ j x. tt) 0 values

verdicts_claimed : (values : List ℕ) (q : ℕ) (verdicts : List Verdict) → AreClaimed (verdict_claims values q verdicts)
unfolding IsClaimed
verdicts_claimed values q [] = tt
verdicts_claimed values q (Yes ∷ verdicts) = (tt, verdicts_claimed values (q + 1) verdicts)
verdicts_claimed values q (No shown ∷ verdicts) =
    both (far_claims (q + 1) shown.model shown.vector) (verdict_claims values (q + 1) verdicts) (far_claimed (q + 1) shown.model shown.vector) (verdicts_claimed values (q + 1) verdicts)

lack_claimed : (subject : Subject) (entry : Option (List Bool)) → AreClaimed (unless_some subject entry)
unfolding IsClaimed
lack_claimed TheConstraint None = (tt, tt)
lack_claimed (BaseOf i) None = (tt, tt)
lack_claimed subject (Some v) = tt

bases_claimed : (i : ℕ) (entries : List (Option (List Bool))) → AreClaimed (base_claims i entries)
bases_claimed i [] = tt
bases_claimed i (entry ∷ entries) = both (unless_some (BaseOf i) entry) (base_claims (i + 1) entries) (lack_claimed (BaseOf i) entry) (bases_claimed (i + 1) entries)

due_claimed : (values_of : List ℕ → List ℕ) (answer : Answer) → AreClaimed (claims_due values_of answer)
due_claimed values_of (Merged best measure verdicts) =
    let values = values_of best.vector in
    both (far_claims 0 best.model best.vector) (least_claims values ++ verdict_claims values 0 verdicts) (far_claimed 0 best.model best.vector)
    (both (least_claims values) (verdict_claims values 0 verdicts) (least_claimed values) (verdicts_claimed values 0 verdicts))
due_claimed values_of (Inconsistent constraint agents) =
    both (unless_some TheConstraint constraint) (base_claims 0 agents) (lack_claimed TheConstraint constraint) (bases_claimed 0 agents)
due_claimed values_of GaveUp = tt

-- the line of a claim and its step is that of the proof
claim_line : (k : ℕ) (says : Assertion) (p : Proof) → IsClaimed says → p ≡ proof_by k says (step_of p)
    → line_of (codes "shown" ∷ (claim_words k says ++ decimal (step_of p) ∷ [])) ++ codes "\n" ≡ proof_text p
unfolding IsClaimed
claim_line k NoModelOfConstraint p h is = sym (ap proof_text is)
claim_line k (NoModelOfBase i) p h is = sym (ap proof_text is)
claim_line k (NoNearer i v d) p h is = sym (ap proof_text is)
claim_line k (NoBetter j values) p h is = sym (ap proof_text is)
claim_line k (NoBreaker q values) p h is = sym (ap proof_text is)
claim_line k (NoModelWith values prefix) p h is = absurd h

claim_lines : (claims : List DueClaim) (proofs : List Proof) → AreClaimed claims → AllZip IsProofOf claims proofs
    → items_text (shown_claims claims (map step_of proofs)) ≡ flat_map proof_text proofs
claim_lines [] [] h is = refl
claim_lines [] (p ∷ proofs) h is = absurd is
claim_lines (claim ∷ claims) [] h is = absurd is
claim_lines (claim ∷ claims) (p ∷ proofs) h is =
    ap (λ t. t ++ items_text (shown_claims claims (map step_of proofs))) (claim_line claim.model claim.says p h.0 is.0)
    ∙ ap (λ t. proof_text p ++ t) (claim_lines claims proofs h.1 is.1)
    ∙ sym (flat_map-cons proof_text p proofs)

-- the lines of the claims that are due are those of their proofs
pub shown_text : (values_of : List ℕ → List ℕ) (answer : Answer) (proofs : List Proof) → AllZip IsProofOf (claims_due values_of answer) proofs
    → items_text (shown_claims (claims_due values_of answer) (map step_of proofs)) ≡ flat_map proof_text proofs
shown_text values_of answer proofs is = claim_lines (claims_due values_of answer) proofs (due_claimed values_of answer) is

log_of_pieces : (vars count last : ℕ) (steps : List Step) (shown : List Item)
    → items_text (MainLine vars count ∷ (step_items count steps ++ (shown ++ EndLine last ∷ [])))
    ≡ items_text (MainLine vars count ∷ []) ++ (items_text (step_items count steps) ++ (items_text shown ++ items_text (EndLine last ∷ [])))
log_of_pieces vars count last steps shown =
    items_text-append (MainLine vars count ∷ []) (step_items count steps ++ (shown ++ EndLine last ∷ []))
    ∙ ap (λ t. items_text (MainLine vars count ∷ []) ++ t) (items_text-append (step_items count steps) (shown ++ EndLine last ∷ [])
    ∙ ap (λ t. items_text (step_items count steps) ++ t) (items_text-append shown (EndLine last ∷ [])))

-- the parts of the log of a report, and of what follows it
pub log_pieces : (r : Report) → IsReport r
    → items_text (log_items (asked_in r) (parts_in r))
    ≡ items_text (MainLine r.derivations.vars (length r.derivations.main) ∷ [])
    ++ (items_text (step_items (length r.derivations.main) r.derivations.steps)
    ++ (flat_map proof_text r.proofs ++ items_text (EndLine (end_number (kind_of_answer r.answer)) ∷ [])))
log_pieces r is =
    let op = operator_of (asked_in r) (parts_in r) in
    let values = values_in op (profile_of r.problem) in
    let last = end_number (kind_of_answer r.answer) in
    let steps = r.derivations.steps in
    let shown = shown_claims (claims_due values r.answer) (map step_of r.proofs) in
    let count = length r.derivations.main in
    ap (λ v. items_text (MainLine v (length (log_of op (parts_in r)).main) ∷ (step_items (length (log_of op (parts_in r)).main) steps ++ (shown ++ EndLine last ∷ [])))) (sym is.vars)
    ∙ ap (λ (main : List (List Lit)). items_text (MainLine r.derivations.vars (length main) ∷ (step_items (length main) steps ++ (shown ++ EndLine last ∷ [])))) (sym is.main)
    ∙ log_of_pieces r.derivations.vars count last steps shown
    ∙ ap (λ t. items_text (MainLine r.derivations.vars count ∷ []) ++ (items_text (step_items count steps) ++ (t ++ items_text (EndLine last ∷ [])))) (shown_text values r.answer r.proofs is.proofs)

-- the parts of a report's text
pub report_pieces : (asked : Asked) (r : Parts)
    → report_text asked r ≡ front_text asked.distance asked.aggregator asked.conflicts r.problem r.answer ++ items_text (log_items asked r)
report_pieces asked r = items_text-append (front_items asked r) (log_items asked r)
