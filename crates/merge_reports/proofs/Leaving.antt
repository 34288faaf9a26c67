-- An outcome whose log was trimmed is an outcome still.
use Rattle.std.proofs.Common.{◌≡◌, ℕ, ◌<◌, ◌≤◌, Bool, true, false, List, [], ◌∷◌, ◌++◌, inl, inr, length, map, refl, sym, ap, ◌∙◌, subst, arith, Some, length-append}
use Rattle.std.specs.Prelude.{slice_get}
use Rattle.std.specs.List.{AllByRecursion, AllZip}
use Rattle.std.proofs.lemmas.Bool.{cases_Bool}
use Rattle.std.proofs.lemmas.Option.{slice_get_within}
use Rattle.clause_store.specs.declared.lit.Lit.{Lit}
use Rattle.clause_store.specs.Lits.{Includes, InRange, AreInRange}
use Rattle.clause_store.specs.Keeping.{kept_of}
use Rattle.clause_store.proofs.Each.{each_push, each_append}
use Rattle.clause_store.proofs.Packing.{each_kept}
use Rattle.derivation_log.specs.declared.step.Step.{Step}
use Rattle.derivation_log.specs.Logs.{Log, known_of, clauses_of, is_learned, IsSound, IsNew}
use Rattle.derivation_log.specs.Trimming.{renumbered, number_after, IsTrimmed, IsSameStep, AreUsed}
use Rattle.derivation_log.proofs.Trims.{left_sound, left_named, kept_clauses}
use Rattle.derivation_log.proofs.Uses.{left_used}
use Rattle.solver_laws.specs.Ready.{IsLog, AllFit}
use Rattle.merge_model.specs.declared.answer.Answer.{Answer}
use Rattle.merge_model.specs.declared.answer.Answer.TheVariants.{Merged, Inconsistent, GaveUp}
use Rattle.merge_model.specs.declared.problem.Problem.{Problem}
use Rattle.merge_encoding.specs.Claims.{Assertion, NoModelOfConstraint, NoModelOfBase, NoNearer, NoBetter, NoBreaker, NoModelWith}
use Rattle.distance_search.specs.Setting.{Setting, IsOver}
use Rattle.report_lines.specs.declared.report.Proof.{Proof}
use Rattle.report_lines.specs.declared.report.Proof.TheVariants as proof
use Rattle.report_lines.specs.ClaimsDue.{DueClaim, claims_due}
use Rattle.report_lines.specs.declared.report.Report.{Report}
use Rattle.report_lines.specs.Accepted.{Operator, log_of}
use Rattle.report_lines.specs.Parts.{operator_of}
use Rattle.report_lines.specs.Reports.{step_of, proof_by, IsProofOf, asked_in, parts_in, IsReport}
use Rattle.merge_reports.specs.Found.{IsShownBy, AreShownBy, IsFound, IsSmall, values_by}
use Rattle.merge_reports.specs.Outcomes.{setting_by, IsEnd, IsOutcome}
use Rattle.merge_reports.specs.Trimmed.{proof_with, proofs_with, is_given_up, IsTrimmedTo, IsTrimmedFor, IsTrimmedBy, IsTrimmedReport}

-- what is left of a log

each_front : {X : Type 0} (P : X → Type 0) (xs ys : List X) → AllByRecursion P (xs ++ ys) → AllByRecursion P xs
each_front P [] ys h = tt
each_front P (x ∷ xs) ys h = (h.0, each_front P xs ys h.1)

each_back : {X : Type 0} (P : X → Type 0) (xs ys : List X) → AllByRecursion P (xs ++ ys) → AllByRecursion P ys
each_back P [] ys h = h
each_back P (x ∷ xs) ys h = each_back P xs ys h.1

abbrev IncludesNone : List Lit → List (List Lit) → Type 0
IncludesNone d cs = AllByRecursion (λ c. Includes d c → ⊥) cs

none_more : (d c : List Lit) (all few : List (List Lit)) → (IncludesNone d all → IncludesNone d few) → IncludesNone d (all ++ c ∷ []) → IncludesNone d (few ++ c ∷ [])
none_more d c all few sub h =
    let last = each_back (λ x. Includes d x → ⊥) all (c ∷ []) h in
    each_push (λ x. Includes d x → ⊥) few c (sub (each_front (λ x. Includes d x → ⊥) all (c ∷ []) h)) last.0

new_left : (f : ℕ → ℕ) (marks : List Bool) (steps : List Step) (all few : List (List Lit)) → ((d : List Lit) → IncludesNone d all → IncludesNone d few) → IsNew all steps → IsNew few (map (renumbered f) (kept_of marks steps))
new_left f [] steps all few sub h = tt
new_left f (m ∷ ms) [] all few sub h = tt
new_left f (true ∷ ms) (s ∷ ss) all few sub h =
    elim (cases_Bool (is_learned s.kind)) [
      | inl t ↦ ((λ e. sub s.clause (h.0 e)), rw t (new_left f ms ss (all ++ s.clause ∷ []) (few ++ s.clause ∷ []) (λ d. none_more d s.clause all few (sub d)) (rw t at h.1)))
      | inr t ↦ ((λ e. sub s.clause (h.0 e)), rw t (new_left f ms ss all few sub (rw t at h.1)))
    ]
new_left f (false ∷ ms) (s ∷ ss) all few sub h =
    elim (cases_Bool (is_learned s.kind)) [
      | inl t ↦ new_left f ms ss (all ++ s.clause ∷ []) few (λ d x. sub d (each_front (λ c. Includes d c → ⊥) all (s.clause ∷ []) x)) (rw t at h.1)
      | inr t ↦ new_left f ms ss all few sub (rw t at h.1)
    ]

fit_left : (f : ℕ → ℕ) (marks : List Bool) (steps : List Step) (vars : ℕ) → AllFit vars steps → AllFit vars (map (renumbered f) (kept_of marks steps))
fit_left f [] steps vars h = tt
fit_left f (m ∷ ms) [] vars h = tt
fit_left f (true ∷ ms) (s ∷ ss) vars h = (h.0, fit_left f ms ss vars h.1)
fit_left f (false ∷ ms) (s ∷ ss) vars h = fit_left f ms ss vars h.1

log_left : (old new : Log) (named numbers : List ℕ) → IsTrimmed old named new numbers → IsLog old → IsLog new
log_left old new named numbers t h = record {
  sound = left_sound old new named numbers t h.sound;
  new = subst (λ (g : Log). IsNew g.main g.steps) (sym t.left) (new_left (number_after (length old.main) t.marks) t.marks old.steps old.main old.main (λ d x. x) h.new);
  fit = subst (λ (g : Log). AllFit g.vars g.steps) (sym t.left) (fit_left (number_after (length old.main) t.marks) t.marks old.steps old.vars h.fit);
}

kept_short : {X : Type 0} (marks : List Bool) (xs : List X) → length (kept_of marks xs) ≤ length xs
kept_short [] xs = omega arith
kept_short (m ∷ ms) [] = omega arith
kept_short (true ∷ ms) (x ∷ xs) = let h = kept_short ms xs in omega arith
kept_short (false ∷ ms) (x ∷ xs) = let h = kept_short ms xs in omega arith

known_left : (old new : Log) (named numbers : List ℕ) (t : IsTrimmed old named new numbers) → known_of new ≡ old.main ++ kept_of t.marks (clauses_of old.steps)
known_left old new named numbers t = ap (λ (g : Log). known_of g) t.left ∙ ap (λ (cs : List (List Lit)). old.main ++ cs) (kept_clauses (number_after (length old.main) t.marks) t.marks old.steps)

small_left : (old new : Log) (named numbers : List ℕ) → IsTrimmed old named new numbers → IsSmall old → IsSmall new
small_left old new named numbers t h =
    let known = known_left old new named numbers t in
    let vars : new.vars ≡ old.vars = ap (λ (g : Log). g.vars) t.left in
    let whole = length-append old.main (clauses_of old.steps) in
    let part = length-append old.main (kept_of t.marks (clauses_of old.steps)) in
    let short = kept_short t.marks (clauses_of old.steps) in
    let size = ap (λ (cs : List (List Lit)). length cs) known in
    let count = h.count in
    let few = h.vars in
    let each : AreInRange old.vars (old.main ++ kept_of t.marks (clauses_of old.steps)) =
    each_append (InRange old.vars) old.main (kept_of t.marks (clauses_of old.steps)) (each_front (InRange old.vars) old.main (clauses_of old.steps) h.in_range)
    (each_kept (InRange old.vars) t.marks (clauses_of old.steps) (each_back (InRange old.vars) old.main (clauses_of old.steps) h.in_range)) in
    record {
      vars = omega arith;
      count = omega arith;
      in_range = subst (λ (v : ℕ). AreInRange v (known_of new)) (sym vars) (subst (λ cs. AreInRange old.vars cs) (sym known) each);
    }

-- what is left shows the claims

with_by : (k : ℕ) (says : Assertion) (m n : ℕ) → proof_with (proof_by k says m) n ≡ proof_by k says n
with_by k NoModelOfConstraint m n = refl
with_by k (NoModelOfBase i) m n = refl
with_by k (NoNearer i v d) m n = refl
with_by k (NoBetter j values) m n = refl
with_by k (NoBreaker q values) m n = refl
with_by k (NoModelWith values prefix) m n = refl

step_with : (p : Proof) (n : ℕ) → step_of (proof_with p n) ≡ n
step_with (proof.Constraint m) n = refl
step_with (proof.Base i m) n = refl
step_with (proof.Far k i m) n = refl
step_with (proof.Least j m) n = refl
step_with (proof.Holds q m) n = refl

proof_placed : (claim : DueClaim) (p : Proof) (n : ℕ) → IsProofOf claim p → IsProofOf claim (proof_with p n)
proof_placed claim p n e = ap (λ (q : Proof). proof_with q n) e ∙ with_by claim.model claim.says (step_of p) n ∙ ap (λ (m : ℕ). proof_by claim.model claim.says m) (sym (step_with p n))

one_shown : (s : Setting) (old new : Log) (claim : DueClaim) (p : Proof) (n : ℕ) → IsSameStep old new (step_of p) n → IsShownBy s old claim p → IsShownBy s new claim (proof_with p n)
one_shown s old new claim p n same h =
    let r = h.1 in
    let e = sym (step_with p n) in (
      proof_placed claim p n h.0,
      record {
        above = subst (λ (m : ℕ). length new.main ≤ m) e same.0;
        clause = r.clause;
        is_there = subst (λ (m : ℕ). slice_get (known_of new) m ≡ Some r.clause) e (same.1 ∙ r.is_there);
        refuted = r.refuted;
      },
    )

shown_left : (s : Setting) (old new : Log) (claims : List DueClaim) (proofs : List Proof) (numbers : List ℕ) → AllZip (IsSameStep old new) (map step_of proofs) numbers → AreShownBy s old claims proofs → AreShownBy s new claims (proofs_with proofs numbers)
shown_left s old new [] [] numbers z h = tt
shown_left s old new [] (p ∷ ps) numbers z h = absurd h
shown_left s old new (c ∷ cs) [] numbers z h = absurd h
shown_left s old new (c ∷ cs) (p ∷ ps) [] z h = absurd z
shown_left s old new (c ∷ cs) (p ∷ ps) (n ∷ ns) z h = (one_shown s old new c p n z.0 h.0, shown_left s old new cs ps ns z.1 h.1)

-- the numbers of proofs are those of steps
abbrev pub AreSteps : Log → List ℕ → Type 0
AreSteps log ns = AllByRecursion (λ n. (length log.main ≤ n) × (n < length (known_of log))) ns

shown_steps : (s : Setting) (log : Log) (claims : List DueClaim) (proofs : List Proof) → AreShownBy s log claims proofs → AreSteps log (map step_of proofs)
shown_steps s log [] [] h = tt
shown_steps s log [] (p ∷ ps) h = absurd h
shown_steps s log (c ∷ cs) [] h = absurd h
shown_steps s log (c ∷ cs) (p ∷ ps) h =
    let r = h.0.1 in
    ((r.above, slice_get_within (known_of log) (step_of p) r.clause r.is_there), shown_steps s log cs ps h.1)

end_steps : (s : Setting) (log : Log) (budget : ℕ) (answer : Answer) (proofs : List Proof) → IsEnd s log budget answer proofs → AreSteps log (map step_of proofs)
end_steps s log budget (Merged best measure verdicts) proofs h = shown_steps s log _ proofs h.shown
end_steps s log budget (Inconsistent constraint agents) proofs h = shown_steps s log _ proofs h.shown
end_steps s log budget GaveUp proofs h = subst (λ (ps : List Proof). AreSteps log (map step_of ps)) (sym h.0) tt

-- what a trim asks of an outcome
pub outcome_sound : (op : Operator) (budget : ℕ) (problem : Problem) (log : Log) (answer : Answer) (proofs : List Proof) → IsOutcome op budget problem log answer proofs → IsSound log.main log.steps
outcome_sound op budget problem log answer proofs h = let f = h.follows in f.sound

pub outcome_steps : (op : Operator) (budget : ℕ) (problem : Problem) (log : Log) (answer : Answer) (proofs : List Proof) → IsOutcome op budget problem log answer proofs → AreSteps log (map step_of proofs)
outcome_steps op budget problem log answer proofs h = end_steps (setting_by op problem) log budget answer proofs h.end

module _ (op : Operator) (budget : ℕ) (problem : Problem) (old new : Log) (proofs placed : List Proof) where
  found_left : (answer : Answer) → IsTrimmedTo old proofs new placed → AreSteps old (map step_of proofs) → IsFound (setting_by op problem) old answer proofs → IsFound (setting_by op problem) new answer placed
  found_left answer t steps h =
      let same = left_named old new (map step_of proofs) t.numbers t.log steps in
      record {
        right = h.right;
        shown = subst (λ ps. AreShownBy (setting_by op problem) new (claims_due (values_by (setting_by op problem)) answer) ps) (sym t.proofs_placed)
            (shown_left (setting_by op problem) old new (claims_due (values_by (setting_by op problem)) answer) proofs t.numbers same h.shown);
      }

  over_left : IsTrimmedTo old proofs new placed → IsOver (setting_by op problem) old → IsOver (setting_by op problem) new
  over_left t h = let l = t.log in subst (λ (g : Log). IsOver (setting_by op problem) g) (sym l.left) (record { clauses = h.clauses; vars = h.vars })

  trimmed_outcome : (answer : Answer) → IsTrimmedTo old proofs new placed → IsOutcome op budget problem old answer proofs → IsEnd (setting_by op problem) new budget answer placed → IsOutcome op budget problem new answer placed
  trimmed_outcome answer t h end = record {
    laws = h.laws;
    over = over_left t h.over;
    follows = log_left old new (map step_of proofs) t.numbers t.log h.follows;
    small = small_left old new (map step_of proofs) t.numbers t.log h.small;
    end = end;
  }

  pub outcome_left : (answer : Answer) → IsTrimmedFor answer old proofs new placed → IsOutcome op budget problem old answer proofs → IsOutcome op budget problem new answer placed
  outcome_left (Merged best measure verdicts) t h =
      let steps = outcome_steps op budget problem old (Merged best measure verdicts) proofs h in
      trimmed_outcome (Merged best measure verdicts) t h (found_left (Merged best measure verdicts) t steps h.end)
  outcome_left (Inconsistent constraint agents) t h =
      let steps = outcome_steps op budget problem old (Inconsistent constraint agents) proofs h in
      trimmed_outcome (Inconsistent constraint agents) t h (found_left (Inconsistent constraint agents) t steps h.end)
  outcome_left GaveUp t h = subst (λ g. IsOutcome op budget problem g GaveUp placed) (sym t.0) (subst (λ ps. IsOutcome op budget problem old GaveUp ps) (sym t.1) h)

-- each step that is left is used

with_lengths : (old new : Log) (proofs : List Proof) (numbers : List ℕ) → AllZip (IsSameStep old new) (map step_of proofs) numbers → map step_of (proofs_with proofs numbers) ≡ numbers
with_lengths old new [] [] z = refl
with_lengths old new [] (n ∷ ns) z = absurd z
with_lengths old new (p ∷ ps) [] z = absurd z
with_lengths old new (p ∷ ps) (n ∷ ns) z = let one = step_with p n in let rest = with_lengths old new ps ns z.1 in cc

pub used_left : (old new : Log) (proofs placed : List Proof) → IsTrimmedTo old proofs new placed → IsSound old.main old.steps → AreSteps old (map step_of proofs) → AreUsed new (map step_of placed)
used_left old new proofs placed t sound steps =
    let same = left_named old new (map step_of proofs) t.numbers t.log steps in
    let named : map step_of placed ≡ t.numbers = ap (λ (ps : List Proof). map step_of ps) t.proofs_placed ∙ with_lengths old new proofs t.numbers same in
    subst (λ ns. AreUsed new ns) (sym named) (left_used old new (map step_of proofs) t.numbers t.log sound)

-- a trim of a log that has an answer

pub answer_trimmed : (answer : Answer) (old new : Log) (proofs placed : List Proof) → is_given_up answer ≡ false → IsTrimmedTo old proofs new placed → IsTrimmedFor answer old proofs new placed
answer_trimmed (Merged best measure verdicts) old new proofs placed e t = t
answer_trimmed (Inconsistent constraint agents) old new proofs placed e t = t
answer_trimmed GaveUp old new proofs placed e t = absurd (cc)

pub answer_whole : (answer : Answer) (log : Log) (proofs : List Proof) → is_given_up answer ≡ true → IsTrimmedFor answer log proofs log proofs
answer_whole (Merged best measure verdicts) log proofs e = absurd (cc)
answer_whole (Inconsistent constraint agents) log proofs e = absurd (cc)
answer_whole GaveUp log proofs e = (refl, refl)

-- so of the report

abbrev UsedFor : Answer → Log → List Proof → Type 0
UsedFor (Merged best measure verdicts) log proofs = AreUsed log (map step_of proofs)
UsedFor (Inconsistent constraint agents) log proofs = AreUsed log (map step_of proofs)
UsedFor GaveUp log proofs = Unit {0}

used_for : (answer : Answer) (old new : Log) (proofs placed : List Proof) → IsTrimmedFor answer old proofs new placed → IsSound old.main old.steps → AreSteps old (map step_of proofs) → UsedFor answer new placed
used_for (Merged best measure verdicts) old new proofs placed t sound steps = used_left old new proofs placed t sound steps
used_for (Inconsistent constraint agents) old new proofs placed t sound steps = used_left old new proofs placed t sound steps
used_for GaveUp old new proofs placed t sound steps = tt

log_by : List (List Lit) → ℕ → List Step → Log
log_by main vars steps = record { main = main; vars = vars; steps = steps }

log_same : (g : Log) (main : List (List Lit)) (vars : ℕ) → g.main ≡ main → g.vars ≡ vars → g ≡ record { main = main; vars = vars; steps = g.steps }
unfolding log_by
log_same g main vars p q = ap (λ (m : List (List Lit)). log_by m g.vars g.steps) p ∙ ap (λ (v : ℕ). log_by main v g.steps) q

used_same : (a b : Log) (ns : List ℕ) → a ≡ b → AreUsed a ns → AreUsed b ns
used_same a b ns e h = subst (λ g. AreUsed g ns) e h

report_log : (r : Report) → IsReport r → r.derivations ≡ log_of (operator_of (asked_in r) (parts_in r)) (parts_in r)
report_log r w =
    let own = log_of (operator_of (asked_in r) (parts_in r)) (parts_in r) in
    log_same r.derivations own.main own.vars w.main w.vars

trimmed_by : (r : Report) (answer : Answer) → IsReport r → UsedFor answer r.derivations r.proofs → IsTrimmedBy (asked_in r) (parts_in r) answer
trimmed_by r (Merged best measure verdicts) w h = used_same r.derivations (log_of (operator_of (asked_in r) (parts_in r)) (parts_in r)) (map step_of r.proofs) (report_log r w) h
trimmed_by r (Inconsistent constraint agents) w h = used_same r.derivations (log_of (operator_of (asked_in r) (parts_in r)) (parts_in r)) (map step_of r.proofs) (report_log r w) h
trimmed_by r GaveUp w h = tt

pub report_trimmed : (r : Report) (answer : Answer) (old new : Log) (proofs placed : List Proof) → IsReport r → r.answer ≡ answer → r.derivations ≡ new → r.proofs ≡ placed
    → IsTrimmedFor answer old proofs new placed → IsSound old.main old.steps → AreSteps old (map step_of proofs) → IsTrimmedReport r
report_trimmed r answer old new proofs placed w ea el ep t sound steps =
    let used : UsedFor answer new placed = used_for answer old new proofs placed t sound steps in
    let own : UsedFor answer r.derivations placed = subst (λ g. UsedFor answer g placed) (sym el) used in
    let whole : UsedFor answer r.derivations r.proofs = subst (λ ps. UsedFor answer r.derivations ps) (sym ep) own in
    let as_said : UsedFor r.answer r.derivations r.proofs = subst (λ a. UsedFor a r.derivations r.proofs) (sym ea) whole in
    trimmed_by r r.answer w as_said
