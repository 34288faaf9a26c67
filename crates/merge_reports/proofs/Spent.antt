-- How a log ends whose last question spent its budget.
use Rattle.std.proofs.Common.{◌≡◌, ℕ, ◌-◌, Bool, true, false, not, ◌&&◌, ◌||◌, List, [], ◌∷◌, ◌++◌, length, map, take, drop, refl, sym, ap, ◌∙◌, subst, arith, inl, inr, append_assoc, length-append}
use Rattle.std.specs.Prelude.{if◌then◌else◌, nat_le}
use Rattle.std.specs.List.{AllByRecursion, list_any}
use Rattle.std.proofs.lemmas.Bool.{le-leb}
use Rattle.std.proofs.lemmas.Bool.Decides.{nat_tests}
use Rattle.std.proofs.lemmas.List.{append-nil, map-append, length-map}
use Rattle.std.proofs.Math.Seq.{take-append_seam, drop-append_seam}
use Rattle.clause_store.specs.declared.lit.Lit.{Lit}
use Rattle.clause_store.specs.Lits.{has, same_lit, rank_of, Includes}
use Rattle.clause_store.proofs.Lits.{rank_lit}
use Rattle.clause_store.proofs.Truths.{or_cases}
use Rattle.report_words.proofs.Numerals.{both_true}
use Rattle.derivation_log.specs.declared.step.Step.{Step}
use Rattle.derivation_log.specs.Logs.{Log, is_learned, learned_of, IsNew}
use Rattle.cdcl_core.specs.Replies.{AllLearned}
use Rattle.log_lines.specs.Spending.{includes, learned_clauses, are_new, ends_new, is_spent}
use Rattle.report_lines.specs.Parts.{noted_step}
use Rattle.merge_reports.specs.Found.{HasSpent}

includes_means : (d c : List Lit) → includes d c ≡ true → Includes d c
includes_means d [] e l h = absurd (cc)
includes_means d (m ∷ ms) e l h =
    let both = both_true (has m d) (includes d ms) e in
    elim (or_cases (same_lit l m) (has l ms) h) [
      | inl s ↦ (let r : rank_of l ≡ rank_of m = grind (arith, nat_tests) in ap (λ (x : Lit). has x d) (rank_lit l m r) ∙ both.0)
      | inr s ↦ includes_means d ms both.1 l s
    ]

not_included : (d c : List Lit) (b : Bool) → includes d c ≡ b → (Includes d c → ⊥) → b ≡ false
not_included d c true e out = absurd (out (includes_means d c e))
not_included d c false e out = refl

none_included : (d : List Lit) (known : List (List Lit)) → AllByRecursion (λ c. Includes d c → ⊥) known → list_any (includes d) known ≡ false
none_included d [] h = refl
none_included d (c ∷ cs) h =
    let here : includes d c ≡ false = not_included d c (includes d c) refl h.0 in
    ap (λ (b : Bool). b || list_any (includes d) cs) here ∙ none_included d cs h.1

new_noted : (known : List (List Lit)) (steps : List Step) → AllLearned steps → IsNew known steps → are_new known (map noted_step steps) ≡ true
new_noted known [] learned h = refl
new_noted known (s ∷ steps) learned h =
    let first : is_learned s.kind ≡ true = learned.0 in
    let none = none_included s.clause known (h.0 first) in
    let rest : IsNew (known ++ s.clause ∷ []) steps = subst (λ (b : Bool). IsNew (if b then known ++ s.clause ∷ [] else known) steps) first h.1 in
    ap (λ (b : Bool). (b && not (list_any (includes s.clause) known)) && are_new (known ++ s.clause ∷ []) (map noted_step steps)) first
    ∙ ap (λ (b : Bool). not b && are_new (known ++ s.clause ∷ []) (map noted_step steps)) none
    ∙ new_noted (known ++ s.clause ∷ []) steps learned.1 rest

new_by : (known : List (List Lit)) (s : Step) (ss last : List Step) (b : Bool) → ((ks : List (List Lit)) → IsNew ks (ss ++ last) → IsNew (ks ++ learned_of ss) last) →
    IsNew (if b then known ++ s.clause ∷ [] else known) (ss ++ last) → IsNew (known ++ (if b then s.clause ∷ learned_of ss else learned_of ss)) last
new_by known s ss last true rest h = subst (λ ks. IsNew ks last) (append_assoc known (s.clause ∷ []) (learned_of ss)) (rest (known ++ s.clause ∷ []) h)
new_by known s ss last false rest h = rest known h

-- the last steps are new after the clauses that were learned before them
new_tail : (known : List (List Lit)) (before last : List Step) → IsNew known (before ++ last) → IsNew (known ++ learned_of before) last
new_tail known [] last h = subst (λ ks. IsNew ks last) (sym (append-nil known)) h
new_tail known (s ∷ ss) last h = new_by known s ss last (is_learned s.kind) (λ ks k. new_tail ks ss last k) h.1

learned_noted : (steps : List Step) → learned_clauses (map noted_step steps) ≡ learned_of steps
learned_noted [] = refl
learned_noted (s ∷ steps) = ap (λ cs. if is_learned s.kind then s.clause ∷ cs else cs) (learned_noted steps)

-- the last of these steps are those of the budget
ends : (main : List (List Lit)) (before last : List Step) → AllLearned last → IsNew main (before ++ last) → ends_new (length last) main (map noted_step (before ++ last)) ≡ true
ends main before last learned new =
    let front = map noted_step before in
    let back = map noted_step last in
    let whole : map noted_step (before ++ last) ≡ front ++ back = map-append noted_step before last in
    let n : length (front ++ back) - length last ≡ length front = omega (arith, length-append front back, length-map last noted_step) in
    let there : are_new (main ++ learned_clauses front) back ≡ true =
    ap (λ cs. are_new (main ++ cs) back) (learned_noted before) ∙ new_noted (main ++ learned_of before) last learned (new_tail main before last new) in
    ap (ends_new (length last) main) whole
    ∙ ap (λ (k : ℕ). are_new (main ++ learned_clauses (take k (front ++ back))) (drop k (front ++ back))) n
    ∙ ap (λ ns. are_new (main ++ learned_clauses ns) (drop (length front) (front ++ back))) (take-append_seam front back)
    ∙ ap (λ ns. are_new (main ++ learned_clauses front) ns) (drop-append_seam front back)
    ∙ there

pub log_spent : (log : Log) (budget : ℕ) → IsNew log.main log.steps → HasSpent log budget → is_spent budget log.main (map noted_step log.steps) ≡ true
log_spent log budget new h =
    let grown = h.grown in
    let before = h.before.steps in
    let last = grown.steps.0 in
    let whole : log.steps ≡ before ++ last = grown.steps.1 in
    let size : length last ≡ budget = grown.steps.3 in
    let enough : nat_le budget (length (map noted_step log.steps)) ≡ true =
    le-leb budget (length (map noted_step log.steps)) (omega (arith, length-map log.steps noted_step, ap length whole, length-append before last)) in
    let end : ends_new budget log.main (map noted_step log.steps) ≡ true =
    ap (λ (k : ℕ). ends_new k log.main (map noted_step log.steps)) (sym size)
    ∙ ap (λ ss. ends_new (length last) log.main (map noted_step ss)) whole
    ∙ ends log.main before last grown.steps.2 (subst (λ (ss : List Step). IsNew log.main ss) whole new) in
    ap (λ (b : Bool). b && ends_new budget log.main (map noted_step log.steps)) enough ∙ end
