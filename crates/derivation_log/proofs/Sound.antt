-- Steps that follow keep every satisfying assignment.
use Rattle.std.proofs.Common.{◌≡◌, ℕ, Bool, true, false, ◌||◌, List, [], ◌∷◌, ◌++◌, refl, ap, sym, ◌∙◌, inl, inr, subst, append_assoc, zero, suc, arith}
use Rattle.std.proofs.lemmas.Bool.Decides.{nat_tests}
use Rattle.clause_store.proofs.Lits.{rank_lit}
use Rattle.std.specs.Prelude.{Contains}
use Rattle.std.specs.List.{AllByRecursion}
use Rattle.std.proofs.lemmas.List.{append-nil}
use Rattle.std.proofs.lemmas.Bool.{not-true}
use Rattle.clause_store.specs.declared.lit.Lit.{Lit}
use Rattle.clause_store.specs.Lits.{negated, resolvent, has, same_lit, rank_of}
use Rattle.clause_store.specs.Truth.{lit_true, clause_true, all_true, AreTrue}
use Rattle.clause_store.proofs.Truths.{resolvent_true, known_true, and_left, and_right, and_both, or_cases, all_true-append, lit_true-negated}
use Rattle.derivation_log.specs.declared.step.Link.{Link}
use Rattle.derivation_log.specs.declared.step.Step.{Step}
use Rattle.derivation_log.specs.Logs.{Comes, Follows, IsSound, clauses_of}
use Rattle.clause_store.specs.Refutes.{Refutes}

comes_true : (a : ℕ → Bool) (known : List (List Lit)) (running : List Lit) (links : List Link) (end : List Lit) → AreTrue known a → clause_true a running ≡ true → Comes known running links end → clause_true a end ≡ true
comes_true a known running [] end s t h = subst (λ (c : List Lit). clause_true a c ≡ true) h t
comes_true a known running (l ∷ ls) end s t h = comes_true a known (resolvent l.pivot running h.0) ls end s (resolvent_true a l.pivot running h.0 t (known_true a known l.number h.0 s h.1)) h.4

pub step_sound : (a : ℕ → Bool) (known : List (List Lit)) (step : Step) → AreTrue known a → Follows known step → clause_true a step.clause ≡ true
step_sound a known step s h = comes_true a known h.0 step.chain step.clause s (known_true a known step.first h.0 s h.1) h.2

satisfies_push : (a : ℕ → Bool) (cs : List (List Lit)) (c : List Lit) → AreTrue cs a → clause_true a c ≡ true → AreTrue (cs ++ c ∷ []) a
satisfies_push a cs c s t = all_true-append a cs (c ∷ []) ∙ and_both (all_true a cs) (all_true a (c ∷ [])) s (and_both (clause_true a c) true t refl)

pub log_sound : (a : ℕ → Bool) (main : List (List Lit)) (steps : List Step) → AreTrue main a → IsSound main steps → AreTrue (main ++ clauses_of steps) a
log_sound a main [] s h = subst (λ (cs : List (List Lit)). AreTrue cs a) (sym (append-nil main)) s
log_sound a main (x ∷ xs) s h =
    subst (λ (cs : List (List Lit)). AreTrue cs a) (append_assoc main (x.clause ∷ []) (clauses_of xs)) (log_sound a (main ++ x.clause ∷ []) xs (satisfies_push a main x.clause s (step_sound a main x s h.0)) h.1)

-- a literal among literals that are true is true
has_all : (a : ℕ → Bool) (l : Lit) (ms : List Lit) → has l ms ≡ true → AllByRecursion (λ m. lit_true a m ≡ true) ms → lit_true a l ≡ true
has_all a l [] h t = absurd (cc)
has_all a l (m ∷ ms) h t = elim (or_cases (same_lit l m) (has l ms) h) [
  | inl s ↦ (let r : rank_of l ≡ rank_of m = grind (arith, nat_tests) in ap (lit_true a) (rank_lit l m r) ∙ t.0)
  | inr s ↦ has_all a l ms s t.1
]

-- a clause that refutes assumptions is false where they are true
refuted_false : (a : ℕ → Bool) (c assumptions : List Lit) → Refutes c assumptions → AllByRecursion (λ l. lit_true a l ≡ true) assumptions → clause_true a c ≡ false
refuted_false a [] assumptions r t = refl
refuted_false a (l ∷ ls) assumptions r t =
    let n : lit_true a (negated l) ≡ true = has_all a (negated l) assumptions r.0 t in
    let f : lit_true a l ≡ false = not-true (lit_true a l) (sym (lit_true-negated a l) ∙ n) in
    ap (λ (b : Bool). b || clause_true a ls) f ∙ refuted_false a ls assumptions r.1 t

member_true : (a : ℕ → Bool) (cs : List (List Lit)) (c : List Lit) → AreTrue cs a → Contains cs c → clause_true a c ≡ true
member_true a [] c s (k, lt, e) = absurd (omega arith)
member_true a (d ∷ ds) c s (zero, lt, e) = subst (λ (x : List Lit). clause_true a x ≡ true) e (and_left (clause_true a d) (all_true a ds) s)
member_true a (d ∷ ds) c s (suc k, lt, e) = member_true a ds c (and_right (clause_true a d) (all_true a ds) s) (k, omega arith, e)

pub log_refutes : (a : ℕ → Bool) (main : List (List Lit)) (steps : List Step) (c assumptions : List Lit) → AreTrue main a → IsSound main steps → Contains (clauses_of steps) c → Refutes c assumptions → AllByRecursion (λ l. lit_true a l ≡ true) assumptions → ⊥
log_refutes a main steps c assumptions s h m r t =
    let both = sym (all_true-append a main (clauses_of steps)) ∙ log_sound a main steps s h in
    let e = member_true a (clauses_of steps) c (and_right (all_true a main) (all_true a (clauses_of steps)) both) m in
    let f = refuted_false a c assumptions r t in cc
