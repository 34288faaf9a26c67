-- Each step of a log whose steps follow has a line.
use Rattle.std.proofs.Common.{◌≡◌, ℕ, ◌+◌, ◌-◌, ◌<◌, ◌≤◌, true, List, [], ◌∷◌, ◌++◌, length, sym, subst, arith, zero, suc, Some, inl, inr, append_assoc, length-append}
use Rattle.std.specs.Prelude.{slice_get}
use Rattle.std.specs.List.{AllByRecursion}
use Rattle.std.proofs.lemmas.Option.{slice_get_within}
use Rattle.std.proofs.lemmas.Bool.Decides.{nat_tests}
use Rattle.report_words.specs.Numbers.{HasNumeral}
use Rattle.clause_store.specs.declared.lit.Lit.{Lit}
use Rattle.clause_store.specs.Lits.{negated, resolvent, has, same_lit, rank_of, IsWithin, InRange, AreInRange}
use Rattle.clause_store.proofs.Each.{each_at}
use Rattle.clause_store.proofs.Lits.{rank_lit}
use Rattle.clause_store.proofs.Truths.{or_cases}
use Rattle.clause_store.specs.Limits.{var_limit, clause_limit}
use Rattle.derivation_log.specs.declared.step.Link.{Link}
use Rattle.derivation_log.specs.declared.step.Step.{Step}
use Rattle.derivation_log.specs.Logs.{Log, clauses_of, known_of, Comes, Follows, IsSound}
use Rattle.derivation_log.specs.StepLines.{HasLine, number_limit}

has_within : (v : ℕ) (l : Lit) (c : List Lit) → InRange v c → has l c ≡ true → IsWithin v l
has_within v l [] r h = absurd (cc)
has_within v l (m ∷ ms) r h =
    elim (or_cases (same_lit l m) (has l ms) h) [
      | inl s ↦ (let e : rank_of l ≡ rank_of m = grind (arith, nat_tests) in subst (IsWithin v) (sym (rank_lit l m e)) r.0)
      | inr s ↦ has_within v l ms r.1 s
    ]

lits_fit : (v : ℕ) (c : List Lit) → v ≤ var_limit → InRange v c → AllByRecursion (λ l. (1 ≤ l.var) × (l.var < number_limit)) c
lits_fit v [] few r = tt
lits_fit v (l ∷ ls) few r = ((r.0.0, omega (arith, r.0.1)), lits_fit v ls few r.1)

-- the negation of a pivot stands in a known clause
pivots_fit : (v : ℕ) (known : List (List Lit)) (running : List Lit) (links : List Link) (end : List Lit) → v ≤ var_limit → AreInRange v known → Comes known running links end → AllByRecursion (λ (l : Link). (1 ≤ l.pivot.var) × (l.pivot.var < number_limit)) links
pivots_fit v known running [] end few r h = tt
pivots_fit v known running (l ∷ ls) end few r h =
    let w : IsWithin v (negated l.pivot) = has_within v (negated l.pivot) h.0 (each_at (InRange v) known l.number h.0 r h.1) h.3 in
    ((w.0, omega (arith, w.1)), pivots_fit v known (resolvent l.pivot running h.0) ls end few r h.4)

numbers_fit : (known : List (List Lit)) (running : List Lit) (links : List Link) (end : List Lit) → length known < clause_limit → Comes known running links end → AllByRecursion (λ (l : Link). HasNumeral l.number) links
numbers_fit known running [] end few h = tt
numbers_fit known running (l ∷ ls) end few h = (omega (arith, slice_get_within known l.number h.0 h.1), numbers_fit known (resolvent l.pivot running h.0) ls end few h.4)

step_fits : (v n : ℕ) (known : List (List Lit)) (s : Step) → v ≤ var_limit → n < clause_limit → length known < clause_limit → AreInRange v known → InRange v s.clause → Follows known s → HasLine n s
step_fits v n known s few own all r rc f = record {
  number = omega arith;
  clause = lits_fit v s.clause few rc;
  first = omega (arith, slice_get_within known s.first f.0 f.1);
  pivots = pivots_fit v known f.0 s.chain s.clause few r f.2;
  links = numbers_fit known f.0 s.chain s.clause all f.2;
}

both : {X : Type 0} (P : X → Type 0) (xs ys : List X) → AllByRecursion P (xs ++ ys) → AllByRecursion P xs × AllByRecursion P ys
both P [] ys h = (tt, h)
both P (x ∷ xs) ys h = let r = both P xs ys h.1 in ((h.0, r.0), r.1)

steps_fit : (v k : ℕ) (known : List (List Lit)) (steps : List Step) (s : Step) → v ≤ var_limit → length (known ++ clauses_of steps) < clause_limit → AreInRange v (known ++ clauses_of steps) → IsSound known steps → slice_get steps k ≡ Some s → HasLine (length known + k) s
steps_fit v k known [] s few n r h e = absurd (cc)
steps_fit v zero known (x ∷ xs) s few n r h e =
    let q : x ≡ s = cc in
    let parts = both (InRange v) known (x.clause ∷ clauses_of xs) r in
    let m = length-append known (x.clause ∷ clauses_of xs) in
    subst (HasLine (length known + 0)) q (step_fits v (length known + 0) known x few (omega arith) (omega arith) parts.0 parts.1.0 h.0)
steps_fit v (suc k) known (x ∷ xs) s few n r h e =
    let m = append_assoc known (x.clause ∷ []) (clauses_of xs) in
    let i : length (known ++ x.clause ∷ []) + k ≡ length known + suc k = omega (arith, length-append known (x.clause ∷ [])) in
    subst (λ (j : ℕ). HasLine j s) i (steps_fit v k (known ++ x.clause ∷ []) xs s few (subst (λ (zs : List (List Lit)). length zs < clause_limit) (sym m) n) (subst (AreInRange v) (sym m) r) h.1 e)

pub step_has_line : (g : Log) (n : ℕ) (s : Step) → g.vars ≤ var_limit → length (known_of g) < clause_limit → AreInRange g.vars (known_of g) → IsSound g.main g.steps → length g.main ≤ n → slice_get g.steps (n - length g.main) ≡ Some s → HasLine n s
step_has_line g n s few all r h le e =
    let i : length g.main + (n - length g.main) ≡ n = omega arith in
    subst (λ (j : ℕ). HasLine j s) i (steps_fit g.vars (n - length g.main) g.main g.steps s few all r h e)
