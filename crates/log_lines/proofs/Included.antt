-- Clauses that include others.
use Rattle.std.proofs.Common.{◌≡◌, ℕ, zero, suc, ◌<◌, ◌≤◌, ◌-◌, length, Bool, true, false, List, [], ◌∷◌, refl, ap, sym, ◌∙◌, subst, arith, inl, inr}
use Rattle.std.specs.Prelude.{Contains, ◌||◌, None, Some, slice_get}
use Rattle.std.specs.List.{list_any}
use Rattle.std.proofs.lemmas.Bool.Decides.{nat_tests}
use Rattle.clause_store.specs.declared.lit.Lit.{Lit}
use Rattle.clause_store.specs.Lits.{has, same_lit, rank_of, InRange}
use Rattle.clause_store.proofs.Lits.{rank_lit}
use Rattle.clause_store.proofs.Truths.{and_left, and_right, or_left, or_right, or_cases}
use Rattle.log_lines.specs.Spending.{includes}
use Rattle.derivation_log.proofs.Marks.{contains_later, contains_first}

same : (l m : Lit) → same_lit l m ≡ true → l ≡ m
same l m e = rank_lit l m (let r : rank_of l ≡ rank_of m = grind (arith, nat_tests) in r)

self : (l m : Lit) → m ≡ l → same_lit l m ≡ true
self l m e = (let r : rank_of l ≡ rank_of m = ap rank_of (sym e) in grind (arith, nat_tests))

pub contains_has : (l : Lit) (ls : List Lit) → Contains ls l → has l ls ≡ true
contains_has l [] h = absurd (omega (arith, h.1))
contains_has l (m ∷ ls) h =
    elim (contains_first m l ls h) [
      | inl e ↦ or_left (same_lit l m) (has l ls) (self l m e)
      | inr e ↦ or_right (same_lit l m) (has l ls) (contains_has l ls e)
    ]

pub has_contains : (l : Lit) (ls : List Lit) → has l ls ≡ true → Contains ls l
has_contains l [] h = absurd (cc)
has_contains l (m ∷ ls) h =
    elim (or_cases (same_lit l m) (has l ls) h) [
      | inl e ↦ (zero, omega arith, sym (same l m e))
      | inr e ↦ contains_later m l ls (has_contains l ls e)
    ]

pub has_within : (l : Lit) (ls : List Lit) (v : ℕ) → has l ls ≡ true → InRange v ls → l.var ≤ v
has_within l [] v h r = absurd (cc)
has_within l (m ∷ ls) v h r =
    elim (or_cases (same_lit l m) (has l ls) h) [
      | inl e ↦ subst (λ (n : Lit). n.var ≤ v) (sym (same l m e)) r.0.1
      | inr e ↦ has_within l ls v e r.1
    ]

pub included : (d c : List Lit) (l : Lit) → includes d c ≡ true → has l c ≡ true → has l d ≡ true
included d [] l i h = absurd (cc)
included d (m ∷ c) l i h =
    elim (or_cases (same_lit l m) (has l c) h) [
      | inl e ↦ subst (λ (n : Lit). has n d ≡ true) (sym (same l m e)) (and_left (has m d) (includes d c) i)
      | inr e ↦ included d c l (and_right (has m d) (includes d c) i) e
    ]

pub any_has : {X : Type 0} (p : X → Bool) (xs : List X) (x : X) → Contains xs x → p x ≡ true → list_any p xs ≡ true
any_has p [] x c h = absurd (omega (arith, c.1))
any_has p (y ∷ xs) x c h =
    elim (contains_first y x xs c) [
      | inl e ↦ or_left (p y) (list_any p xs) (ap p e ∙ h)
      | inr e ↦ or_right (p y) (list_any p xs) (any_has p xs x e h)
    ]

pub none_has : {X : Type 0} (p : X → Bool) (xs : List X) → ((x : X) → Contains xs x → p x ≡ true → ⊥) → list_any p xs ≡ false
none_has p [] h = refl
none_has p (y ∷ xs) h = first_none (p y) (list_any p xs) (λ e. h y (zero, omega arith, refl) e) (none_has p xs (λ x c e. h x (contains_later y x xs c) e))
  where
    first_none : (a b : Bool) → (a ≡ true → ⊥) → b ≡ false → (a || b) ≡ false
    first_none true b n e = absurd (n refl)
    first_none false b n e = e

pub at_has : (c : List Lit) (k : ℕ) (l : Lit) → Some l ≡ slice_get c k → has l c ≡ true
at_has [] k l e = absurd (cc)
at_has (m ∷ c) zero l e = or_left (same_lit l m) (has l c) (self l m (let one : m ≡ l = cc in one))
at_has (m ∷ c) (suc k) l e = or_right (same_lit l m) (has l c) (at_has c k l e)

none_at : (c : List Lit) (k : ℕ) → None ≡ slice_get c k → k < length c → ⊥
none_at [] k e lt = omega arith
none_at (m ∷ c) zero e lt = absurd (cc)
none_at (m ∷ c) (suc k) e lt = none_at c k e (omega arith)

-- a clause without a last literal is empty
pub none_last : (c : List Lit) → None ≡ slice_get c (length c - 1) → c ≡ []
none_last [] e = refl
none_last (m ∷ c) e = absurd (none_at (m ∷ c) (length (m ∷ c) - 1) e (omega arith))
