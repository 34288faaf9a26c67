-- Lemmas on marks.
use Rattle.std.proofs.Common.{◌≡◌, ℕ, ◌+◌, ◌-◌, ◌<◌, ◌≤◌, Bool, true, false, List, [], ◌∷◌, ◌⊎◌, inl, inr, length, refl, ap, sym, ◌∙◌, subst, arith, get_or, set, zero, suc, map}
use Rattle.std.specs.Prelude.{Contains, nat_lt}
use Rattle.std.proofs.lemmas.Bool.{cases_eq, cases_lt, lt-ltb, le-ltb}
use Rattle.std.proofs.lemmas.List.{length-set, get_or-set_same, get_or-set_other, get_or_past}
use Rattle.derivation_log.specs.Marking.{mark, mark_all, AreBelow}

abbrev pub IsMarked : List Bool → ℕ → Type 0
IsMarked marks k = get_or marks k false ≡ true

-- what a list contains

pub contains_here : {X : Type 0} (x : X) (xs : List X) → Contains (x ∷ xs) x
contains_here x xs = (zero, omega arith, refl)

pub contains_later : {X : Type 0} (x y : X) (xs : List X) → Contains xs y → Contains (x ∷ xs) y
contains_later x y xs (k, lt, e) = (suc k, omega arith, e)

pub contains_first : {X : Type 0} (x y : X) (xs : List X) → Contains (x ∷ xs) y → (x ≡ y) ⊎ Contains xs y
contains_first x y xs (zero, lt, e) = inl e
contains_first x y xs (suc k, lt, e) = inr (k, omega arith, e)

pub contains_none : {X : Type 0} (y : X) → Contains [] y → ⊥
contains_none y (k, lt, e) = omega arith

pub contains_map : {X Y : Type 0} (f : X → Y) (xs : List X) (x : X) → Contains xs x → Contains (map f xs) (f x)
contains_map f [] x c = absurd (contains_none x c)
contains_map f (y ∷ ys) x c = elim (contains_first y x ys c) [
  | inl e ↦ subst (λ z. Contains (f y ∷ map f ys) (f z)) e (contains_here (f y) (map f ys))
  | inr d ↦ contains_later (f y) (f x) (map f ys) (contains_map f ys x d)
]

pub below_at : (bound : ℕ) (ns : List ℕ) (n : ℕ) → AreBelow bound ns → Contains ns n → n < bound
below_at bound [] n h c = absurd (contains_none n c)
below_at bound (m ∷ ms) n h c = elim (contains_first m n ms c) [ inl e ↦ subst (λ i. i < bound) e h.0 | inr d ↦ below_at bound ms n h.1 d ]

-- one mark

mark_main : (main n : ℕ) (marks : List Bool) → n < main → mark main n marks ≡ marks
mark_main main n marks h = let t : nat_lt n main ≡ true = lt-ltb n main h in rw t refl

mark_step : (main n : ℕ) (marks : List Bool) → main ≤ n → mark main n marks ≡ set marks (n - main) true
mark_step main n marks h = let t : nat_lt n main ≡ false = le-ltb n main h in rw t refl

pub mark_length : (main n : ℕ) (marks : List Bool) → length (mark main n marks) ≡ length marks
mark_length main n marks = elim (cases_lt n main) [
  | inl h ↦ ap (λ (ms : List Bool). length ms) (mark_main main n marks h)
  | inr h ↦ ap (λ (ms : List Bool). length ms) (mark_step main n marks h) ∙ length-set marks (n - main) true
]

marked_within : (marks : List Bool) (k : ℕ) → IsMarked marks k → k < length marks
marked_within marks k m = elim (cases_lt k (length marks)) [ inl h ↦ h | inr h ↦ (let e = get_or_past marks k false h in absurd (cc)) ]

set_grows : (marks : List Bool) (i k : ℕ) → IsMarked marks k → IsMarked (set marks i true) k
set_grows marks i k m = elim (cases_eq k i) [
  | inl e ↦ subst (λ j. IsMarked (set marks i true) j) (sym e) (get_or-set_same marks i true false (subst (λ j. j < length marks) e (marked_within marks k m)))
  | inr n ↦ get_or-set_other marks i k true false n ∙ m
]

set_only : (marks : List Bool) (i k : ℕ) → IsMarked (set marks i true) k → IsMarked marks k ⊎ (k ≡ i)
set_only marks i k m = elim (cases_eq k i) [
  | inl e ↦ inr e
  | inr n ↦ inl (sym (get_or-set_other marks i k true false n) ∙ m)
]

mark_grows : (main n : ℕ) (marks : List Bool) (k : ℕ) → IsMarked marks k → IsMarked (mark main n marks) k
mark_grows main n marks k m = elim (cases_lt n main) [
  | inl h ↦ subst (λ ms. IsMarked ms k) (sym (mark_main main n marks h)) m
  | inr h ↦ subst (λ ms. IsMarked ms k) (sym (mark_step main n marks h)) (set_grows marks (n - main) k m)
]

mark_self : (main n : ℕ) (marks : List Bool) → main ≤ n → n < main + length marks → IsMarked (mark main n marks) (n - main)
mark_self main n marks h lt = subst (λ ms. IsMarked ms (n - main)) (sym (mark_step main n marks h)) (get_or-set_same marks (n - main) true false (omega arith))

mark_only : (main n : ℕ) (marks : List Bool) (k : ℕ) → IsMarked (mark main n marks) k → IsMarked marks k ⊎ (n ≡ main + k)
mark_only main n marks k m = elim (cases_lt n main) [
  | inl h ↦ inl (subst (λ ms. IsMarked ms k) (mark_main main n marks h) m)
  | inr h ↦ elim (set_only marks (n - main) k (subst (λ ms. IsMarked ms k) (mark_step main n marks h) m)) [ inl a ↦ inl a | inr e ↦ inr (omega arith) ]
]

-- many marks

pub all_length : (main : ℕ) (ns : List ℕ) (marks : List Bool) → length (mark_all main ns marks) ≡ length marks
all_length main [] marks = refl
all_length main (n ∷ ns) marks = all_length main ns (mark main n marks) ∙ mark_length main n marks

pub all_grows : (main : ℕ) (ns : List ℕ) (marks : List Bool) (k : ℕ) → IsMarked marks k → IsMarked (mark_all main ns marks) k
all_grows main [] marks k m = m
all_grows main (n ∷ ns) marks k m = all_grows main ns (mark main n marks) k (mark_grows main n marks k m)

pub all_self : (main : ℕ) (ns : List ℕ) (marks : List Bool) (n : ℕ) → Contains ns n → main ≤ n → n < main + length marks → IsMarked (mark_all main ns marks) (n - main)
all_self main [] marks n c h lt = absurd (contains_none n c)
all_self main (m ∷ ms) marks n c h lt = elim (contains_first m n ms c) [
  | inl e ↦ all_grows main ms (mark main m marks) (n - main) (subst (λ i. IsMarked (mark main i marks) (n - main)) (sym e) (mark_self main n marks h lt))
  | inr d ↦ all_self main ms (mark main m marks) n d h (let l = mark_length main m marks in omega arith)
]

pub all_only : (main : ℕ) (ns : List ℕ) (marks : List Bool) (k : ℕ) → IsMarked (mark_all main ns marks) k → IsMarked marks k ⊎ Contains ns (main + k)
all_only main [] marks k m = inl m
all_only main (n ∷ ns) marks k m = elim (all_only main ns (mark main n marks) k m) [
  | inl a ↦ elim (mark_only main n marks k a) [ inl b ↦ inl b | inr e ↦ inr (subst (λ i. Contains (n ∷ ns) i) e (contains_here n ns)) ]
  | inr d ↦ inr (contains_later n (main + k) ns d)
]
