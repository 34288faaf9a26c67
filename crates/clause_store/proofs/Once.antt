-- How often a variable stands in a list.
use Rattle.std.proofs.Common.{◌≡◌, ◌≢◌, ℕ, zero, suc, ◌+◌, ◌<◌, ◌≤◌, Bool, true, false, List, [], ◌∷◌, ◌++◌, length, map, refl, sym, ap, ◌∙◌, arith}
use Rattle.std.specs.Prelude.{slice_index, slice_index_or, nat_eq, if◌then◌else◌, AllPairs}
use Rattle.std.proofs.lemmas.Bool.Decides.{nat_tests}
use Rattle.clause_store.specs.declared.lit.Lit.{Lit}

-- how often the variable stands there
abbrev pub times_in : ℕ → List ℕ → ℕ
times_in z [] = 0
times_in z (x ∷ xs) = (if nat_eq z x then 1 else 0) + times_in z xs

-- each variable stands there at most once
abbrev pub IsOnce : List ℕ → Type 0
IsOnce xs = (z : ℕ) → times_in z xs ≤ 1

abbrev pub vars_of : List Lit → List ℕ
vars_of ls = map (λ (l : Lit). l.var) ls

pub times_append : (z : ℕ) (xs ys : List ℕ) → times_in z (xs ++ ys) ≡ times_in z xs + times_in z ys
times_append z [] ys = omega arith
times_append z (x ∷ xs) ys = omega (arith, times_append z xs ys)

vars_append : (ls ms : List Lit) → vars_of (ls ++ ms) ≡ vars_of ls ++ vars_of ms
vars_append [] ms = refl
vars_append (l ∷ ls) ms = ap (λ x. l.var ∷ x) (vars_append ls ms)

pub times_vars : (z : ℕ) (ls ms : List Lit) → times_in z (vars_of (ls ++ ms)) ≡ times_in z (vars_of ls) + times_in z (vars_of ms)
times_vars z ls ms = ap (times_in z) (vars_append ls ms) ∙ times_append z (vars_of ls) (vars_of ms)

-- one place alone
pub times_place : (z : ℕ) (xs : List ℕ) (k : ℕ) → k < length xs → times_in z (slice_index xs k ∷ []) ≤ times_in z xs
times_place z [] k lt = absurd (omega arith)
times_place z (x ∷ xs) zero lt = omega arith
times_place z (x ∷ xs) (suc k) lt = omega (arith, times_place z xs k (omega arith))

-- a variable that stands nowhere there
none_by : (z x : ℕ) (xs : List ℕ) (t : Bool) → nat_eq z x ≡ t → ((k : ℕ) → k < length (x ∷ xs) → slice_index (x ∷ xs) k ≡ z → ⊥) → times_in z xs ≡ 0 → (if t then 1 else 0) + times_in z xs ≡ 0
none_by z x xs true e h rest = absurd (h 0 (omega arith) (let s : z ≡ x = grind (arith, nat_tests) in sym s))
none_by z x xs false e h rest = omega (arith, rest)

pub times_none : (z : ℕ) (xs : List ℕ) → ((k : ℕ) → k < length xs → slice_index xs k ≡ z → ⊥) → times_in z xs ≡ 0
times_none z [] h = refl
times_none z (x ∷ xs) h = none_by z x xs (nat_eq z x) refl h (times_none z xs (λ k lt e. h (suc k) (omega arith) e))

same_test : (x : ℕ) → nat_eq x x ≡ true
same_test x = grind (arith, nat_tests)

times_own : (ls : List Lit) (k : ℕ) (d : Lit) → k < length ls → 1 ≤ times_in (slice_index_or ls k d).var (vars_of ls)
times_own [] k d lt = absurd (omega arith)
times_own (l ∷ ls) zero d lt = let e = ap (λ (t : Bool). (if t then 1 else 0) + times_in l.var (vars_of ls)) (same_test l.var) in omega arith
times_own (l ∷ ls) (suc k) d lt = let h = times_own ls k d (omega arith) in omega arith

-- then any two places have different variables
pub pairs_apart : (ls : List Lit) → IsOnce (vars_of ls) → AllPairs (λ (a b : Lit). a.var ≢ b.var) ls
pairs_apart [] h i j d lt hj = absurd (omega arith)
pairs_apart (l ∷ ls) h i zero d lt hj = absurd (omega arith)
pairs_apart (l ∷ ls) h zero (suc j) d lt hj = λ e.
    let one = times_own ls j d (omega arith) in
    let two = h l.var in
    let f = ap (λ (t : Bool). (if t then 1 else 0) + times_in l.var (vars_of ls)) (same_test l.var) in
    let g : times_in (slice_index_or ls j d).var (vars_of ls) ≡ times_in l.var (vars_of ls) = ap (λ z. times_in z (vars_of ls)) (sym e) in
    omega arith
pairs_apart (l ∷ ls) h (suc i) (suc j) d lt hj = pairs_apart ls (λ z. let x = h z in omega arith) i j d (omega arith) (omega arith)
