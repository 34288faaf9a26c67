-- Variables one after another.
use Rattle.std.proofs.Common.{◌≡◌, ℕ, zero, suc, ◌+◌, ◌<◌, ◌≤◌, [], ◌∷◌, ◌++◌, length, refl, ap, ◌∙◌, arith, add-one, All}
use Rattle.std.specs.Prelude.{slice_index}
use Rattle.std.proofs.lemmas.List.Elements.{All-nil, All-cons}
use Rattle.clause_store.specs.Lits.{InRange}
use Rattle.clause_store.specs.Fresh.{fresh_vars, fresh_lits}

pub length-fresh_vars : (v n : ℕ) → length (fresh_vars v n) ≡ n
length-fresh_vars v zero = refl
length-fresh_vars v (suc n) = omega (arith, length-fresh_vars (v + 1) n)

pub index_fresh_vars : (v n k : ℕ) → k < n → slice_index (fresh_vars v n) k ≡ v + k + 1
index_fresh_vars v zero k lt = absurd (omega arith)
index_fresh_vars v (suc n) zero lt = omega arith
index_fresh_vars v (suc n) (suc k) lt = let e = index_fresh_vars (v + 1) n k (omega arith) in e ∙ omega arith

one_more : (v n : ℕ) → fresh_vars v (suc n) ≡ fresh_vars v n ++ (v + n + 1) ∷ []
one_more v zero = let e : v + 1 ≡ v + 0 + 1 = omega arith in ap (λ x. x ∷ []) e
one_more v (suc n) =
    let e : v + 1 + n + 1 ≡ v + suc n + 1 = omega arith in
    ap (λ xs. (v + 1) ∷ xs) (one_more (v + 1) n ∙ ap (λ x. fresh_vars (v + 1) n ++ x ∷ []) e)

-- with one more variable
pub fresh_vars_next : (v n : ℕ) → fresh_vars v (n + 1) ≡ fresh_vars v n ++ (v + n + 1) ∷ []
fresh_vars_next v n = rw (add-one n) (one_more v n)

pub fresh_vars_positive : (v n : ℕ) → All (λ x. 1 ≤ x) (fresh_vars v n)
fresh_vars_positive v zero = All-nil (λ x. 1 ≤ x)
fresh_vars_positive v (suc n) = All-cons (λ x. 1 ≤ x) (v + 1) (fresh_vars (v + 1) n) (omega arith) (fresh_vars_positive (v + 1) n)

pub length-fresh_lits : (v n : ℕ) → length (fresh_lits v n) ≡ n
length-fresh_lits v zero = refl
length-fresh_lits v (suc n) = omega (arith, length-fresh_lits (v + 1) n)

pub fresh_lits_in : (v n w : ℕ) → v + n ≤ w → InRange w (fresh_lits v n)
fresh_lits_in v zero w h = tt
fresh_lits_in v (suc n) w h = ((omega arith, omega arith), fresh_lits_in (v + 1) n w (omega arith))
