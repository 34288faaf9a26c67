-- Lemmas on a list that is cut at ends.
use Rattle.std.proofs.Common.{◌≡◌, ℕ, ◌+◌, ◌-◌, ◌<◌, ◌≤◌, List, [], ◌∷◌, ◌++◌, length, refl, ap, sym, ◌∙◌, arith, get_or, zero, suc, Some}
use Rattle.std.specs.Prelude.{slice_get, slice_range}
use Rattle.std.proofs.lemmas.Grind.{common_steps}
use Rattle.clause_store.specs.declared.lit.Lit.{Lit}
use Rattle.clause_store.specs.Clauses.{cut, Rise, start_at}

pub length-cut : (from : ℕ) (ends : List ℕ) (lits : List Lit) → length (cut from ends lits) ≡ length ends
length-cut from [] lits = refl
length-cut from (e ∷ es) lits = ap (λ (n : ℕ). suc n) (length-cut e es lits)

pub get-cut : (from : ℕ) (ends : List ℕ) (lits : List Lit) (k : ℕ) → k < length ends → slice_get (cut from ends lits) k ≡ Some (slice_range lits (start_at from ends k) (get_or ends k 0))
get-cut from [] lits k h = absurd (omega arith)
get-cut from (e ∷ es) lits zero h = refl
get-cut from (e ∷ es) lits (suc k) h = get-cut e es lits k (omega arith)

pub start_at-pred : (from : ℕ) (ends : List ℕ) (k : ℕ) → k < length ends → start_at from ends (suc k) ≡ get_or ends k 0
start_at-pred from [] k h = absurd (omega arith)
start_at-pred from (e ∷ es) zero h = refl
start_at-pred from (e ∷ es) (suc k) h = start_at-pred e es k (omega arith)

pub Rise-end : (from : ℕ) (ends : List ℕ) (all : ℕ) → Rise from ends all → from ≤ all
Rise-end from [] all r = omega (arith, r)
Rise-end from (e ∷ es) all r = omega (arith, r.0, Rise-end e es all r.1)

pub record Bounds (from : ℕ) (ends : List ℕ) (all k : ℕ) : Type 0 where
  pub start : start_at from ends k ≤ get_or ends k 0
  pub end : get_or ends k 0 ≤ all

pub Rise-bounds : (from : ℕ) (ends : List ℕ) (all k : ℕ) → Rise from ends all → k < length ends → Bounds from ends all k
Rise-bounds from [] all k r h = absurd (omega arith)
Rise-bounds from (e ∷ es) all zero r h = record { start = r.0; end = Rise-end e es all r.1 }
Rise-bounds from (e ∷ es) all (suc k) r h = let b = Rise-bounds e es all k r.1 (omega arith) in record { start = b.start; end = b.end }

-- a piece within the front is that of the front
pub range-front : (xs ys : List Lit) (i j : ℕ) → i ≤ j → j ≤ length xs → slice_range (xs ++ ys) i j ≡ slice_range xs i j
range-front xs ys i j h k = grind (arith, common_steps)

range-back : (xs ys : List Lit) → slice_range (xs ++ ys) (length xs) (length xs + length ys) ≡ ys
range-back xs ys = grind (arith, common_steps)

pub cut-push : (from : ℕ) (ends : List ℕ) (xs ys : List Lit) → Rise from ends (length xs) → cut from (ends ++ (length xs + length ys) ∷ []) (xs ++ ys) ≡ cut from ends xs ++ ys ∷ []
cut-push from [] xs ys r = ap (λ (z : List Lit). z ∷ []) (ap (λ (n : ℕ). slice_range (xs ++ ys) n (length xs + length ys)) r ∙ range-back xs ys)
cut-push from (e ∷ es) xs ys r =
    let one = range-front xs ys from e r.0 (Rise-end e es (length xs) r.1) in
    let rest = cut-push e es xs ys r.1 in cc

pub Rise-push : (from : ℕ) (ends : List ℕ) (all more : ℕ) → Rise from ends all → Rise from (ends ++ (all + more) ∷ []) (all + more)
Rise-push from [] all more r = (omega (arith, r), refl)
Rise-push from (e ∷ es) all more r = (r.0, Rise-push e es all more r.1)

pub start_at-before : (from : ℕ) (ends : List ℕ) (k : ℕ) → (k ≡ 0 → ⊥) → k < length ends → get_or ends (k - 1) 0 ≡ start_at from ends k
start_at-before from ends zero n h = absurd (n refl)
start_at-before from ends (suc k) n h = let e : suc k - 1 ≡ k = omega arith in rw e (sym (start_at-pred from ends k (omega arith)))
