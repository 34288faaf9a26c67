-- Distinct variables of lists that are joined.
use Rattle.std.proofs.Common.{Bool, true, false, zero, suc, ◌∷◌, ◌≡◌, ℕ, ◌+◌, ◌-◌, ◌<◌, ◌≤◌, inl, inr, List, [], ◌++◌, length, refl, sym, ◌∙◌, arith, length-append}
use Rattle.std.specs.Prelude.{slice_index, nat_eq, if◌then◌else◌}
use Rattle.std.proofs.lemmas.Bool.Decides.{leb_tells, nat_tests}
use Rattle.std.proofs.lemmas.List.{get_or_append_left, get_or-append_right}
use Rattle.clause_store.specs.Fresh.{fresh_vars}
use Rattle.clause_store.proofs.Once.{times_in, IsOnce, times_none}
use Rattle.totalizer.specs.Counter.{AreDistinct, AreFresh}

-- where a place of two joined lists lies
pub place_left : (xs ys : List ℕ) (k : ℕ) → k < length xs → slice_index (xs ++ ys) k ≡ slice_index xs k
place_left xs ys k lt = get_or_append_left xs ys 0 k lt

pub place_right : (xs ys : List ℕ) (k : ℕ) → length xs ≤ k → slice_index (xs ++ ys) k ≡ slice_index ys (k - length xs)
place_right xs ys k le = get_or-append_right xs ys (length xs) k 0 refl le

-- no variable of one list is one of the other
abbrev pub ShareNone : List ℕ → List ℕ → Type 0
ShareNone xs ys = (j k : ℕ) → j < length xs → k < length ys → slice_index xs j ≡ slice_index ys k → ⊥

pub distinct_append : (xs ys : List ℕ) → AreDistinct xs → AreDistinct ys → ShareNone xs ys → AreDistinct (xs ++ ys)
distinct_append xs ys f g apart j k hj hk e =
    let size = length-append xs ys in
    elim (leb_tells (length xs) j) [
      | inl a ↦ (let ja : length xs ≤ j = a.1 in
          let at_j = place_right xs ys j ja in
          elim (leb_tells (length xs) k) [
            | inl b ↦ (let kb : length xs ≤ k = b.1 in
                let same : j - length xs ≡ k - length xs = g (j - length xs) (k - length xs) (omega arith) (omega arith) (sym at_j ∙ e ∙ place_right xs ys k kb) in
                omega arith)
            | inr b ↦ absurd (apart k (j - length xs) b.1 (omega arith) (sym (place_left xs ys k b.1) ∙ sym e ∙ at_j))
          ])
      | inr a ↦ (let at_j = place_left xs ys j a.1 in
          elim (leb_tells (length xs) k) [
            | inl b ↦ (let kb : length xs ≤ k = b.1 in absurd (apart j (k - length xs) a.1 (omega arith) (sym at_j ∙ e ∙ place_right xs ys k kb)))
            | inr b ↦ f j k a.1 b.1 (sym at_j ∙ e ∙ place_left xs ys k b.1)
          ])
    ]

pub fresh_none : (v w : ℕ) → AreFresh v w []
fresh_none v w = record { above = λ k lt. absurd (omega arith); within = λ k lt. absurd (omega arith); distinct = λ j k hj hk e. absurd (omega arith) }

-- up to v, and then above it
pub fresh_append : (u v w : ℕ) (xs ys : List ℕ) → u ≤ v → v ≤ w → AreFresh u v xs → AreFresh v w ys → AreFresh u w (xs ++ ys)
fresh_append u v w xs ys le hi f g =
    let size = length-append xs ys in
    record {
      above = λ k lt. elim (leb_tells (length xs) k) [
        | inl a ↦ (let far : length xs ≤ k = a.1 in let y = g.above (k - length xs) (omega arith) in omega (arith, place_right xs ys k far))
        | inr a ↦ (let y = f.above k a.1 in omega (arith, place_left xs ys k a.1))
      ];
      within = λ k lt. elim (leb_tells (length xs) k) [
        | inl a ↦ (let far : length xs ≤ k = a.1 in let y = g.within (k - length xs) (omega arith) in omega (arith, place_right xs ys k far))
        | inr a ↦ (let y = f.within k a.1 in omega (arith, place_left xs ys k a.1))
      ];
      distinct = distinct_append xs ys f.distinct g.distinct (λ j k hj hk e. let a = f.within j hj in let b = g.above k hk in omega arith);
    }

-- taken apart: without the first
pub fresh_tail : (v w x : ℕ) (xs : List ℕ) → AreFresh v w (x ∷ xs) → AreFresh v w xs
fresh_tail v w x xs f = record {
  above = λ k lt. f.above (suc k) (omega arith);
  within = λ k lt. f.within (suc k) (omega arith);
  distinct = λ j k hj hk e. let s = f.distinct (suc j) (suc k) (omega arith) (omega arith) e in omega arith;
}

-- without a row of variables in front
pub fresh_rest : (v w u n : ℕ) (xs : List ℕ) → AreFresh v w (fresh_vars u n ++ xs) → AreFresh v w xs
fresh_rest v w u zero xs f = f
fresh_rest v w u (suc n) xs f = fresh_rest v w (u + 1) n xs (fresh_tail v w (u + 1) (fresh_vars (u + 1) n ++ xs) f)

-- distinct variables stand once each
once_by : (z x : ℕ) (xs : List ℕ) (t : Bool) → nat_eq z x ≡ t → AreDistinct (x ∷ xs) → times_in z xs ≤ 1 → (if t then 1 else 0) + times_in z xs ≤ 1
once_by z x xs true e h rest =
    let s : z ≡ x = grind (arith, nat_tests) in
    let n = times_none z xs (λ k lt is. let q : zero ≡ suc k = h zero (suc k) (omega arith) (omega arith) (sym s ∙ sym is) in omega arith) in
    omega arith
once_by z x xs false e h rest = omega (arith, rest)

pub once_of : (xs : List ℕ) → AreDistinct xs → IsOnce xs
once_of [] h z = omega arith
once_of (x ∷ xs) h z = once_by z x xs (nat_eq z x) refl h (once_of xs (λ j k hj hk e. let s : suc j ≡ suc k = h (suc j) (suc k) (omega arith) (omega arith) e in omega arith) z)
