-- Lemmas on what holds of each element.
use Rattle.std.proofs.Common.{◌≡◌, ℕ, ◌<◌, List, [], ◌∷◌, ◌++◌, length, arith, zero, suc, Some, subst}
use Rattle.std.specs.Prelude.{slice_get, slice_index_or, All}
use Rattle.std.specs.List.{AllByRecursion}

pub each_push : {X : Type 0} (P : X → Type 0) (xs : List X) (x : X) → AllByRecursion P xs → P x → AllByRecursion P (xs ++ x ∷ [])
each_push P [] x h p = (p, tt)
each_push P (y ∷ ys) x h p = (h.0, each_push P ys x h.1 p)

pub each_append : {X : Type 0} (P : X → Type 0) (xs ys : List X) → AllByRecursion P xs → AllByRecursion P ys → AllByRecursion P (xs ++ ys)
each_append P [] ys h k = k
each_append P (x ∷ xs) ys h k = (h.0, each_append P xs ys h.1 k)

pub each_at : {X : Type 0} (P : X → Type 0) (xs : List X) (k : ℕ) (x : X) → AllByRecursion P xs → slice_get xs k ≡ Some x → P x
each_at P [] k x h e = absurd (cc)
each_at P (y ∷ ys) zero x h e = let f : y ≡ x = cc in subst P f h.0
each_at P (y ∷ ys) (suc k) x h e = each_at P ys k x h.1 e

-- the same, by index
pub each_index : {X : Type 0} (P : X → Type 0) (xs : List X) → AllByRecursion P xs → All P xs
each_index P [] h = λ k d lt. absurd (omega arith)
each_index {X = X} P (x ∷ xs) h = λ k. elim k as (λ j. (d : X) → j < length (x ∷ xs) → P (slice_index_or (x ∷ xs) j d)) [ zero ↦ λ d lt. h.0 | suc j ↦ λ d lt. each_index P xs h.1 j d (omega arith) ]

pub each_of_index : {X : Type 0} (P : X → Type 0) (xs : List X) → All P xs → AllByRecursion P xs
each_of_index P [] h = tt
each_of_index P (x ∷ xs) h = (h 0 x (omega arith), each_of_index P xs (λ k d lt. h (suc k) d (omega arith)))

pub each_place : {X : Type 0} (P : X → Type 0) (xs : List X) (k : ℕ) (d : X) → AllByRecursion P xs → k < length xs → P (slice_index_or xs k d)
each_place P xs k d h lt = each_index P xs h k d lt
