-- Lists by place.
use Rattle.std.proofs.Common.{◌≡◌, ℕ, zero, suc, ◌+◌, ◌<◌, ◌≤◌, ◌⊎◌, inl, inr, List, [], ◌∷◌, ◌++◌, length, take, Option, None, Some, refl, ap, sym, subst, arith, length-append}
use Rattle.std.specs.Prelude.{slice_get}
use Rattle.std.proofs.lemmas.Option.{slice_get_within}
use Rattle.derivation_log.specs.Logs.{Log}
use Rattle.cdcl_core.specs.Replies.{IsLonger}
use Rattle.merge_encoding.specs.Claims.{Assertion}
use Rattle.distance_search.specs.Setting.{Setting}
use Rattle.distance_search.specs.Results.{IsProven, AreProven}
use Rattle.distance_search.proofs.Logs.{shows_on}

-- what stands in a list to which one element was added
pub get_pushed : {X : Type 0} (xs : List X) (y x : X) (i : ℕ) → slice_get (xs ++ y ∷ []) i ≡ Some x → (slice_get xs i ≡ Some x) ⊎ ((i ≡ length xs) × (x ≡ y))
get_pushed [] y x zero e = inr (refl, cc)
get_pushed [] y x (suc i) e = absurd (cc)
get_pushed (z ∷ xs) y x zero e = inl e
get_pushed (z ∷ xs) y x (suc i) e = elim (get_pushed xs y x i e) [ inl h ↦ inl h | inr h ↦ inr (ap suc h.0, h.1) ]

pub get_front : {X : Type 0} (n i : ℕ) (xs : List X) (x : X) → slice_get (take n xs) i ≡ Some x → (slice_get xs i ≡ Some x) × (i < n)
get_front zero i xs x e = absurd (cc)
get_front (suc n) i [] x e = absurd (cc)
get_front (suc n) zero (y ∷ xs) x e = (e, omega arith)
get_front (suc n) (suc i) (y ∷ xs) x e = let h = get_front n i xs x e in (h.0, omega (arith, h.1))

pub take_less : {X : Type 0} (i j : ℕ) (xs ys : List X) → i ≤ j → take j xs ≡ take j ys → take i xs ≡ take i ys
take_less zero j xs ys h e = refl
take_less (suc i) zero xs ys h e = absurd (omega arith)
take_less (suc i) (suc j) [] [] h e = refl
take_less (suc i) (suc j) [] (y ∷ ys) h e = absurd (cc)
take_less (suc i) (suc j) (x ∷ xs) [] h e = absurd (cc)
take_less (suc i) (suc j) (x ∷ xs) (y ∷ ys) h e =
    let rest : take j xs ≡ take j ys = cc in
    let ih = take_less i j xs ys (omega arith) rest in
    cc

-- what shows a number in a log shows it in a longer one
pub proven_on : (s : Setting) (a b : Log) (k : ℕ) (claim : Assertion) (step : Option ℕ) → IsLonger a b → IsProven s a k claim step → IsProven s b k claim step
proven_on s a b k claim None g h = h
proven_on s a b k claim (Some n) g h = (h.0, shows_on s a b n claim g h.1)

pub all_proven_on : (s : Setting) (a b : Log) (claim : ℕ → ℕ → Assertion) (ks : List ℕ) (fs : List (Option ℕ)) → IsLonger a b → AreProven s a claim ks fs → AreProven s b claim ks fs
all_proven_on s a b claim ks fs g h = record { count = h.count; each = λ i k f ek ef. proven_on s a b k (claim i k) f g (h.each i k f ek ef) }

-- one number more, with its step
pub one_proven : (s : Setting) (log : Log) (claim : ℕ → ℕ → Assertion) (ks : List ℕ) (fs : List (Option ℕ)) (k : ℕ) (f : Option ℕ) → AreProven s log claim ks fs → IsProven s log k (claim (length ks) k) f → AreProven s log claim (ks ++ k ∷ []) (fs ++ f ∷ [])
one_proven s log claim ks fs k f h p = record {
  count = omega (arith, length-append ks (k ∷ []), length-append fs (f ∷ []), h.count);
  each = λ i n g en eg. at i n g (get_pushed ks k n i en) (get_pushed fs f g i eg);
}
  where
    at : (i n : ℕ) (g : Option ℕ) → (slice_get ks i ≡ Some n) ⊎ ((i ≡ length ks) × (n ≡ k)) → (slice_get fs i ≡ Some g) ⊎ ((i ≡ length fs) × (g ≡ f)) → IsProven s log n (claim i n) g
    at i n g (inl a) (inl b) = h.each i n g a b
    at i n g (inl a) (inr b) = absurd (omega (arith, slice_get_within ks i n a, b.0, h.count))
    at i n g (inr a) (inl b) = absurd (omega (arith, slice_get_within fs i g b, a.0, h.count))
    at i n g (inr a) (inr b) =
        subst (λ x. IsProven s log n (claim i n) x) (sym b.1)
        (subst (λ x. IsProven s log x (claim i x) f) (sym a.1)
        (subst (λ x. IsProven s log k (claim x k) f) (sym a.0) p))
