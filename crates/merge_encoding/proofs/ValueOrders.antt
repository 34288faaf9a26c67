-- The lexicographic order of lists of numbers, and places at which a list is better.
use Rattle.std.proofs.Common.{◌≡◌, ℕ, zero, suc, ◌<◌, ◌≤◌, inl, inr, false, List, [], ◌∷◌, length, take, refl, sym, subst, arith}
use Rattle.std.specs.Prelude.{slice_index}
use Rattle.std.specs.Cmp.Lexicographic.{slice_cmp}
use Rattle.std.specs.Ordering.{is_gt, nat_cmp}
use Rattle.std.proofs.lemmas.Bool.Decides.{nat_tests}
use Rattle.std.proofs.lemmas.Cmp.{upto, nat_list_cmp_total}
use Rattle.merge_encoding.specs.Claims.{AreUpTo, IsBetterAt}
use Rattle.ranks.proofs.Orders.{three}

abbrev pub NotAbove : List ℕ → List ℕ → Type 0
NotAbove us vs = is_gt (slice_cmp nat_cmp us vs) ≡ false

less_first : (a b : ℕ) (us vs : List ℕ) → a < b → NotAbove (a ∷ us) (b ∷ vs)
less_first a b us vs h = grind (arith, nat_tests)

same_first : (a : ℕ) (us vs : List ℕ) → NotAbove us vs → NotAbove (a ∷ us) (a ∷ vs)
same_first a us vs h = grind (arith, nat_tests)

first_le : (a b : ℕ) (us vs : List ℕ) → NotAbove (a ∷ us) (b ∷ vs) → a ≤ b
first_le a b us vs h = grind (arith, nat_tests)

rest_of : (a : ℕ) (us vs : List ℕ) → NotAbove (a ∷ us) (a ∷ vs) → NotAbove us vs
rest_of a us vs h = grind (arith, nat_tests)

-- lists of one length, neither above the other, are one
pub one_list : (us vs : List ℕ) → length us ≡ length vs → NotAbove us vs → NotAbove vs us → us ≡ vs
one_list [] [] e h k = refl
one_list [] (b ∷ vs) e h k = absurd (omega arith)
one_list (a ∷ us) [] e h k = absurd (omega arith)
one_list (a ∷ us) (b ∷ vs) e h k =
    let same : a ≡ b = omega (arith, first_le a b us vs h, first_le b a vs us k) in
    let hs : NotAbove us vs = rest_of a us vs (subst (λ (x : ℕ). NotAbove (a ∷ us) (x ∷ vs)) (sym same) h) in
    let ks : NotAbove vs us = rest_of a vs us (subst (λ (x : ℕ). NotAbove (x ∷ vs) (a ∷ us)) (sym same) k) in
    let rest = one_list us vs (omega arith) hs ks in
    cc

pub up_to_lex : (us vs : List ℕ) → AreUpTo us vs → NotAbove us vs
up_to_lex [] [] h = refl
up_to_lex [] (b ∷ vs) h = absurd h
up_to_lex (a ∷ us) [] h = absurd h
up_to_lex (a ∷ us) (b ∷ vs) h =
    elim (three a b) [
      | inl l ↦ less_first a b us vs l
      | inr r ↦ (elim r [
        | inl e ↦ subst (λ (x : ℕ). NotAbove (a ∷ us) (x ∷ vs)) e (same_first a us vs (up_to_lex us vs h.1))
        | inr g ↦ absurd (omega (arith, h.0))
      ])
    ]

-- where no place is better, nothing is lexicographically below
pub no_first_lower : (us vals : List ℕ) → length us ≡ length vals → ((j : ℕ) → j < length vals → IsBetterAt j us vals → ⊥) → NotAbove vals us
no_first_lower [] [] e h = refl
no_first_lower [] (v ∷ vals) e h = absurd (omega arith)
no_first_lower (u ∷ us) [] e h = absurd (omega arith)
no_first_lower (u ∷ us) (v ∷ vals) e h =
    elim (three u v) [
      | inl l ↦ absurd (h zero (omega arith) l)
      | inr r ↦ (elim r [
        | inl same ↦ subst (λ (x : ℕ). NotAbove (v ∷ vals) (x ∷ us)) (sym same) (same_first v vals us (no_first_lower us vals (omega arith) (λ j lt b. h (suc j) (omega arith) (omega arith, b))))
        | inr g ↦ less_first v u vals us g
      ])
    ]

-- a better list is below
pub better_is_below : (j : ℕ) (us vals : List ℕ) → IsBetterAt j us vals → NotAbove vals us → ⊥
better_is_below j [] vals b h = b
better_is_below j (u ∷ us) [] b h = b
better_is_below zero (u ∷ us) (v ∷ vals) b h = omega (arith, first_le v u vals us h)
better_is_below (suc j) (u ∷ us) (v ∷ vals) b h =
    let same : v ≡ u = omega (arith, b.0, first_le v u vals us h) in
    better_is_below j us vals b.1 (rest_of v vals us (subst (λ (x : ℕ). NotAbove (v ∷ vals) (x ∷ us)) (sym same) h))

-- only the values up to the place count
pub better_before : (j : ℕ) (us vals others : List ℕ) → take (suc j) vals ≡ take (suc j) others → IsBetterAt j us vals → IsBetterAt j us others
better_before j [] vals others e b = absurd b
better_before j (u ∷ us) [] others e b = absurd b
better_before j (u ∷ us) (v ∷ vals) [] e b = absurd (cc)
better_before zero (u ∷ us) (v ∷ vals) (o ∷ others) e b = let same : v ≡ o = cc in subst (λ (x : ℕ). u < x) same b
better_before (suc j) (u ∷ us) (v ∷ vals) (o ∷ others) e b =
    let same : v ≡ o = cc in
    let rest : take (suc j) vals ≡ take (suc j) others = cc in
    (subst (λ (x : ℕ). u ≤ x) same b.0, better_before j us vals others rest b.1)

-- where no earlier place is better, a list that is better at a place has the values before it
pub kept_before : (j : ℕ) (us vals : List ℕ) → ((i : ℕ) → i < j → IsBetterAt i us vals → ⊥) → IsBetterAt j us vals → take j us ≡ take j vals
kept_before j [] vals h b = absurd b
kept_before j (u ∷ us) [] h b = absurd b
kept_before zero (u ∷ us) (v ∷ vals) h b = refl
kept_before (suc j) (u ∷ us) (v ∷ vals) h b =
    let same : u ≡ v = elim (three u v) [ inl l ↦ absurd (h zero (omega arith) l) | inr r ↦ (elim r [ inl e ↦ e | inr g ↦ absurd (omega (arith, b.0)) ]) ] in
    let rest = kept_before j us vals (λ i lt k. h (suc i) (omega arith) (b.0, k)) b.1 in
    cc

-- nothing is better at a place whose value is 0
pub none_below_zero : (j : ℕ) (us vals : List ℕ) → slice_index vals j ≡ 0 → IsBetterAt j us vals → ⊥
none_below_zero j [] vals e b = b
none_below_zero j (u ∷ us) [] e b = b
none_below_zero zero (u ∷ us) (v ∷ vals) e b = omega arith
none_below_zero (suc j) (u ∷ us) (v ∷ vals) e b = none_below_zero j us vals e b.1

pub up_itself : (us : List ℕ) → AreUpTo us us
up_itself [] = tt
up_itself (u ∷ us) = (omega arith, up_itself us)

pub chained : (xs ys zs : List ℕ) → NotAbove xs ys → NotAbove ys zs → NotAbove xs zs
chained xs ys zs h k = upto nat_list_cmp_total xs ys zs h k
