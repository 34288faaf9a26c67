-- Membership in a list, the least number of a list, and membership in the list of all valuations.
use Rattle.std.proofs.Common.{◌≡◌, ℕ, zero, suc, ◌≤◌, Bool, true, false, List, [], ◌∷◌, ◌++◌, length, map, filter, refl, ap, sym, subst, ◌∙◌, arith, ◌⊎◌, inl, inr, cond, All}
use Rattle.std.proofs.lemmas.List.Elements.{All-cons, All-nil, All-head, All-tail}
use Rattle.formulas.specs.declared.formula.Formula.{Formula}
use Rattle.formulas.specs.Formulas.{holds}
use Rattle.formulas.specs.Words.{all_words}
use Rattle.merge_model.specs.Merging.{IsModel, models_of, least_of}

-- x is an element
abbrev pub Among : {X : Type 0} → X → List X → Type 0
Among x [] = ⊥
Among x (y ∷ ys) = (x ≡ y) ⊎ Among x ys

pub least_le : (x : ℕ) (xs : List ℕ) → Among x xs → least_of xs ≤ x
least_le x [] h = absurd h
least_le x (y ∷ []) (inl e) = omega arith
least_le x (y ∷ []) (inr h) = absurd h
least_le x (y ∷ z ∷ zs) (inl e) = omega arith
least_le x (y ∷ z ∷ zs) (inr h) = omega (arith, least_le x (z ∷ zs) h)

pub among_map : {X Y : Type 0} (f : X → Y) (x : X) (xs : List X) → Among x xs → Among (f x) (map f xs)
among_map f x [] h = absurd h
among_map f x (y ∷ ys) (inl e) = inl (ap f e)
among_map f x (y ∷ ys) (inr h) = inr (among_map f x ys h)

pub from_map : {X Y : Type 0} (f : X → Y) (y : Y) (xs : List X) → Among y (map f xs) → (x : X) × Among x xs × (f x ≡ y)
from_map f y [] h = absurd h
from_map f y (x ∷ xs) (inl e) = (x, inl refl, sym e)
from_map f y (x ∷ xs) (inr h) = let r = from_map f y xs h in (r.0, inr r.1, r.2)

pub among_left : {X : Type 0} (x : X) (xs ys : List X) → Among x xs → Among x (xs ++ ys)
among_left x [] ys h = absurd h
among_left x (z ∷ xs) ys (inl e) = inl e
among_left x (z ∷ xs) ys (inr h) = inr (among_left x xs ys h)

pub among_right : {X : Type 0} (x : X) (xs ys : List X) → Among x ys → Among x (xs ++ ys)
among_right x [] ys h = h
among_right x (z ∷ xs) ys h = inr (among_right x xs ys h)

pub either_part : {X : Type 0} (x : X) (xs ys : List X) → Among x (xs ++ ys) → Among x xs ⊎ Among x ys
either_part x [] ys h = inr h
either_part x (z ∷ xs) ys (inl e) = inl (inl e)
either_part x (z ∷ xs) ys (inr h) = elim (either_part x xs ys h) [ inl a ↦ inl (inr a) | inr b ↦ inr b ]

pub among_kept : {X : Type 0} (b : Bool) (x y : X) (ys : List X) → (x ≡ y → b ≡ true) → (x ≡ y) ⊎ Among x ys → Among x (cond b (y ∷ ys) ys)
among_kept true x y ys h m = m
among_kept false x y ys h (inl e) = absurd (let bad = h e in cc)
among_kept false x y ys h (inr m) = m

pub among_filter : {X : Type 0} (p : X → Bool) (x : X) (xs : List X) → p x ≡ true → Among x xs → Among x (filter p xs)
among_filter p x [] t h = absurd h
among_filter p x (y ∷ ys) t (inl e) = among_kept (p y) x y (filter p ys) (λ i. ap p (sym i) ∙ t) (inl e)
among_filter p x (y ∷ ys) t (inr h) = among_kept (p y) x y (filter p ys) (λ i. ap p (sym i) ∙ t) (inr (among_filter p x ys t h))

pub kept_true : {X : Type 0} (b : Bool) (x y : X) (ys : List X) → Among x (cond b (y ∷ ys) ys) → ((x ≡ y) × (b ≡ true)) ⊎ Among x ys
kept_true true x y ys (inl e) = inl (e, refl)
kept_true true x y ys (inr h) = inr h
kept_true false x y ys h = inr h

pub from_filter : {X : Type 0} (p : X → Bool) (x : X) (xs : List X) → Among x (filter p xs) → Among x xs × (p x ≡ true)
from_filter p x [] h = absurd h
from_filter p x (y ∷ ys) h =
    elim (kept_true (p y) x y (filter p ys) h) [ inl a ↦ (inl a.0, ap p a.0 ∙ a.1) | inr b ↦ (let r = from_filter p x ys b in (inr r.0, r.1)) ]

pub among_words : (w : List Bool) → Among w (all_words (length w))
among_words [] = inl refl
among_words (false ∷ v) = among_left (false ∷ v) (map (λ u. false ∷ u) (all_words (length v))) (map (λ u. true ∷ u) (all_words (length v))) (among_map (λ u. false ∷ u) v (all_words (length v)) (among_words v))
among_words (true ∷ v) = among_right (true ∷ v) (map (λ u. false ∷ u) (all_words (length v))) (map (λ u. true ∷ u) (all_words (length v))) (among_map (λ u. true ∷ u) v (all_words (length v)) (among_words v))

pub words_size : (n : ℕ) (w : List Bool) → Among w (all_words n) → length w ≡ n
words_size zero w (inl e) = ap length e
words_size zero w (inr h) = absurd h
words_size (suc n) w h =
    elim (either_part w (map (λ u. false ∷ u) (all_words n)) (map (λ u. true ∷ u) (all_words n)) h) [
      | inl a ↦ (let r = from_map (λ u. false ∷ u) w (all_words n) a in sym (ap length r.2) ∙ ap suc (words_size n r.0 r.1))
      | inr b ↦ (let r = from_map (λ u. true ∷ u) w (all_words n) b in sym (ap length r.2) ∙ ap suc (words_size n r.0 r.1))
    ]

-- what holds of each element, place by place, and of each member
pub all_among : {X : Type 0} (P : X → Type 0) (xs : List X) → All P xs → (x : X) → Among x xs → P x
all_among P [] h x m = absurd m
all_among P (y ∷ ys) h x (inl e) = subst P (sym e) (All-head P y ys h)
all_among P (y ∷ ys) h x (inr m) = all_among P ys (All-tail P y ys h) x m

pub among_all : {X : Type 0} (P : X → Type 0) (xs : List X) → ((x : X) → Among x xs → P x) → All P xs
among_all P [] h = All-nil P
among_all P (y ∷ ys) h = All-cons P y ys (h y (inl refl)) (among_all P ys (λ x m. h x (inr m)))

-- the members of the list of models are the models
pub model_among : (n : ℕ) (f : Formula) (w : List Bool) → IsModel n f w → Among w (models_of n f)
model_among n f w m =
    among_filter (holds f) w (all_words n) m.true_there (subst (λ (k : ℕ). Among w (all_words k)) m.size (among_words w))

pub among_model : (n : ℕ) (f : Formula) (w : List Bool) → Among w (models_of n f) → IsModel n f w
among_model n f w m =
    let r = from_filter (holds f) w (all_words n) m in
    record { size = words_size n w r.0; true_there = r.1 }
