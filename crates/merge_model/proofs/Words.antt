-- All valuations, by their numbers.
use Rattle.std.proofs.Common.{◌≡◌, ℕ, zero, suc, ◌+◌, ◌-◌, ◌^◌, ◌≤◌, ◌<◌, Bool, true, false, List, [], ◌∷◌, ◌++◌, length, map, filter, drop, get_or, refl, ap, sym, ◌∙◌, arith, ◌⊎◌, inl, inr, length-append}
use Rattle.std.proofs.Math.Nat.{two-pow-succ}
use Rattle.std.proofs.lemmas.List.{length-map, get_or_append_left, get_or-append_right, get_or-map, drop_more, drop_all, append_assoc}
use Rattle.std.proofs.lemmas.List.Elements.{filter-append}
use Rattle.formulas.specs.Words.{all_words, word_of}
use Rattle.formulas.proofs.WordOrder.{word_of_true, word_of_false}

split_at : (m b : ℕ) → (m ≤ b) ⊎ (b < m)
split_at m b = grind arith

pub words_length : (n : ℕ) → length (all_words n) ≡ 2 ^ n
words_length zero = refl
words_length (suc n) =
    let left = map (λ v. false ∷ v) (all_words n) in
    let right = map (λ v. true ∷ v) (all_words n) in
    omega (arith, length-append left right, length-map (all_words n) (λ v. false ∷ v), length-map (all_words n) (λ v. true ∷ v), words_length n, two-pow-succ n)

-- the word in place b is that of the number b
pub word_at : (n b : ℕ) (d : List Bool) → b < 2 ^ n → get_or (all_words n) b d ≡ word_of n b
word_at zero b d h = let e : b ≡ 0 = omega arith in rw e
word_at (suc n) b d h =
    let left = map (λ v. false ∷ v) (all_words n) in
    let right = map (λ v. true ∷ v) (all_words n) in
    let size : length left ≡ 2 ^ n = length-map (all_words n) (λ v. false ∷ v) ∙ words_length n in
    elim (split_at (2 ^ n) b) [
      | inl i ↦
          get_or-append_right left right (2 ^ n) b d size i
          ∙ get_or-map (λ v. true ∷ v) (all_words n) (b - 2 ^ n) d d (omega (arith, two-pow-succ n, words_length n))
          ∙ ap (λ v. true ∷ v) (word_at n (b - 2 ^ n) d (omega (arith, two-pow-succ n)))
          ∙ sym (word_of_true n b i)
      | inr i ↦
          get_or_append_left left right d b (omega arith)
          ∙ get_or-map (λ v. false ∷ v) (all_words n) b d d (omega (arith, words_length n))
          ∙ ap (λ v. false ∷ v) (word_at n b d i)
          ∙ sym (word_of_false n b i)
    ]

-- one valuation on in a walk that keeps those that pass the test
pub walk_more : (p : List Bool → Bool) (n b : ℕ) (old new all : List (List Bool)) → b < 2 ^ n →
    new ≡ old ++ filter p (word_of n b ∷ []) → old ++ filter p (drop b (all_words n)) ≡ all → new ++ filter p (drop (b + 1) (all_words n)) ≡ all
walk_more p n b old new all less pushed before =
    let rest = drop (b + 1) (all_words n) in
    let here : drop b (all_words n) ≡ word_of n b ∷ rest = drop_more (all_words n) b [] (omega (arith, words_length n)) ∙ ap (λ w. w ∷ rest) (word_at n b [] less) in
    ap (λ x. x ++ filter p rest) pushed
    ∙ append_assoc old (filter p (word_of n b ∷ [])) (filter p rest)
    ∙ ap (λ x. old ++ x) (sym (filter-append p (word_of n b ∷ []) rest) ∙ ap (filter p) (sym here))
    ∙ before

-- at the end of the walk
pub walk_done : (p : List Bool → Bool) (n b : ℕ) (old all : List (List Bool)) → 2 ^ n ≤ b → old ++ filter p (drop b (all_words n)) ≡ all → old ++ [] ≡ all
walk_done p n b old all past h =
    ap (λ x. old ++ filter p x) (sym (drop_all b (all_words n) (omega (arith, words_length n)))) ∙ h
