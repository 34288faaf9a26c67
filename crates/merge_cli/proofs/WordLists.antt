-- A list of words from its length and its places.
use Rattle.std.proofs.Common.{◌≡◌, ℕ, List, [], ◌∷◌, length, arith}
use Rattle.std.specs.Prelude.{slice_get, Some}

pub one_word : (xs : List (List ℕ)) (a : List ℕ) → length xs ≡ 1 → slice_get xs 0 ≡ Some a → xs ≡ a ∷ []
one_word (x ∷ []) a n p = cc
one_word [] a n p = absurd (omega arith)
one_word (x ∷ y ∷ xs) a n p = absurd (omega arith)

pub two_words : (xs : List (List ℕ)) (a b : List ℕ) → length xs ≡ 2 → slice_get xs 0 ≡ Some a → slice_get xs 1 ≡ Some b → xs ≡ a ∷ b ∷ []
two_words (x ∷ y ∷ []) a b n p q = cc
two_words [] a b n p q = absurd (omega arith)
two_words (x ∷ []) a b n p q = absurd (omega arith)
two_words (x ∷ y ∷ z ∷ xs) a b n p q = absurd (omega arith)

pub three_words : (xs : List (List ℕ)) (a b c : List ℕ) → length xs ≡ 3 → slice_get xs 0 ≡ Some a → slice_get xs 1 ≡ Some b → slice_get xs 2 ≡ Some c → xs ≡ a ∷ b ∷ c ∷ []
three_words (x ∷ y ∷ z ∷ []) a b c n p q r = cc
three_words [] a b c n p q r = absurd (omega arith)
three_words (x ∷ []) a b c n p q r = absurd (omega arith)
three_words (x ∷ y ∷ []) a b c n p q r = absurd (omega arith)
three_words (x ∷ y ∷ z ∷ w ∷ xs) a b c n p q r = absurd (omega arith)

pub four_words : (xs : List (List ℕ)) (a b c d : List ℕ) → length xs ≡ 4 → slice_get xs 0 ≡ Some a → slice_get xs 1 ≡ Some b → slice_get xs 2 ≡ Some c → slice_get xs 3 ≡ Some d
    → xs ≡ a ∷ b ∷ c ∷ d ∷ []
four_words (x ∷ y ∷ z ∷ w ∷ []) a b c d n p q r s = cc
four_words [] a b c d n p q r s = absurd (omega arith)
four_words (x ∷ []) a b c d n p q r s = absurd (omega arith)
four_words (x ∷ y ∷ []) a b c d n p q r s = absurd (omega arith)
four_words (x ∷ y ∷ z ∷ []) a b c d n p q r s = absurd (omega arith)
four_words (x ∷ y ∷ z ∷ w ∷ v ∷ xs) a b c d n p q r s = absurd (omega arith)
