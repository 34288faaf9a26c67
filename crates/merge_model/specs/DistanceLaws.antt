-- The laws of the distances.
use Rattle.std.proofs.Common.{◌≡◌, ℕ, zero, suc, sym, ◌+◌, ◌≤◌, Bool, true, false, List, [], ◌∷◌, length, refl, ap, arith, ◌*◌, ◌^◌, ◌<◌, ◌∙◌, bit_xor}
use Rattle.std.specs.Int.Count.{ones}
use Rattle.std.proofs.lemmas.Nat.{xor_block, ones_cat, xor_lt}
use Rattle.formulas.specs.Words.{number_of, word_of}
use Rattle.formulas.specs.WordLaws.{number_of_word, number_of_lt, word_size}
use Rattle.merge_model.specs.Distances.{apart, hamming, drastic}

apart_comm : (a b : Bool) → apart a b ≡ apart b a
apart_comm true true = refl
apart_comm true false = refl
apart_comm false true = refl
apart_comm false false = refl

pub hamming_comm : (v w : List Bool) → hamming v w ≡ hamming w v
hamming_comm [] [] = refl
hamming_comm [] (b ∷ w) = refl
hamming_comm (a ∷ v) [] = refl
hamming_comm (a ∷ v) (b ∷ w) = omega (arith, apart_comm a b, hamming_comm v w)

pub hamming_self : (v : List Bool) → hamming v v ≡ 0
hamming_self [] = refl
hamming_self (true ∷ v) = omega (arith, hamming_self v)
hamming_self (false ∷ v) = omega (arith, hamming_self v)

pub hamming_apart : (v w : List Bool) → length v ≡ length w → hamming v w ≡ 0 → v ≡ w
hamming_apart [] [] same none = refl
hamming_apart [] (b ∷ w) same none = absurd (omega arith)
hamming_apart (a ∷ v) [] same none = absurd (omega arith)
hamming_apart (true ∷ v) (true ∷ w) same none = ap (λ u. true ∷ u) (hamming_apart v w (omega arith) (omega arith))
hamming_apart (true ∷ v) (false ∷ w) same none = absurd (omega arith)
hamming_apart (false ∷ v) (true ∷ w) same none = absurd (omega arith)
hamming_apart (false ∷ v) (false ∷ w) same none = ap (λ u. false ∷ u) (hamming_apart v w (omega arith) (omega arith))

pub hamming_within : (v w : List Bool) → hamming v w ≤ length v
hamming_within [] w = omega arith
hamming_within (a ∷ v) [] = omega arith
hamming_within (true ∷ v) (true ∷ w) = omega (arith, hamming_within v w)
hamming_within (true ∷ v) (false ∷ w) = omega (arith, hamming_within v w)
hamming_within (false ∷ v) (true ∷ w) = omega (arith, hamming_within v w)
hamming_within (false ∷ v) (false ∷ w) = omega (arith, hamming_within v w)

pub drastic_comm : (v w : List Bool) → drastic v w ≡ drastic w v
drastic_comm [] [] = refl
drastic_comm [] (b ∷ w) = refl
drastic_comm (a ∷ v) [] = refl
drastic_comm (true ∷ v) (true ∷ w) = drastic_comm v w
drastic_comm (true ∷ v) (false ∷ w) = refl
drastic_comm (false ∷ v) (true ∷ w) = refl
drastic_comm (false ∷ v) (false ∷ w) = drastic_comm v w

pub drastic_self : (v : List Bool) → drastic v v ≡ 0
drastic_self [] = refl
drastic_self (true ∷ v) = drastic_self v
drastic_self (false ∷ v) = drastic_self v

pub drastic_apart : (v w : List Bool) → length v ≡ length w → drastic v w ≡ 0 → v ≡ w
drastic_apart [] [] same none = refl
drastic_apart [] (b ∷ w) same none = absurd (omega arith)
drastic_apart (a ∷ v) [] same none = absurd (omega arith)
drastic_apart (true ∷ v) (true ∷ w) same none = ap (λ u. true ∷ u) (drastic_apart v w (omega arith) none)
drastic_apart (true ∷ v) (false ∷ w) same none = absurd (omega arith)
drastic_apart (false ∷ v) (true ∷ w) same none = absurd (omega arith)
drastic_apart (false ∷ v) (false ∷ w) same none = ap (λ u. false ∷ u) (drastic_apart v w (omega arith) none)

pub drastic_within : (v w : List Bool) → drastic v w ≤ 1
drastic_within [] [] = omega arith
drastic_within [] (b ∷ w) = omega arith
drastic_within (a ∷ v) [] = omega arith
drastic_within (true ∷ v) (true ∷ w) = drastic_within v w
drastic_within (true ∷ v) (false ∷ w) = omega arith
drastic_within (false ∷ v) (true ∷ w) = omega arith
drastic_within (false ∷ v) (false ∷ w) = drastic_within v w

xor_step : (k a b r s : ℕ) → r < 2 ^ k → s < 2 ^ k → ones (bit_xor (a * 2 ^ k + r) (b * 2 ^ k + s)) ≡ ones (bit_xor a b) + ones (bit_xor r s)
xor_step k a b r s h i = ap ones (xor_block k a b r s h i) ∙ ones_cat k (bit_xor a b) (bit_xor r s) (xor_lt k r s h i)

abbrev bit : Bool → ℕ
bit true = 1
bit false = 0

number_cons : (a : Bool) (v : List Bool) (k : ℕ) → length v ≡ k → number_of (a ∷ v) ≡ bit a * 2 ^ k + number_of v
number_cons true v k size = omega (arith, ap (λ i. 2 ^ i) size)
number_cons false v k size = omega arith

bits_apart : (a b : Bool) → ones (bit_xor (bit a) (bit b)) ≡ apart a b
unfolding ones
bits_apart true true = refl
bits_apart true false = refl
bits_apart false true = refl
bits_apart false false = refl

no_ones : ones 0 ≡ 0
unfolding ones
no_ones = refl

-- the bits in which two numbers differ are the places where their words do
pub ones_xor : (v w : List Bool) → length v ≡ length w → ones (bit_xor (number_of v) (number_of w)) ≡ hamming v w
ones_xor [] [] same = no_ones
ones_xor [] (b ∷ w) same = absurd (omega arith)
ones_xor (a ∷ v) [] same = absurd (omega arith)
ones_xor (a ∷ v) (b ∷ w) same =
    let k = length v in
    let tails : length v ≡ length w = omega arith in
    let small : number_of w < 2 ^ length v = omega (arith, number_of_lt w, ap (λ i. 2 ^ i) tails) in
    ap (λ x. ones (bit_xor x (number_of (b ∷ w)))) (number_cons a v k refl)
    ∙ ap (λ y. ones (bit_xor (bit a * 2 ^ k + number_of v) y)) (number_cons b w k (sym tails))
    ∙ xor_step k (bit a) (bit b) (number_of v) (number_of w) (number_of_lt v) small
    ∙ ap (λ x. x + ones (bit_xor (number_of v) (number_of w))) (bits_apart a b)
    ∙ ap (λ x. apart a b + x) (ones_xor v w tails)

-- the same of the numbers of two words
pub xor_counts : (v w : List Bool) (n b m c : ℕ) → word_of n b ≡ v → word_of m c ≡ w → b < 2 ^ n → c < 2 ^ m → length v ≡ length w → ones (bit_xor b c) ≡ hamming v w
xor_counts v w n b m c left right h i same =
    let first : number_of v ≡ b = ap number_of (sym left) ∙ number_of_word n b h in
    let second : number_of w ≡ c = ap number_of (sym right) ∙ number_of_word m c i in
    ap (λ x. ones (bit_xor x c)) (sym first) ∙ ap (λ y. ones (bit_xor (number_of v) y)) (sym second) ∙ ones_xor v w same

drastic_far_at : (v w : List Bool) (k : ℕ) → drastic v w ≡ k → k ≤ 1 → length v ≡ length w → (v ≡ w → ⊥) → k ≡ 1
drastic_far_at v w zero is h same far = absurd (far (drastic_apart v w same is))
drastic_far_at v w (suc k) is h same far = omega arith

pub drastic_equal : (v w : List Bool) (n b m c : ℕ) → word_of n b ≡ v → word_of m c ≡ w → b ≡ c → length v ≡ length w → 0 ≡ drastic v w
drastic_equal v w n b m c left right e same =
    let atoms : n ≡ m = sym (word_size n b) ∙ ap length left ∙ same ∙ sym (ap length right) ∙ word_size m c in
    let words : v ≡ w = sym left ∙ ap (λ i. word_of i b) atoms ∙ ap (λ x. word_of m x) e ∙ right in
    sym (drastic_self v) ∙ ap (λ x. drastic v x) words

pub drastic_other : (v w : List Bool) (n b m c : ℕ) → word_of n b ≡ v → word_of m c ≡ w → b < 2 ^ n → c < 2 ^ m → (b ≡ c → ⊥) → length v ≡ length w → 1 ≡ drastic v w
drastic_other v w n b m c left right h i e same =
    sym (drastic_far_at v w (drastic v w) refl (drastic_within v w) same
    (λ words. e (sym (number_of_word n b h) ∙ ap number_of (left ∙ words ∙ sym right) ∙ number_of_word m c i)))
