-- Words: their values, their order, and the word after another.
use Rattle.std.proofs.Common.{◌≡◌, ℕ, zero, suc, ◌+◌, ◌-◌, ◌*◌, ◌/◌, ◌%◌, ◌^◌, ◌<◌, ◌≤◌, Bool, true, false, List, [], ◌∷◌, length, nat_le, nat_eq, nat_lt, nat_cmp, cond, ◌==◌, IsTrue, ◌↔◌, slice_set, replicate, length-set, if◌then◌else◌, refl, ap, arith, sym, subst, ◌∙◌}
use Rattle.std.proofs.Math.Nat.{two-pow-succ, pow-succ', add-mul-div_left, add-mul-mod_self_left, div-eq_of_lt}
use Rattle.std.proofs.lemmas.Nat.{pow_pos, pow-add, div-mul-add}
use Rattle.std.proofs.lemmas.Option.{unwrap_or-slice_get}
use Rattle.std.proofs.lemmas.List.{set-get_or}
use Rattle.std.proofs.lemmas.Bool.Decides.{nat_tests}
use Rattle.std.proofs.lemmas.Bool.{leb-true, leb-false}
use Rattle.std.specs.Ordering.{ordering_then, is_lt}
use Rattle.std.specs.declared.cmp.Ordering.TheVariants.{Less, Equal, Greater}
use Rattle.formulas.specs.Words.{word_of, number_of, truth_at, IsBefore, IsNext}
use Rattle.formulas.specs.WordLaws.{word_size, number_of_word, number_of_lt}

-- the number of a word with its top value, and what is left
word_at_top : (n b : ℕ) (t : Bool) → nat_le (2 ^ n) b ≡ t → 2 ^ n ≤ b → (if t then true ∷ word_of n (b - 2 ^ n) else false ∷ word_of n b) ≡ true ∷ word_of n (b - 2 ^ n)
word_at_top n b true is h = refl
word_at_top n b false is h = grind (arith, leb-false (2 ^ n) b is)

word_below_top : (n b : ℕ) (t : Bool) → nat_le (2 ^ n) b ≡ t → b < 2 ^ n → (if t then true ∷ word_of n (b - 2 ^ n) else false ∷ word_of n b) ≡ false ∷ word_of n b
word_below_top n b true is h = grind (arith, leb-true (2 ^ n) b is)
word_below_top n b false is h = refl

pub word_of_true : (n b : ℕ) → 2 ^ n ≤ b → word_of (suc n) b ≡ true ∷ word_of n (b - 2 ^ n)
word_of_true n b h = word_at_top n b (nat_le (2 ^ n) b) refl h

pub word_of_false : (n b : ℕ) → b < 2 ^ n → word_of (suc n) b ≡ false ∷ word_of n b
word_of_false n b h = word_below_top n b (nat_le (2 ^ n) b) refl h

pub word_of_number : (v : List Bool) → word_of (length v) (number_of v) ≡ v
word_of_number [] = refl
word_of_number (true ∷ v) =
    let rest : 2 ^ length v + number_of v - 2 ^ length v ≡ number_of v = omega arith in
    word_of_true (length v) (2 ^ length v + number_of v) (omega arith) ∙ ap (λ k. true ∷ word_of (length v) k) rest ∙ ap (λ w. true ∷ w) (word_of_number v)
word_of_number (false ∷ v) = word_of_false (length v) (number_of v) (number_of_lt v) ∙ ap (λ w. false ∷ w) (word_of_number v)

-- a bit below 2 ^ n is there with and without 2 ^ n
bit_under : (b n k j : ℕ) → j + k + 1 ≡ n → 2 ^ n ≤ b → b / 2 ^ j % 2 ≡ (b - 2 ^ n) / 2 ^ j % 2
bit_under b n k j e h =
    let power : 2 ^ n ≡ 2 ^ j * (2 * 2 ^ k) = ap (λ i. 2 ^ i) (let same : n ≡ j + suc k = omega arith in same) ∙ pow-add 2 j (suc k) ∙ ap (λ x. 2 ^ j * x) (pow-succ' 2 k) in
    let whole : b ≡ (b - 2 ^ n) + 2 ^ j * (2 * 2 ^ k) = omega arith in
    let divided : b / 2 ^ j ≡ (b - 2 ^ n) / 2 ^ j + 2 * 2 ^ k = ap (λ x. x / 2 ^ j) whole ∙ add-mul-div_left (b - 2 ^ n) (2 * 2 ^ k) (pow_pos j) in
    ap (λ x. x % 2) divided ∙ add-mul-mod_self_left ((b - 2 ^ n) / 2 ^ j) 2 (2 ^ k)

top_bit : (n b : ℕ) → 2 ^ n ≤ b → b < 2 ^ suc n → b / 2 ^ n ≡ 1
top_bit n b h below =
    ap (λ x. x / 2 ^ n) (let whole : b ≡ 1 * 2 ^ n + (b - 2 ^ n) = omega arith in whole) ∙ div-mul-add 1 (2 ^ n) (b - 2 ^ n) (omega (arith, two-pow-succ n))

get_at : (n b k j : ℕ) (t : Bool) → nat_le (2 ^ n) b ≡ t → j + k + 1 ≡ suc n → b < 2 ^ suc n →
    ((c i : ℕ) (l : ℕ) → l + i + 1 ≡ n → c < 2 ^ n → nat_eq (c / 2 ^ l % 2) 1 ≡ truth_at (word_of n c) i) →
    nat_eq (b / 2 ^ j % 2) 1 ≡ truth_at (if t then true ∷ word_of n (b - 2 ^ n) else false ∷ word_of n b) k
get_at n b zero j true is e h ih =
    let same : j ≡ n = omega arith in
    let at_least : 2 ^ n ≤ b = leb-true (2 ^ n) b is in
    ap (λ i. nat_eq (b / 2 ^ i % 2) 1) same ∙ ap (λ x. nat_eq (x % 2) 1) (top_bit n b at_least h)
get_at n b zero j false is e h ih =
    let same : j ≡ n = omega arith in
    ap (λ i. nat_eq (b / 2 ^ i % 2) 1) same ∙ ap (λ x. nat_eq (x % 2) 1) (div-eq_of_lt (leb-false (2 ^ n) b is))
get_at n b (suc k) j true is e h ih =
    let at_least : 2 ^ n ≤ b = leb-true (2 ^ n) b is in
    ap (λ x. nat_eq x 1) (bit_under b n k j (omega arith) at_least) ∙ ih (b - 2 ^ n) k j (omega arith) (omega (arith, two-pow-succ n))
get_at n b (suc k) j false is e h ih = ih b k j (omega arith) (leb-false (2 ^ n) b is)

-- the value of atom k is the bit at j, where k + 1 + j is the number of atoms
pub word_get : (n b k j : ℕ) → j + k + 1 ≡ n → b < 2 ^ n → nat_eq (b / 2 ^ j % 2) 1 ≡ truth_at (word_of n b) k
word_get zero b k j e h = absurd (omega arith)
word_get (suc n) b k j e h = get_at n b k j (nat_le (2 ^ n) b) refl e h (λ c i. word_get n c i)

-- setting a value that was false adds its bit
pub number_set_true : (v : List Bool) (k j : ℕ) → j + k + 1 ≡ length v → truth_at v k ≡ false → number_of (slice_set v k true) ≡ number_of v + 2 ^ j
number_set_true [] k j e was = absurd (omega arith)
number_set_true (true ∷ v) zero j e was = cc
number_set_true (false ∷ v) zero j e was = omega (arith, ap (λ i. 2 ^ i) (let same : j ≡ length v = omega arith in same))
number_set_true (true ∷ v) (suc k) j e was =
    let tail : number_of (slice_set v k true) ≡ number_of v + 2 ^ j = number_set_true v k j (omega arith) was in
    omega (arith, ap (λ i. 2 ^ i) (length-set v k true))
number_set_true (false ∷ v) (suc k) j e was = number_set_true v k j (omega arith) was

pub number_set_false : (v : List Bool) (k j : ℕ) → j + k + 1 ≡ length v → truth_at v k ≡ true → number_of (slice_set v k false) + 2 ^ j ≡ number_of v
number_set_false [] k j e was = absurd (omega arith)
number_set_false (false ∷ v) zero j e was = cc
number_set_false (true ∷ v) zero j e was = omega (arith, ap (λ i. 2 ^ i) (let same : j ≡ length v = omega arith in same))
number_set_false (true ∷ v) (suc k) j e was =
    let tail : number_of (slice_set v k false) + 2 ^ j ≡ number_of v = number_set_false v k j (omega arith) was in
    omega (arith, ap (λ i. 2 ^ i) (length-set v k false))
number_set_false (false ∷ v) (suc k) j e was = number_set_false v k j (omega arith) was

pub before_lt : (v w : List Bool) → length v ≡ length w → IsBefore v w → number_of v < number_of w
before_lt [] w e h = absurd h
before_lt (a ∷ v) [] e h = absurd h
before_lt (false ∷ v) (true ∷ w) e h = omega (arith, number_of_lt v, ap (λ i. 2 ^ i) (let same : length v ≡ length w = omega arith in same))
before_lt (true ∷ v) (false ∷ w) e h = absurd h
before_lt (false ∷ v) (false ∷ w) e h = before_lt v w (omega arith) h
before_lt (true ∷ v) (true ∷ w) e h = omega (arith, before_lt v w (omega arith) h, ap (λ i. 2 ^ i) (let same : length v ≡ length w = omega arith in same))

pub lt_before : (v w : List Bool) → length v ≡ length w → number_of v < number_of w → IsBefore v w
lt_before [] [] e h = absurd (omega arith)
lt_before [] (b ∷ w) e h = absurd (omega arith)
lt_before (a ∷ v) [] e h = absurd (omega arith)
lt_before (false ∷ v) (true ∷ w) e h = tt
lt_before (true ∷ v) (false ∷ w) e h = absurd (omega (arith, number_of_lt w, ap (λ i. 2 ^ i) (let same : length v ≡ length w = omega arith in same)))
lt_before (false ∷ v) (false ∷ w) e h = lt_before v w (omega arith) h
lt_before (true ∷ v) (true ∷ w) e h = lt_before v w (omega arith) (omega (arith, ap (λ i. 2 ^ i) (let same : length v ≡ length w = omega arith in same)))

pub number_all_true : (v : List Bool) → number_of v + 1 ≡ 2 ^ length v → v ≡ replicate (length v) true
number_all_true [] h = refl
number_all_true (true ∷ v) h = ap (λ w. true ∷ w) (number_all_true v (omega (arith, two-pow-succ (length v))))
number_all_true (false ∷ v) h = absurd (omega (arith, two-pow-succ (length v), number_of_lt v))

pub next_word : (n b : ℕ) → b + 1 < 2 ^ n → IsNext (word_of n b) (word_of n (b + 1))
next_word n b h =
    let here : number_of (word_of n b) ≡ b = number_of_word n b (omega arith) in
    let there : number_of (word_of n (b + 1)) ≡ b + 1 = number_of_word n (b + 1) h in
    let size : length (word_of n b) ≡ n = word_size n b in
    let size' : length (word_of n (b + 1)) ≡ n = word_size n (b + 1) in (
      cc,
      lt_before (word_of n b) (word_of n (b + 1)) (cc) (omega arith),
      λ u sized after before. omega (arith, before_lt (word_of n b) u (cc) after, before_lt u (word_of n (b + 1)) (cc) before),
    )

-- from a word of its own number
word_is : (n b : ℕ) (w : List Bool) → length w ≡ n → number_of w ≡ b → word_of n b ≡ w
word_is n b w size number = ap (λ k. word_of k b) (sym size) ∙ ap (λ c. word_of (length w) c) (sym number) ∙ word_of_number w

-- the number with one more bit stands for the word with that value set
pub word_set_true : (n b k j : ℕ) → j + k + 1 ≡ n → b < 2 ^ n → truth_at (word_of n b) k ≡ false → (b + 2 ^ j < 2 ^ n) × (word_of n (b + 2 ^ j) ≡ slice_set (word_of n b) k true)
word_set_true n b k j e h was =
    let w = slice_set (word_of n b) k true in
    let size : length w ≡ n = length-set (word_of n b) k true ∙ word_size n b in
    let here : number_of (word_of n b) ≡ b = number_of_word n b h in
    let number : number_of w ≡ b + 2 ^ j = number_set_true (word_of n b) k j (e ∙ sym (word_size n b)) was ∙ ap (λ x. x + 2 ^ j) here in
    (omega (arith, number_of_lt w, ap (λ i. 2 ^ i) size), word_is n (b + 2 ^ j) w size number)

pub word_set_false : (n b k j : ℕ) → j + k + 1 ≡ n → b < 2 ^ n → truth_at (word_of n b) k ≡ true → (2 ^ j ≤ b) × (word_of n (b - 2 ^ j) ≡ slice_set (word_of n b) k false)
word_set_false n b k j e h was =
    let w = slice_set (word_of n b) k false in
    let size : length w ≡ n = length-set (word_of n b) k false ∙ word_size n b in
    let here : number_of (word_of n b) ≡ b = number_of_word n b h in
    let number : number_of w + 2 ^ j ≡ number_of (word_of n b) = number_set_false (word_of n b) k j (e ∙ sym (word_size n b)) was in
    (omega arith, word_is n (b - 2 ^ j) w size (omega arith))

pub word_set_same : (v : List Bool) (k : ℕ) (t : Bool) → truth_at v k ≡ t → slice_set v k t ≡ v
word_set_same v k t was = ap (λ x. slice_set v k x) (sym was ∙ unwrap_or-slice_get v k false) ∙ set-get_or v k false

-- the last number stands for the word of trues
pub word_last : (n b : ℕ) → b < 2 ^ n → 2 ^ n ≤ b + 1 → word_of n b ≡ replicate (length (word_of n b)) true
word_last n b h last = number_all_true (word_of n b) (let here : number_of (word_of n b) ≡ b = number_of_word n b h in omega (arith, ap (λ i. 2 ^ i) (word_size n b)))

-- by number and then by length, words of one length stand in the order of their numbers
number_first : (b c m n : ℕ) → m ≡ n → is_lt (ordering_then (nat_cmp b c) (nat_cmp m n)) ≡ nat_lt b c
number_first b c m n same =
    elim (nat_lt b c) as (λ t. nat_lt b c ≡ t → is_lt (ordering_then (cond t Less (cond (b == c) Equal Greater)) (nat_cmp m n)) ≡ t) [
      | true ↦ λ less. refl
      | false ↦ λ less. elim (b == c) as (λ t. is_lt (ordering_then (cond t Equal Greater) (nat_cmp m n)) ≡ false) [
        | true ↦ grind (arith, nat_tests)
        | false ↦ refl
      ]
    ] refl

-- the order of numbers is the order of words
pub order_of_words : (v w : List Bool) (less : Bool) → length v ≡ length w →
    less ≡ is_lt (ordering_then (nat_cmp (number_of v) (number_of w)) (nat_cmp (length v) (length w))) → IsTrue less ↔ IsBefore v w
order_of_words v w less size is =
    let numbers : less ≡ nat_lt (number_of v) (number_of w) = is ∙ number_first (number_of v) (number_of w) (length v) (length w) size in (
      (λ t. lt_before v w size (grind (arith, nat_tests))),
      (λ before. let lt : number_of v < number_of w = before_lt v w size before in grind (arith, nat_tests)),
    )

pub next_word_at : (n b next : ℕ) (v : List Bool) → word_of n b ≡ v → next ≡ b + 1 → next < 2 ^ n → IsNext v (word_of n next)
next_word_at n b next v is e h =
    let P : List Bool → Type 0 = λ u. IsNext u (word_of n next) in
    let Q : ℕ → Type 0 = λ m. IsNext (word_of n b) (word_of n m) in
    subst P is (subst Q (sym e) (next_word n b (omega arith)))
