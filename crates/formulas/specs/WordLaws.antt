-- Words and the numbers that they stand for, as the view of a valuation and its inverse need them.
use Rattle.std.proofs.Common.{◌≡◌, ℕ, zero, suc, ◌-◌, ◌^◌, ◌<◌, ◌≤◌, Bool, true, false, [], ◌∷◌, List, length, nat_le, if◌then◌else◌, refl, ap, arith}
use Rattle.std.proofs.Math.Nat.{two-pow-succ}
use Rattle.std.proofs.lemmas.Bool.{leb-true, leb-false}
use Rattle.formulas.specs.Words.{word_of, number_of}

word_size-at : (n b : ℕ) (t : Bool) → ((c : ℕ) → length (word_of n c) ≡ n) → length (if t then true ∷ word_of n (b - 2 ^ n) else false ∷ word_of n b) ≡ suc n
word_size-at n b true ih = ap suc (ih (b - 2 ^ n))
word_size-at n b false ih = ap suc (ih b)

pub word_size : (n b : ℕ) → length (word_of n b) ≡ n
word_size zero b = refl
word_size (suc n) b = word_size-at n b (nat_le (2 ^ n) b) (word_size n)

number_at : (n b : ℕ) (t : Bool) → nat_le (2 ^ n) b ≡ t → b < 2 ^ suc n → ((c : ℕ) → c < 2 ^ n → number_of (word_of n c) ≡ c) → number_of (if t then true ∷ word_of n (b - 2 ^ n) else false ∷ word_of n b) ≡ b
number_at n b true is h ih =
    let at_least : 2 ^ n ≤ b = leb-true (2 ^ n) b is in
    let rest : number_of (word_of n (b - 2 ^ n)) ≡ b - 2 ^ n = ih (b - 2 ^ n) (omega (arith, two-pow-succ n)) in
    let top : 2 ^ length (word_of n (b - 2 ^ n)) ≡ 2 ^ n = ap (λ k. 2 ^ k) (word_size n (b - 2 ^ n)) in
    omega arith
number_at n b false is h ih = ih b (leb-false (2 ^ n) b is)

pub number_of_word : (n b : ℕ) → b < 2 ^ n → number_of (word_of n b) ≡ b
number_of_word zero b h = omega arith
number_of_word (suc n) b h = number_at n b (nat_le (2 ^ n) b) refl h (number_of_word n)

pub number_of_lt : (v : List Bool) → number_of v < 2 ^ length v
number_of_lt [] = omega arith
number_of_lt (true ∷ v) = omega (arith, two-pow-succ (length v), number_of_lt v)
number_of_lt (false ∷ v) = omega (arith, two-pow-succ (length v), number_of_lt v)
