-- A word is the numeral that it is read as, and a numeral is read as its number.
use Rattle.std.proofs.Common.{◌≡◌, ◌≢◌, ℕ, zero, suc, ◌+◌, ◌-◌, ◌*◌, ◌^◌, ◌<◌, ◌≤◌, ◌==◌, Bool, true, false, cond, ◌&&◌, List, [], ◌∷◌, length, get_or, refl, ap, sym, subst, ◌∙◌, arith, rules, decimal, IfSome, IfNone, Option, None, Some, nat_lt}
use Rattle.std.specs.Char.{is_ascii_digit}
use Rattle.std.specs.Str.{all_ascii_digits}
use Rattle.std.specs.Option.{option_and_then}
use Rattle.std.proofs.lemmas.Str.Parse.{IsNumeralModel, numerals_by_fold}
use Rattle.std.proofs.lemmas.Fmt.{digits_decimal, digits_value-decimal, decimal-digits_value, decimal_nonempty, first_decimal, decimal_digit}
use Rattle.std.proofs.lemmas.Bool.Decides.{nat_tests}
use Rattle.report_words.specs.declared.numbers.WideLit.{WideLit}
use Rattle.report_words.specs.Numbers.{digits_from, front_limit, number_at, literal_at, literal_word, IsLiteral, HasNumeral, numeral_limit, signed}

abbrev pub read_on : ℕ → List ℕ → ℕ
read_on n [] = n
read_on n (c ∷ cs) = read_on (10 * n + (c - 48)) cs

pub own : IsNumeralModel (λ ds. all_ascii_digits ds ≡ true) (read_on 0)
own = numerals_by_fold _ (search rules) read_on (search rules)

pub grows : (n : ℕ) (bs : List ℕ) → n ≤ read_on n bs
grows n [] = omega arith
grows n (b ∷ bs) = let h : 10 * n + (b - 48) ≤ read_on (10 * n + (b - 48)) bs = grows (10 * n + (b - 48)) bs in omega arith

pub both_true : (a b : Bool) → (a && b) ≡ true → (a ≡ true) × (b ≡ true)
both_true true true e = (refl, refl)
both_true true false e = absurd (cc)
both_true false b e = absurd (cc)

pub guard_some : (b : Bool) (o : Option ℕ) (m : ℕ) → cond b o None ≡ Some m → (b ≡ true) × (o ≡ Some m)
guard_some true o m e = (refl, e)
guard_some false o m e = absurd (cc)

pub below : (n b : ℕ) → is_ascii_digit b ≡ true → nat_lt n front_limit ≡ true → 10 * n + (b - 48) < numeral_limit
below n b e f = grind (arith, nat_tests)

pub digits_some : (n : ℕ) (bs : List ℕ) (m : ℕ) → n < numeral_limit → digits_from n bs ≡ Some m → (all_ascii_digits bs ≡ true) × (read_on n bs ≡ m) × (m < numeral_limit)
digits_some n [] m h e = let f : n ≡ m = cc in (refl, f, subst (λ k. k < numeral_limit) f h)
digits_some n (b ∷ bs) m h e =
    let g = guard_some (is_ascii_digit b && nat_lt n front_limit) (digits_from (10 * n + (b - 48)) bs) m e in
    let t = both_true (is_ascii_digit b) (nat_lt n front_limit) g.0 in
    let r = digits_some (10 * n + (b - 48)) bs m (below n b t.0 t.1) g.1 in
    (rw (t.0, r.0) refl, r.1, r.2)

pub room : (n k : ℕ) → 10 * n ≤ k → k < numeral_limit → nat_lt n front_limit ≡ true
room n k h f = grind (arith, nat_tests)

pub digits_again : (n : ℕ) (bs : List ℕ) → all_ascii_digits bs ≡ true → read_on n bs < numeral_limit → digits_from n bs ≡ Some (read_on n bs)
digits_again n [] e h = refl
digits_again n (b ∷ bs) e h =
    let t = both_true (is_ascii_digit b) (all_ascii_digits bs) e in
    let g = grows (10 * n + (b - 48)) bs in
    let l : nat_lt n front_limit ≡ true = room n (read_on (10 * n + (b - 48)) bs) (omega arith) h in
    rw (t.0, l) (digits_again (10 * n + (b - 48)) bs t.1 h)

pub guard_none : (b : Bool) (o : Option ℕ) (m : ℕ) → cond b None o ≡ Some m → (b ≡ false) × (o ≡ Some m)
guard_none true o m e = absurd (cc)
guard_none false o m e = (refl, e)

pub not_zero : (b : ℕ) → b ≡ 48 → (b == 48) ≡ false → ⊥
not_zero b e f = grind (arith, nat_tests)

-- a longer numeral does not begin with 0
pub first_is : (n : ℕ) → n < 2 ^ 64 → get_or (decimal n) 0 0 ≡ 48 → length (decimal n) ≡ 1
first_is zero h e = ap length (decimal_digit 0 (omega arith))
first_is (suc n) h e = absurd (omega (arith, first_decimal (suc n) (omega arith) h))

pub test_false : (b : ℕ) → (b ≡ 48 → ⊥) → (b == 48) ≡ false
test_false b h = grind (arith, nat_tests)

pub numeral_again : (w : List ℕ) (n : ℕ) → HasNumeral n → all_ascii_digits w ≡ true → read_on 0 w ≡ n → 0 < length w → (get_or w 0 0 ≡ 48 → length w ≡ 1) → number_at w ≡ Some n
unfolding number_at
numeral_again [] n h d v some one = absurd (omega arith)
numeral_again (b ∷ []) n h d v some one = digits_again 0 (b ∷ []) d (subst (λ k. k < numeral_limit) (sym v) h) ∙ ap Some v
numeral_again (b ∷ c ∷ bs) n h d v some one =
    let f : (b == 48) ≡ false = test_false b (λ z. let two : length (b ∷ c ∷ bs) ≡ 1 = one z in omega arith) in
    rw f (digits_again 0 (b ∷ c ∷ bs) d (subst (λ k. k < numeral_limit) (sym v) h) ∙ ap Some v)

pub number_found : (w : List ℕ) (n : ℕ) → number_at w ≡ Some n → (w ≡ decimal n) × HasNumeral n
unfolding number_at
number_found [] n e = absurd (cc)
number_found (b ∷ []) n e =
    let r = digits_some 0 (b ∷ []) n (omega arith) e in
    let d : decimal (read_on 0 (b ∷ [])) ≡ b ∷ [] = decimal-digits_value own (b ∷ []) r.0 (omega arith) (λ _. refl) (omega (arith, r.1, r.2)) in
    (sym d ∙ ap decimal r.1, r.2)
number_found (b ∷ c ∷ bs) n e =
    let g = guard_none (b == 48) (digits_from 0 (b ∷ c ∷ bs)) n e in
    let r = digits_some 0 (b ∷ c ∷ bs) n (omega arith) g.1 in
    let d : decimal (read_on 0 (b ∷ c ∷ bs)) ≡ b ∷ c ∷ bs = decimal-digits_value own (b ∷ c ∷ bs) r.0 (omega arith) (λ z. absurd (not_zero b z g.0)) (omega (arith, r.1, r.2)) in
    (sym d ∙ ap decimal r.1, r.2)

pub number_again : (n : ℕ) → HasNumeral n → number_at (decimal n) ≡ Some n
number_again n h =
    let fits : n < 2 ^ 64 = omega arith in
    numeral_again (decimal n) n h (digits_decimal own n fits) (digits_value-decimal own n fits) (decimal_nonempty n fits) (first_is n fits)

-- literals

pub some_same : {A : Type 0} {x y : A} → Some x ≡ Some y → x ≡ y
some_same e = cc

pub suc_not_zero : (n : ℕ) → (suc n == 0) ≡ false
suc_not_zero n = grind (arith, nat_tests)

pub signed_suc : (p : Bool) (n : ℕ) → signed p (suc n) ≡ Some (record { var = suc n; positive = p })
signed_suc p n = rw (suc_not_zero n) refl

pub signed_some : (p : Bool) (o : Option ℕ) (l : WideLit) → option_and_then (signed p) o ≡ Some l → (o ≡ Some l.var) × (1 ≤ l.var) × (l.positive ≡ p)
signed_some p None l e = absurd (cc)
signed_some p (Some zero) l e = absurd (cc)
signed_some p (Some (suc n)) l e =
    let same : record { var = suc n; positive = p } ≡ l = some_same (sym (signed_suc p n) ∙ e) in
    (ap (λ (k : WideLit). Some k.var) same, subst (λ (k : WideLit). 1 ≤ k.var) same (omega arith), ap (λ (k : WideLit). k.positive) (sym same))

pub word_neg : (l : WideLit) → l.positive ≡ false → literal_word l ≡ 45 ∷ decimal l.var
word_neg l e = rw e refl

pub word_pos : (l : WideLit) → l.positive ≡ true → literal_word l ≡ decimal l.var
word_pos l e = rw e refl

pub is_45 : (b : ℕ) → (b == 45) ≡ true → b ≡ 45
is_45 b e = grind (arith, nat_tests)

pub by_sign : (t : Bool) (b : ℕ) (bs : List ℕ) (l : WideLit) → (b == 45) ≡ t → cond t (option_and_then (signed false) (number_at bs)) (option_and_then (signed true) (number_at (b ∷ bs))) ≡ Some l → (b ∷ bs ≡ literal_word l) × IsLiteral l
by_sign true b bs l t e =
    let s = signed_some false (number_at bs) l e in
    let n = number_found bs l.var s.0 in
    let x : b ≡ 45 = is_45 b t in
    (rw (x, n.0) (sym (word_neg l s.2)), record { low = s.1; high = n.1 })
by_sign false b bs l t e =
    let s = signed_some true (number_at (b ∷ bs)) l e in
    let n = number_found (b ∷ bs) l.var s.0 in
    (n.0 ∙ sym (word_pos l s.2), record { low = s.1; high = n.1 })

pub digit_not_45 : (b : ℕ) → is_ascii_digit b ≡ true → (b == 45) ≡ false
digit_not_45 b e = grind (arith, nat_tests)

pub number_nil : (n : ℕ) → number_at [] ≡ Some (suc n) → ⊥
unfolding number_at
number_nil n e = cc

pub positive_again : (w : List ℕ) (n : ℕ) → all_ascii_digits w ≡ true → number_at w ≡ Some (suc n) → literal_at w ≡ Some (record { var = suc n; positive = true })
unfolding literal_at
positive_again [] n d e = absurd (number_nil n e)
positive_again (b ∷ bs) n d e = rw (digit_not_45 b (both_true (is_ascii_digit b) (all_ascii_digits bs) d).0, e) (signed_suc true n)

pub negative_again : (w : List ℕ) (n : ℕ) → number_at w ≡ Some (suc n) → literal_at (45 ∷ w) ≡ Some (record { var = suc n; positive = false })
unfolding literal_at
negative_again w n e = rw e (signed_suc false n)

pub again_at : (p : Bool) (n : ℕ) → 1 ≤ n → HasNumeral n → literal_at (literal_word (record { var = n; positive = p })) ≡ Some (record { var = n; positive = p })
again_at p zero low h = absurd (omega arith)
again_at true (suc n) low h = positive_again (decimal (suc n)) n (digits_decimal own (suc n) (omega arith)) (number_again (suc n) h)
again_at false (suc n) low h = negative_again (decimal (suc n)) n (number_again (suc n) h)

pub literal_found : (w : List ℕ) (l : WideLit) → literal_at w ≡ Some l → (w ≡ literal_word l) × IsLiteral l
unfolding literal_at
literal_found [] l e = absurd (cc)
literal_found (b ∷ bs) l e = by_sign (b == 45) b bs l refl e

pub literal_again : (l : WideLit) → IsLiteral l → literal_at (literal_word l) ≡ Some l
literal_again l h = again_at l.positive l.var h.low h.high

pub found_if : (w : List ℕ) (r : Option ℕ) → r ≡ number_at w → IfSome r (λ n. (w ≡ decimal n) × HasNumeral n)
found_if w None e = tt
found_if w (Some n) e = number_found w n (sym e)

pub none_if : (w : List ℕ) (r : Option ℕ) → r ≡ number_at w → IfNone r ((n : ℕ) → HasNumeral n → w ≢ decimal n)
none_if w None e = λ n h f. let g : number_at w ≡ Some n = ap number_at f ∙ number_again n h in cc
none_if w (Some n) e = tt

pub literal_if : (w : List ℕ) (r : Option WideLit) → r ≡ literal_at w → IfSome r (λ l. (w ≡ literal_word l) × IsLiteral l)
literal_if w None e = tt
literal_if w (Some l) e = literal_found w l (sym e)

pub no_literal_if : (w : List ℕ) (r : Option WideLit) → r ≡ literal_at w → IfNone r ((l : WideLit) → IsLiteral l → w ≢ literal_word l)
no_literal_if w None e = λ l h f. let g : literal_at w ≡ Some l = ap literal_at f ∙ literal_again l h in cc
no_literal_if w (Some l) e = tt
