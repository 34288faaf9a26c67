-- The words of places.
use Rattle.std.proofs.Common.{◌≡◌, ℕ, ◌+◌, ◌<◌, ◌≤◌, suc, Bool, true, false, List, [], ◌∷◌, ◌++◌, map, length, get_or, take, drop, set, refl, sym, ap, ◌∙◌, subst, arith, inl, inr, All, Some}
use Rattle.std.specs.Prelude.{slice_get}
use Rattle.std.proofs.lemmas.List.{take_more_set, length-map, take_all, map-append}
use Rattle.std.proofs.lemmas.List.Elements.{All-nil, All-cons, All-head, All-tail}
use Rattle.std.proofs.Math.Seq.{take-suc}
use Rattle.formulas.specs.Limits.{valuation_limit}
use Rattle.formula_text.specs.ValuationWords.{truth_digit, valuation_word}
use Rattle.merge_cli.specs.declared.place.Place.{Place}
use Rattle.merge_cli.specs.declared.place.Place.TheVariants.{Start, Above, TooLong}
use Rattle.merge_cli.specs.Places.{IsPlace, IsTruthDigit, is_one}
use Rattle.report_lines.proofs.OneItem.{same_valuation}

digit_one : (d : ℕ) → IsTruthDigit d → truth_digit (is_one d) ≡ d
digit_one d (inl zero_digit) = rw zero_digit refl
digit_one d (inr one_digit) = rw one_digit refl

-- the word of what digits say
pub spelled_by : (ds : List ℕ) → All IsTruthDigit ds → valuation_word (map is_one ds) ≡ ds
spelled_by [] h = refl
spelled_by (d ∷ ds) h =
    let first : truth_digit (is_one d) ≡ d = digit_one d (All-head IsTruthDigit d ds h) in
    let rest : valuation_word (map is_one ds) ≡ ds = spelled_by ds (All-tail IsTruthDigit d ds h) in
    cc

pub are_digits : (v : List Bool) → All IsTruthDigit (valuation_word v)
are_digits [] = All-nil IsTruthDigit
are_digits (true ∷ v) = All-cons IsTruthDigit 49 (valuation_word v) (inr refl) (are_digits v)
are_digits (false ∷ v) = All-cons IsTruthDigit 48 (valuation_word v) (inl refl) (are_digits v)

-- what one more digit says
pub one_more_digit : (ds : List ℕ) (v : List Bool) (k : ℕ) (d : ℕ) → k < length ds → k < length v → get_or ds k 0 ≡ d → take k v ≡ map is_one (take k ds)
    → take (k + 1) (set v k (is_one d)) ≡ map is_one (take (k + 1) ds)
one_more_digit ds v k d within inside is so_far =
    let next : k + 1 ≡ suc k = omega arith in
    let taken : take (k + 1) ds ≡ take k ds ++ (d ∷ []) = ap (λ j. take j ds) next ∙ take-suc ds k 0 within ∙ ap (λ y. take k ds ++ (y ∷ [])) is in
    take_more_set v k (is_one d) inside ∙ ap (λ (w : List Bool). w ++ is_one d ∷ []) so_far ∙ sym (ap (λ (es : List ℕ). map is_one es) taken ∙ map-append is_one (take k ds) (d ∷ []))

-- all digits are read
pub whole_valuation : (ds : List ℕ) (v : List Bool) (k : ℕ) → length v ≡ length ds → length ds ≤ k → take k v ≡ map is_one (take k ds) → v ≡ map is_one ds
whole_valuation ds v k same over so_far =
    let t : take k v ≡ v = take_all k v (omega arith) in
    let d : take k ds ≡ ds = take_all k ds over in
    sym t ∙ so_far ∙ ap (λ (es : List ℕ). map is_one es) d

-- a word of digits says a place
pub says_long : (word : List ℕ) → All IsTruthDigit word → valuation_limit < length word → IsPlace (word ∷ []) TooLong
says_long word h long =
    let same = spelled_by word h in
    (map is_one word, ap (λ (w : List ℕ). w ∷ []) (sym same), (let n : length (map is_one word) ≡ length word = length-map word is_one in omega (arith, n)))

pub says_above : (word : List ℕ) → All IsTruthDigit word → 1 ≤ length word → length word ≤ valuation_limit → IsPlace (word ∷ []) (Above (map is_one word))
says_above word h some few =
    let same = spelled_by word h in
    let n : length (map is_one word) ≡ length word = length-map word is_one in
    (ap (λ (w : List ℕ). w ∷ []) (sym same), omega (arith, n), omega (arith, n))

-- a word that says a place has digits alone, and at least one
pub place_digits : (word : List ℕ) (place : Place) → IsPlace (word ∷ []) place → (1 ≤ length word) × All IsTruthDigit word
place_digits word Start h = absurd (cc)
place_digits word (Above v) h =
    let same : word ≡ valuation_word v = cc in
    let n : length (valuation_word v) ≡ length v = length-map v truth_digit in
    (let m : length word ≡ length (valuation_word v) = ap length same in omega (arith, n, m, h.1), subst (All IsTruthDigit) (sym same) (are_digits v))
place_digits word TooLong h =
    let v = h.0 in
    let same : word ≡ valuation_word v = cc in
    let n : length (valuation_word v) ≡ length v = length-map v truth_digit in
    (let m : length word ≡ length (valuation_word v) = ap length same in omega (arith, n, m, h.2), subst (All IsTruthDigit) (sym same) (are_digits v))

-- words say one place at most
pub one_place : (words : List (List ℕ)) (p q : Place) → IsPlace words p → IsPlace words q → p ≡ q
one_place words Start Start h k = refl
one_place words Start (Above w) h k = absurd (cc)
one_place words Start TooLong h k = absurd (let e = k.1 in cc)
one_place words (Above v) Start h k = absurd (cc)
one_place words (Above v) (Above w) h k = let e : valuation_word v ≡ valuation_word w = cc in ap Above (same_valuation v w e)
one_place words (Above v) TooLong h k =
    let e = k.1 in
    let same : valuation_word v ≡ valuation_word k.0 = cc in
    absurd (let n : length v ≡ length k.0 = ap length (same_valuation v k.0 same) in omega (arith, n, h.2, k.2))
one_place words TooLong Start h k = absurd (let e = h.1 in cc)
one_place words TooLong (Above w) h k =
    let e = h.1 in
    let same : valuation_word w ≡ valuation_word h.0 = cc in
    absurd (let n : length w ≡ length h.0 = ap length (same_valuation w h.0 same) in omega (arith, n, k.2, h.2))
one_place words TooLong TooLong h k = refl

-- the fifth of five words
pub last_word : (words : List (List ℕ)) (w : List ℕ) → length words ≡ 5 → slice_get words 4 ≡ Some w → drop 4 words ≡ w ∷ []
last_word (a ∷ b ∷ c ∷ d ∷ e ∷ []) w n is = cc
last_word [] w n is = absurd (omega arith)
last_word (a ∷ []) w n is = absurd (omega arith)
last_word (a ∷ b ∷ []) w n is = absurd (omega arith)
last_word (a ∷ b ∷ c ∷ []) w n is = absurd (omega arith)
last_word (a ∷ b ∷ c ∷ d ∷ []) w n is = absurd (omega arith)
last_word (a ∷ b ∷ c ∷ d ∷ e ∷ f ∷ ws) w n is = absurd (omega arith)
