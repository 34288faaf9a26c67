-- A line is its words, and words without blanks are those of their line.
use Rattle.std.proofs.Common.{◌≡◌, ℕ, ◌<◌, Bool, true, false, cond, List, [], ◌∷◌, ◌++◌, length, decimal, refl, ap, sym, ◌∙◌, arith}
use Rattle.std.specs.Prelude.{eqb}
use Rattle.std.specs.List.{AllByRecursion, onto_first}
use Rattle.std.specs.Char.{is_ascii_digit}
use Rattle.std.specs.Str.{all_ascii_digits}
use Rattle.std.proofs.lemmas.List.{append-nil}
use Rattle.std.proofs.lemmas.List.Splits.{slice_split_none, slice_split_at, length-slice_split}
use Rattle.std.proofs.lemmas.List.Elements.{All-from_recursion}
use Rattle.std.proofs.lemmas.List.Concat.{flat_map-cons}
use Rattle.std.proofs.lemmas.Bool.{eqb-true}
use Rattle.std.proofs.lemmas.Bool.Decides.{nat_tests}
use Rattle.std.proofs.lemmas.Fmt.{digits_decimal}
use Rattle.report_words.specs.declared.numbers.WideLit.{WideLit}
use Rattle.report_words.specs.Numbers.{HasNumeral, IsLiteral, literal_word}
use Rattle.report_words.specs.Words.{words_of, line_of, later_text}
use Rattle.report_words.proofs.FirstWords.{HasNoBlank}
use Rattle.report_words.proofs.Numerals.{own, both_true}

pub words_of_line : (w : List ℕ) (ws : List (List ℕ)) → HasNoBlank w → AllByRecursion HasNoBlank ws → words_of (line_of (w ∷ ws)) ≡ w ∷ ws
words_of_line w [] h hs = ap words_of (append-nil w) ∙ slice_split_none (λ b. eqb b 32) w h
words_of_line w (v ∷ vs) h hs =
    let e : line_of (w ∷ v ∷ vs) ≡ w ++ 32 ∷ line_of (v ∷ vs) = ap (λ (x : List ℕ). w ++ x) (flat_map-cons (λ (x : List ℕ). 32 ∷ x) v vs) in
    ap words_of e ∙ (slice_split_at (λ b. eqb b 32) w 32 (line_of (v ∷ vs)) h refl ∙ ap (λ (x : List (List ℕ)). w ∷ x) (words_of_line v vs hs.0 hs.1))

line_by : (c : Bool) (b : ℕ) (ws : List (List ℕ)) → eqb b 32 ≡ c → 0 < length ws → line_of (cond c ([] ∷ ws) (onto_first b ws)) ≡ b ∷ line_of ws
line_by c b [] e h = absurd (omega arith)
line_by true b (w ∷ ws) e h = flat_map-cons (λ (x : List ℕ). 32 ∷ x) w ws ∙ ap (λ (k : ℕ). k ∷ (w ++ later_text ws)) (sym (eqb-true b 32 e))
line_by false b (w ∷ ws) e h = refl

pub line_of_words : (line : List ℕ) → line_of (words_of line) ≡ line
line_of_words [] = refl
line_of_words (b ∷ bs) =
    let some : 0 < length (words_of bs) = omega (arith, length-slice_split (λ b. eqb b 32) bs) in
    line_by (eqb b 32) b (words_of bs) refl some ∙ ap (λ (x : List ℕ). b ∷ x) (line_of_words bs)

digit_plain : (b : ℕ) → is_ascii_digit b ≡ true → eqb b 32 ≡ false
digit_plain b e = grind (arith, nat_tests)

digits_plain : (bs : List ℕ) → all_ascii_digits bs ≡ true → AllByRecursion (λ b. eqb b 32 ≡ false) bs
digits_plain [] e = tt
digits_plain (b ∷ bs) e =
    let t = both_true (is_ascii_digit b) (all_ascii_digits bs) e in
    (digit_plain b t.0, digits_plain bs t.1)

pub decimal_plain : (n : ℕ) → HasNumeral n → HasNoBlank (decimal n)
decimal_plain n h = All-from_recursion (λ b. eqb b 32 ≡ false) (decimal n) (digits_plain (decimal n) (digits_decimal own n (omega arith)))

plain_at : (p : Bool) (n : ℕ) → HasNumeral n → HasNoBlank (literal_word (record { var = n; positive = p }))
plain_at true n h = decimal_plain n h
plain_at false n h = All-from_recursion (λ b. eqb b 32 ≡ false) (45 ∷ decimal n) (refl, digits_plain (decimal n) (digits_decimal own n (omega arith)))

pub literal_plain : (l : WideLit) → IsLiteral l → HasNoBlank (literal_word l)
literal_plain l h = plain_at l.positive l.var h.high

-- a line that is the text of words without blanks has these words
pub words_at : (line w : List ℕ) (ws : List (List ℕ)) → HasNoBlank w → AllByRecursion HasNoBlank ws → line ≡ line_of (w ∷ ws) → words_of line ≡ w ∷ ws
words_at line w ws h hs e = ap words_of e ∙ words_of_line w ws h hs

pub line_at : (line : List ℕ) (ws : List (List ℕ)) → words_of line ≡ ws → line ≡ line_of ws
line_at line ws e = sym (line_of_words line) ∙ ap line_of e
