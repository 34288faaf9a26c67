-- The tokens of a word that ends, and of the names of atoms.
use Rattle.std.proofs.Common.{◌≡◌, ◌≢◌, ℕ, ◌+◌, ◌<◌, Bool, true, false, not, ◌||◌, List, [], ◌∷◌, ◌++◌, length, cond, refl, ap, ◌∙◌, arith, suc, zero}
use Rattle.std.specs.List.{list_all, list_any, position_or_len}
use Rattle.std.specs.Str.{bytes_eq}
use Rattle.std.proofs.lemmas.Slice.Eq.{bytes_eq-Decides}
use Rattle.report_words.proofs.Numerals.{both_true}
use Rattle.formulas.specs.Names.{is_word_byte, is_name, is_plain_name, is_reserved, are_names, are_distinct}
use Rattle.formula_text.specs.CanonicalText.{name_of}
use Rattle.line_tokens.specs.Bytes.{is_bad, starts_word}
use Rattle.line_tokens.specs.Lexemes.{word, lexemes_of, with_word_byte}
use Rattle.line_tokens.proofs.Words.{if_true, word_not_bad}

-- a word and then a text that does not go on with it
pub word_then : (b : ℕ) (w rest : List ℕ) → list_all is_word_byte (b ∷ w) ≡ true → starts_word rest ≡ false →
    lexemes_of (b ∷ w ++ rest) ≡ word (b ∷ w) ∷ lexemes_of rest
word_then b [] rest all stop =
    if_true (is_word_byte b) _ _ (both_true (is_word_byte b) true all).0 ∙ ap (λ t. with_word_byte b t (lexemes_of rest)) stop
word_then b (c ∷ w) rest all stop =
    let parts = both_true (is_word_byte b) (list_all is_word_byte (c ∷ w)) all in
    let more = both_true (is_word_byte c) (list_all is_word_byte w) parts.1 in
    if_true (is_word_byte b) _ _ parts.0 ∙ ap (λ t. with_word_byte b t (lexemes_of (c ∷ w ++ rest))) more.0
    ∙ ap (with_word_byte b true) (word_then c w rest parts.1 stop)

-- a word that has bytes, each a word byte
pub record IsWord (w : List ℕ) : Type 0 where
  pub some : w ≢ []
  pub all : list_all is_word_byte w ≡ true

pub token_of_word : (w rest : List ℕ) → IsWord w → starts_word rest ≡ false → lexemes_of (w ++ rest) ≡ word w ∷ lexemes_of rest
token_of_word [] rest is stop = absurd (is.some refl)
token_of_word (b ∷ w) rest is stop = word_then b w rest is.all stop

pub word_has_no_bad : (w : List ℕ) → list_all is_word_byte w ≡ true → list_any is_bad w ≡ false
word_has_no_bad [] h = refl
word_has_no_bad (b ∷ w) h =
    let parts = both_true (is_word_byte b) (list_all is_word_byte w) h in
    ap (λ t. t || list_any is_bad w) (word_not_bad b parts.0) ∙ word_has_no_bad w parts.1

-- what is known of the name of an atom
pub record IsAtomName (names : List (List ℕ)) (k : ℕ) : Type 0 where
  pub word : IsWord (name_of names k)
  pub plain : is_plain_name (name_of names k) ≡ true
  pub free : is_reserved (name_of names k) ≡ false
  pub number : position_or_len (bytes_eq (name_of names k)) names ≡ k

pub plain_word : (w : List ℕ) → is_plain_name w ≡ true → IsWord w
plain_word [] h = absurd (cc)
plain_word (b ∷ w) h = record { some = λ e. cc; all = (both_true _ (list_all is_word_byte (b ∷ w)) h).1 }

name_at : (names : List (List ℕ)) (k : ℕ) → list_all is_name names ≡ true → k < length names → is_name (name_of names k) ≡ true
name_at [] k all h = absurd (omega (arith, h))
name_at (n ∷ names) zero all h = (both_true (is_name n) (list_all is_name names) all).0
name_at (n ∷ names) (suc k) all h = name_at names k (both_true (is_name n) (list_all is_name names) all).1 (omega (arith, h))

none_at : (p : List ℕ → Bool) (names : List (List ℕ)) (k : ℕ) → list_any p names ≡ false → k < length names → p (name_of names k) ≡ false
none_at p [] k none h = absurd (omega (arith, h))
none_at p (n ∷ names) zero none h = grind arith
none_at p (n ∷ names) (suc k) none h = none_at p names k (grind arith) (omega (arith, h))

place_of : (names : List (List ℕ)) (k : ℕ) → are_distinct names ≡ true → k < length names → position_or_len (bytes_eq (name_of names k)) names ≡ k
place_of [] k distinct h = absurd (omega (arith, h))
place_of (n ∷ names) zero distinct h =
    let same : bytes_eq n n ≡ true = grind (arith, bytes_eq-Decides n n) in
    ap (λ t. cond (not t) (1 + position_or_len (bytes_eq n) names) 0) same
place_of (n ∷ names) (suc k) distinct h =
    let w = name_of names k in
    let parts = both_true (not (list_any (bytes_eq n) names)) (are_distinct names) distinct in
    let absent : list_any (bytes_eq n) names ≡ false = grind arith in
    let other = none_at (bytes_eq n) names k absent (omega (arith, h)) in
    let different : bytes_eq w n ≡ false = grind (arith, bytes_eq-Decides n w, bytes_eq-Decides w n) in
    ap (λ t. cond (not t) (1 + position_or_len (bytes_eq w) names) 0) different ∙ ap (λ i. 1 + i) (place_of names k parts.1 (omega (arith, h))) ∙ omega arith

pub atom_name : (names : List (List ℕ)) (k : ℕ) → are_names names ≡ true → k < length names → IsAtomName names k
atom_name names k are h =
    let parts = both_true (list_all is_name names) (are_distinct names) are in
    let name = name_at names k parts.0 h in
    let plain : is_plain_name (name_of names k) ≡ true = grind arith in
    record { word = plain_word (name_of names k) plain; plain = plain; free = (grind arith); number = place_of names k parts.1 h }
