-- A word at the front of a text is its first token.
use Rattle.std.proofs.Common.{◌≡◌, ℕ, ◌+◌, ◌≤◌, ◌<◌, Bool, true, false, ◌||◌, not, List, [], ◌∷◌, take, drop, map, ◌++◌, append_assoc, slice_index, cond, if◌then◌else◌, refl, ap, sym, subst, nat_eq, ◌∙◌, arith, suc, zero, lit<}
use Rattle.std.specs.Cmp.Lexicographic.{same_text}
use Rattle.std.specs.List.{list_any, prefix_len, starts_with}
use Rattle.std.proofs.lemmas.Bool.Decides.{nat_tests}
use Rattle.std.proofs.lemmas.List.{map-append, take-append-drop}
use Rattle.std.proofs.lemmas.List.Sums.{prefix_len-le-length}
use Rattle.formulas.specs.Names.{is_word_byte}
use Rattle.line_tokens.specs.Bytes.{is_blank, is_mark_byte, is_bad, starts_word}
use Rattle.line_tokens.specs.Lexemes.{Lexeme, word, both_arrow, lexeme_of, lexemes_of, with_word_byte}
use Rattle.line_tokens.specs.declared.token.Token.{Token}
use Rattle.line_tokens.specs.Cuts.{BeginsWith}

pub if_true : {X : Type 0} (b : Bool) (x y : X) → b ≡ true → (if b then x else y) ≡ x
if_true b x y h = ap (λ t. if t then x else y) h

pub word_not_bad : (b : ℕ) → is_word_byte b ≡ true → is_bad b ≡ false
word_not_bad b h = ap (λ t. not (t || is_blank b || is_mark_byte b)) h

-- the number of word bytes at the front
abbrev pub word_size : List ℕ → ℕ
word_size s = prefix_len is_word_byte s

one_more : (b : ℕ) (s : List ℕ) → is_word_byte b ≡ true → word_size (b ∷ s) ≡ suc (word_size s)
one_more b s h = ap (λ t. cond t (1 + word_size s) 0) h ∙ omega arith

-- the tokens of a text that begins with a word
abbrev AsWord : List ℕ → ℕ → List Lexeme
AsWord s n = word (take n s) ∷ lexemes_of (drop n s)

stop : (s : List ℕ) → starts_word s ≡ false → word_size s ≡ 0
stop [] h = refl
stop (b ∷ s) h = ap (λ t. cond t (1 + word_size s) 0) h

grow : (b : ℕ) (s : List ℕ) (w : Bool) → starts_word s ≡ w → (w ≡ true → lexemes_of s ≡ AsWord s (word_size s)) →
    with_word_byte b w (lexemes_of s) ≡ word (b ∷ take (word_size s) s) ∷ lexemes_of (drop (word_size s) s)
grow b s true e more = ap (with_word_byte b true) (more refl)
grow b s false e more =
    let none : 0 ≡ word_size s = sym (stop s e) in
    ap (λ n. word (b ∷ take n s) ∷ lexemes_of (drop n s)) none

pub word_tokens : (s : List ℕ) → starts_word s ≡ true → lexemes_of s ≡ AsWord s (word_size s)
word_tokens [] h = absurd (cc)
word_tokens (b ∷ s) h =
    if_true (is_word_byte b) _ _ h ∙ grow b s (starts_word s) refl (λ e. word_tokens s e) ∙ ap (AsWord (b ∷ s)) (sym (one_more b s h))

good_on : (b : ℕ) (s : List ℕ) (w : Bool) → is_word_byte b ≡ w → list_any is_bad s ≡ list_any is_bad (drop (word_size s) s) →
    list_any is_bad (b ∷ s) ≡ list_any is_bad (drop (word_size (b ∷ s)) (b ∷ s))
good_on b s true e rest =
    ap (λ t. t || list_any is_bad s) (word_not_bad b e) ∙ rest ∙ ap (λ n. list_any is_bad (drop n (b ∷ s))) (sym (one_more b s e))
good_on b s false e rest = ap (λ n. list_any is_bad (drop n (b ∷ s))) (sym (stop (b ∷ s) e))

pub word_good : (s : List ℕ) → list_any is_bad s ≡ list_any is_bad (drop (word_size s) s)
word_good [] = refl
word_good (b ∷ s) = good_on b s (is_word_byte b) refl (word_good s)

pub word_some : (s : List ℕ) → starts_word s ≡ true → 1 ≤ word_size s
word_some [] h = absurd (cc)
word_some (b ∷ s) h = omega (arith, one_more b s h)

pub begins_with_word : (s : List ℕ) → starts_word s ≡ true → BeginsWith s (word (take (word_size s) s)) (word_size s)
begins_with_word s h = record { some = word_some s h; within = prefix_len-le-length is_word_byte s; tokens = word_tokens s h; good = word_good s }

pub starts_at : (s : List ℕ) → true ≡ is_word_byte (slice_index s 0) → starts_word s ≡ true
starts_at [] h = absurd (cc)
starts_at (b ∷ s) h = sym h

-- the tokens found so far, and then the next one
pub after_first : (found : List Token) (token : Token) (rest all : List ℕ) (n : ℕ) → BeginsWith rest (lexeme_of token) n →
    map lexeme_of found ++ lexemes_of rest ≡ lexemes_of all → map lexeme_of (found ++ token ∷ []) ++ lexemes_of (drop n rest) ≡ lexemes_of all
after_first found token rest all n first e =
    ap (λ ts. ts ++ lexemes_of (drop n rest)) (map-append lexeme_of found (token ∷ []))
    ∙ append_assoc (map lexeme_of found) (lexeme_of token ∷ []) (lexemes_of (drop n rest))
    ∙ ap (λ ts. map lexeme_of found ++ ts) (sym first.tokens) ∙ e

both_arrow_before : (s : List ℕ) → BeginsWith (60 ∷ 45 ∷ 62 ∷ s) both_arrow 3
both_arrow_before s = record { some = omega arith; within = omega arith; tokens = refl; good = refl }

pub both_arrow_first : (s : List ℕ) → true ≡ starts_with nat_eq s (60 ∷ 45 ∷ 62 ∷ []) → BeginsWith s both_arrow 3
both_arrow_first s h =
    let same = same_text (60 ∷ 45 ∷ 62 ∷ []) (take 3 s) h in
    let all : (60 ∷ 45 ∷ 62 ∷ []) ++ drop 3 s ≡ s = ap (λ w. w ++ drop 3 s) same ∙ take-append-drop 3 s in
    subst (λ (x : List ℕ). BeginsWith x both_arrow 3) all (both_arrow_before (drop 3 s))

word_small : (b : ℕ) → is_word_byte b ≡ true → b < 128
word_small b h = grind (arith, nat_tests)

ascii_at : (b : ℕ) (w : List ℕ) (i : ℕ) → b < 128 → ((j : ℕ) → slice_index w j < 128) → slice_index (b ∷ w) i < 128
ascii_at b w zero small rest = small
ascii_at b w (suc i) small rest = rest i

ascii_on : (b : ℕ) (s : List ℕ) (w : Bool) (i : ℕ) → is_word_byte b ≡ w → ((j : ℕ) → slice_index (take (word_size s) s) j < 128) →
    slice_index (take (word_size (b ∷ s)) (b ∷ s)) i < 128
ascii_on b s true i e rest =
    let P : ℕ → Type 0 = λ n. slice_index (take n (b ∷ s)) i < 128 in
    subst P (sym (one_more b s e)) (ascii_at b (take (word_size s) s) i (word_small b e) rest)
ascii_on b s false i e rest =
    let P : ℕ → Type 0 = λ n. slice_index (take n (b ∷ s)) i < 128 in
    subst P (sym (stop (b ∷ s) e)) (lit< tt)

-- a word is ASCII
pub word_ascii : (s : List ℕ) (i : ℕ) → slice_index (take (word_size s) s) i < 128
word_ascii [] i = lit< tt
word_ascii (b ∷ s) i = ascii_on b s (is_word_byte b) i refl (word_ascii s)
