-- A text has at most as many tokens as bytes.
use Rattle.std.proofs.Common.{ℕ, ◌+◌, ◌≤◌, Bool, true, false, ◌==◌, ◌&&◌, List, [], ◌∷◌, length, drop, nat_eq, if◌then◌else◌, arith}
use Rattle.std.specs.List.{starts_with}
use Rattle.std.proofs.lemmas.List.{length-drop}
use Rattle.formulas.specs.Names.{is_word_byte}
use Rattle.line_tokens.specs.Bytes.{is_blank, starts_word}
use Rattle.line_tokens.specs.Lexemes.{Lexeme, bang, ampersand, bar, arrow, both_arrow, open_bracket, close_bracket, colon, stray, word, lexemes_of, with_word_byte, tokens_with_byte, mark_of}

size_with_word_byte : (b : ℕ) (w : Bool) (ts : List Lexeme) → length (with_word_byte b w ts) ≤ length ts + 1
size_with_word_byte b true (word w ∷ ts) = omega arith
size_with_word_byte b true [] = omega arith
size_with_word_byte b true (bang ∷ ts) = omega arith
size_with_word_byte b true (ampersand ∷ ts) = omega arith
size_with_word_byte b true (bar ∷ ts) = omega arith
size_with_word_byte b true (arrow ∷ ts) = omega arith
size_with_word_byte b true (both_arrow ∷ ts) = omega arith
size_with_word_byte b true (open_bracket ∷ ts) = omega arith
size_with_word_byte b true (close_bracket ∷ ts) = omega arith
size_with_word_byte b true (colon ∷ ts) = omega arith
size_with_word_byte b true (stray ∷ ts) = omega arith
size_with_word_byte b false ts = omega arith

abbrev Fits : List Lexeme → List Lexeme → Type 0
Fits ts rest = length ts ≤ length rest + 1

size_on : (a b c d : Bool) (v w x y z ts : List Lexeme) → Fits v ts → Fits w ts → Fits x ts → Fits y ts → Fits z ts →
    Fits (if a then v else if b then w else if c then x else if d then y else z) ts
size_on true b c d v w x y z ts h i j k l = h
size_on false true c d v w x y z ts h i j k l = i
size_on false false true d v w x y z ts h i j k l = j
size_on false false false true v w x y z ts h i j k l = k
size_on false false false false v w x y z ts h i j k l = l

size_with_byte : (b : ℕ) (s : List ℕ) (ts : List Lexeme) → length (tokens_with_byte b s ts) ≤ length ts + 1
size_with_byte b s ts =
    size_on (is_word_byte b) (is_blank b) (b == 45 && starts_with nat_eq s (62 ∷ [])) (b == 60 && starts_with nat_eq s (45 ∷ 62 ∷ []))
    (with_word_byte b (starts_word s) ts) ts (arrow ∷ drop 1 ts) (both_arrow ∷ drop 1 ts) (mark_of b ∷ ts) ts
    (size_with_word_byte b (starts_word s) ts) (omega arith) (omega (arith, length-drop 1 ts)) (omega (arith, length-drop 1 ts)) (omega arith)

pub token_count : (s : List ℕ) → length (lexemes_of s) ≤ length s
token_count [] = omega arith
token_count (b ∷ s) = omega (arith, size_with_byte b s (lexemes_of s), token_count s)
