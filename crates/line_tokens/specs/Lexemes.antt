-- The tokens of a text.
use Rattle.std.specs.Prelude.{ℕ, Bool, true, List, [], ◌∷◌, ◌==◌, ◌&&◌, if◌then◌else◌, nat_eq, drop}
use Rattle.std.specs.List.{starts_with}
use Rattle.formulas.specs.Names.{is_word_byte}
use Rattle.line_tokens.specs.Bytes.{is_blank, starts_word}
use Rattle.line_tokens.specs.declared.token.Token.{Token}
use Rattle.line_tokens.specs.declared.token.Token.TheVariants.{Bang, Ampersand, Bar, Arrow, BothArrow, Open, Close, Colon, Stray, Word}

-- a token with the bytes of its word
pub data Lexeme : Type 0 where
  bang : Lexeme
  ampersand : Lexeme
  bar : Lexeme
  arrow : Lexeme
  both_arrow : Lexeme
  open_bracket : Lexeme
  close_bracket : Lexeme
  colon : Lexeme
  stray : Lexeme
  word : List ℕ → Lexeme

abbrev pub lexeme_of : Token → Lexeme
lexeme_of Bang = bang
lexeme_of Ampersand = ampersand
lexeme_of Bar = bar
lexeme_of Arrow = arrow
lexeme_of BothArrow = both_arrow
lexeme_of Open = open_bracket
lexeme_of Close = close_bracket
lexeme_of Colon = colon
lexeme_of Stray = stray
lexeme_of (Word w) = word w.now

-- the token of one byte that is no part of a word or an arrow
abbrev pub mark_of : ℕ → Lexeme
mark_of b =
    if b == 33 then bang
    else if b == 38 then ampersand
    else if b == 124 then bar
    else if b == 40 then open_bracket
    else if b == 41 then close_bracket
    else if b == 58 then colon
    else stray

-- a word byte before the tokens of a text that goes on with the word, or does not
abbrev pub with_word_byte : ℕ → Bool → List Lexeme → List Lexeme
with_word_byte b true (word w ∷ ts) = word (b ∷ w) ∷ ts
with_word_byte b _ ts = word (b ∷ []) ∷ ts

-- a byte before a text, from the text's tokens: an arrow takes the place of its own end
abbrev pub tokens_with_byte : ℕ → List ℕ → List Lexeme → List Lexeme
tokens_with_byte b s ts =
    if is_word_byte b then with_word_byte b (starts_word s) ts
    else if is_blank b then ts
    else if b == 45 && starts_with nat_eq s (62 ∷ []) then arrow ∷ drop 1 ts
    else if b == 60 && starts_with nat_eq s (45 ∷ 62 ∷ []) then both_arrow ∷ drop 1 ts
    else mark_of b ∷ ts

-- the tokens of a text; a bad byte is a stray one
abbrev pub lexemes_of : List ℕ → List Lexeme
lexemes_of [] = []
lexemes_of (b ∷ s) = tokens_with_byte b s (lexemes_of s)
