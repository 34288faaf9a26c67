-- The symbols that tokens stand for, over the names of the atoms.
use Rattle.std.specs.Prelude.{ℕ, ◌+◌, ◌-◌, Bool, true, false, not, ◌&&◌, List, [], ◌∷◌, map, max, nat_le, codes, if◌then◌else◌}
use Rattle.std.specs.List.{position_or_len, list_any}
use Rattle.std.specs.Str.{bytes_eq}
use Rattle.formulas.specs.Names.{is_plain_name, is_reserved}
use Rattle.line_tokens.specs.Lexemes.{Lexeme, bang, ampersand, bar, arrow, both_arrow, open_bracket, close_bracket, colon, stray, word}
use Rattle.formula_grammar.specs.declared.symbol.Symbol.{Symbol}
use Rattle.formula_grammar.specs.declared.symbol.Symbol.TheVariants.{Bang, Ampersand, Bar, Arrow, BothArrow, Open, Close, True, False, Name, Foreign}

-- the number of the atom of this name, or the number of atoms where there is none
abbrev pub number_in : List (List ℕ) → List ℕ → ℕ
number_in atoms name = position_or_len (bytes_eq name) atoms

abbrev pub word_symbol : List (List ℕ) → List ℕ → Symbol
word_symbol atoms w =
    if bytes_eq w (codes "true") then True
    else if bytes_eq w (codes "false") then False
    else if is_plain_name w then Name (number_in atoms w)
    else Foreign

abbrev pub symbol_of : List (List ℕ) → Lexeme → Symbol
symbol_of atoms bang = Bang
symbol_of atoms ampersand = Ampersand
symbol_of atoms bar = Bar
symbol_of atoms arrow = Arrow
symbol_of atoms both_arrow = BothArrow
symbol_of atoms open_bracket = Open
symbol_of atoms close_bracket = Close
symbol_of atoms colon = Foreign
symbol_of atoms stray = Foreign
symbol_of atoms (word w) = word_symbol atoms w

abbrev pub symbols_of : List (List ℕ) → List Lexeme → List Symbol
symbols_of atoms ts = map (symbol_of atoms) ts

-- the name of an atom that is not there
abbrev pub is_unknown : List (List ℕ) → Lexeme → Bool
is_unknown atoms (word w) = is_plain_name w && not (is_reserved w) && not (list_any (bytes_eq w) atoms)
is_unknown atoms _ = false

-- a name whose number is that of no atom
abbrev pub is_past : ℕ → Symbol → Bool
is_past atoms (Name k) = nat_le atoms k
is_past atoms _ = false

-- a constant, an atom or a connective, and so no bracket
abbrev pub is_node : Lexeme → Bool
is_node open_bracket = false
is_node close_bracket = false
is_node _ = true

-- how many brackets are open after a token, with this many open before it
abbrev pub opened : ℕ → Lexeme → ℕ
opened n open_bracket = n + 1
opened n close_bracket = n - 1
opened n _ = n

-- the most brackets that are open at one place of the tokens, with this many open before them
abbrev pub most_open : ℕ → List Lexeme → ℕ
most_open n [] = n
most_open n (t ∷ ts) = max n (most_open (opened n t) ts)
