-- A name that is not there has the number of atoms for its number.
use Rattle.std.proofs.Common.{◌≡◌, ℕ, ◌+◌, ◌≤◌, Bool, true, false, not, ◌&&◌, ◌||◌, List, [], ◌∷◌, length, cond, position, unwrap_or, Some, None, nat_le, nat_lt, codes, count_by, suc, refl, ap, sym, ◌∙◌, arith, if◌then◌else◌}
use Rattle.std.specs.List.{position_or_len, list_any}
use Rattle.std.specs.Str.{bytes_eq}
use Rattle.std.proofs.lemmas.Bool.Decides.{nat_tests}
use Rattle.std.proofs.lemmas.List.Sums.{prefix_len-le-length, sum_by-cons}
use Rattle.formulas.specs.Names.{is_plain_name}
use Rattle.line_tokens.specs.Lexemes.{Lexeme, bang, ampersand, bar, arrow, both_arrow, open_bracket, close_bracket, colon, stray, word}
use Rattle.formula_grammar.specs.declared.symbol.Symbol.{Symbol}
use Rattle.formula_grammar.specs.declared.symbol.Symbol.TheVariants.{Open, Close, True, False, Name, Foreign}
use Rattle.formula_grammar.specs.Symbols.{number_in, symbol_of, symbols_of, is_unknown, is_past, is_node}

at_test : (t : Bool) (n k : ℕ) → nat_lt k n ≡ t → k ≤ n → unwrap_or (cond t (Some k) None) n ≡ k
at_test true n k e h = refl
at_test false n k e h = grind (arith, nat_tests)

pub position_or_length : {X : Type 0} (p : X → Bool) (xs : List X) → unwrap_or (position p xs) (length xs) ≡ position_or_len p xs
position_or_length p xs = at_test (nat_lt (position_or_len p xs) (length xs)) (length xs) (position_or_len p xs) refl (prefix_len-le-length (λ x. not (p x)) xs)

past_on : (t : Bool) (n k : ℕ) (rest : Bool) → nat_le n k ≡ not rest → nat_le (suc n) (cond (not t) (1 + k) 0) ≡ not (t || rest)
past_on true n k rest h = grind (arith, nat_tests)
past_on false n k rest h = grind (arith, nat_tests)

-- a name is past the atoms where it is none of theirs
past_position : {X : Type 0} (p : X → Bool) (xs : List X) → nat_le (length xs) (position_or_len p xs) ≡ not (list_any p xs)
past_position p [] = refl
past_position p (x ∷ xs) = past_on (p x) (length xs) (position_or_len p xs) (list_any p xs) (past_position p xs)

word_past_on : (a b c u : Bool) (n k : ℕ) → nat_le n k ≡ not u →
    is_past n (if a then True else if b then False else if c then Name k else Foreign) ≡ (c && not (a || b) && not u)
word_past_on true b true u n k h = refl
word_past_on true b false u n k h = refl
word_past_on false true true u n k h = refl
word_past_on false true false u n k h = refl
word_past_on false false true u n k h = h
word_past_on false false false u n k h = refl

past_symbol : (atoms : List (List ℕ)) (t : Lexeme) → is_past (length atoms) (symbol_of atoms t) ≡ is_unknown atoms t
past_symbol atoms bang = refl
past_symbol atoms ampersand = refl
past_symbol atoms bar = refl
past_symbol atoms arrow = refl
past_symbol atoms both_arrow = refl
past_symbol atoms open_bracket = refl
past_symbol atoms close_bracket = refl
past_symbol atoms colon = refl
past_symbol atoms stray = refl
past_symbol atoms (word w) =
    word_past_on (bytes_eq w (codes "true")) (bytes_eq w (codes "false")) (is_plain_name w) (list_any (bytes_eq w) atoms) (length atoms) (number_in atoms w)
    (past_position (bytes_eq w) atoms)

-- a name past the atoms is one that is not declared
pub past_unknown : (atoms : List (List ℕ)) (ts : List Lexeme) →
    list_any (is_past (length atoms)) (symbols_of atoms ts) ≡ list_any (is_unknown atoms) ts
past_unknown atoms [] = refl
past_unknown atoms (t ∷ ts) =
    ap (λ b. b || list_any (is_past (length atoms)) (symbols_of atoms ts)) (past_symbol atoms t) ∙ ap (λ b. is_unknown atoms t || b) (past_unknown atoms ts)

abbrev pub node_symbol : Symbol → Bool
node_symbol Open = false
node_symbol Close = false
node_symbol _ = true

word_node_on : (a b c : Bool) (k : ℕ) → node_symbol (if a then True else if b then False else if c then Name k else Foreign) ≡ true
word_node_on true b c k = refl
word_node_on false true c k = refl
word_node_on false false true k = refl
word_node_on false false false k = refl

node_of_symbol : (atoms : List (List ℕ)) (t : Lexeme) → node_symbol (symbol_of atoms t) ≡ is_node t
node_of_symbol atoms bang = refl
node_of_symbol atoms ampersand = refl
node_of_symbol atoms bar = refl
node_of_symbol atoms arrow = refl
node_of_symbol atoms both_arrow = refl
node_of_symbol atoms open_bracket = refl
node_of_symbol atoms close_bracket = refl
node_of_symbol atoms colon = refl
node_of_symbol atoms stray = refl
node_of_symbol atoms (word w) = word_node_on (bytes_eq w (codes "true")) (bytes_eq w (codes "false")) (is_plain_name w) (number_in atoms w)

-- tokens and their symbols have the same nodes
pub nodes_of_symbols : (atoms : List (List ℕ)) (ts : List Lexeme) → count_by node_symbol (symbols_of atoms ts) ≡ count_by is_node ts
nodes_of_symbols atoms [] = refl
nodes_of_symbols atoms (t ∷ ts) =
    sum_by-cons (λ x. cond (node_symbol x) 1 0) (symbol_of atoms t) (symbols_of atoms ts)
    ∙ ap (λ b. cond b 1 0 + count_by node_symbol (symbols_of atoms ts)) (node_of_symbol atoms t)
    ∙ ap (λ n. cond (is_node t) 1 0 + n) (nodes_of_symbols atoms ts)
    ∙ sym (sum_by-cons (λ x. cond (is_node x) 1 0) t ts)
