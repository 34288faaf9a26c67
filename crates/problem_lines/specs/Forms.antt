-- The forms of the lines of a problem text.
use Rattle.std.specs.Prelude.{ℕ, Bool, false, ◌&&◌, nat_lt, length, List, [], ◌∷◌, codes, if◌then◌else◌}
use Rattle.std.specs.List.{list_all}
use Rattle.std.specs.Str.{bytes_eq}
use Rattle.formulas.specs.Names.{is_plain_name}
use Rattle.line_tokens.specs.Lexemes.{Lexeme, word, colon}
use Rattle.problem_lines.specs.Numerals.{is_numeral, value_after}

-- what a line says, by its tokens
pub data Form : Type 0 where
  -- nothing
  blank : Form
  -- that these are names of atoms
  declaration : List (List ℕ) → Form
  -- that these tokens are the constraint
  condition : List Lexeme → Form
  -- that an agent of this name counts so often, with these tokens as its base
  belief : List ℕ → ℕ → List Lexeme → Form
  -- that these tokens are a query
  query : List Lexeme → Form
  -- nothing that a line may say
  unknown : Form

-- whether a token is a name
abbrev pub is_name_token : Lexeme → Bool
is_name_token (word w) = is_plain_name w
is_name_token _ = false

-- the word that a token is, and no bytes for a mark
abbrev pub token_word : Lexeme → List ℕ
token_word (word w) = w
token_word _ = []

abbrev pub words_of : List Lexeme → List (List ℕ)
words_of [] = []
words_of (t ∷ ts) = token_word t ∷ words_of ts

-- `NAME NAME ..`
abbrev pub atoms_form : List Lexeme → Form
atoms_form ts = if nat_lt 0 (length ts) && list_all is_name_token ts then declaration (words_of ts) else unknown

-- `: F`
abbrev pub base_form : List ℕ → ℕ → List Lexeme → Form
base_form name times (colon ∷ ts) = belief name times ts
base_form name times _ = unknown

-- `N : F`
abbrev pub numeral_form : List ℕ → List Lexeme → Form
numeral_form name (word w ∷ ts) = if is_numeral w then base_form name (value_after 0 w) ts else unknown
numeral_form name _ = unknown

-- `: F` or `times N : F`
abbrev pub times_form : List ℕ → List Lexeme → Form
times_form name (colon ∷ ts) = belief name 1 ts
times_form name (word w ∷ ts) = if bytes_eq w (codes "times") then numeral_form name ts else unknown
times_form name _ = unknown

-- `NAME : F` or `NAME times N : F`
abbrev pub agent_form : List Lexeme → Form
agent_form (word w ∷ ts) = if is_plain_name w then times_form w ts else unknown
agent_form _ = unknown

abbrev pub form_of : List Lexeme → Form
form_of [] = blank
form_of (word w ∷ ts) =
    if bytes_eq w (codes "atoms") then atoms_form ts
    else if bytes_eq w (codes "constraint") then condition ts
    else if bytes_eq w (codes "agent") then agent_form ts
    else if bytes_eq w (codes "ask") then query ts
    else unknown
form_of _ = unknown
