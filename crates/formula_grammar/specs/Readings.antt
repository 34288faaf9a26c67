-- What a reader of formulas answers.
use Rattle.std.specs.Prelude.{◌≡◌, ◌≢◌, ℕ, ◌<◌, ◌≤◌, ◌⊎◌, true, false, List}
use Rattle.std.specs.List.{list_any}
use Rattle.formulas.specs.Formulas.{depth_of}
use Rattle.formulas.specs.declared.formula.Formula.{Formula}
use Rattle.line_tokens.specs.Bytes.{is_bad}
use Rattle.line_tokens.specs.Lexemes.{Lexeme, lexemes_of}
use Rattle.formula_grammar.specs.declared.read.FormulaStop.{FormulaStop}
use Rattle.formula_grammar.specs.declared.read.FormulaStop.TheVariants.{BadByte, BadForm, UnknownAtom, TooDeep, NoMemory}
use Rattle.formula_grammar.specs.Grammar.{equivalence, Spells}
use Rattle.formulas.specs.Limits.{depth_limit}
use Rattle.formula_grammar.specs.Limits.{open_limit}
use Rattle.formula_grammar.specs.Symbols.{symbols_of, is_unknown, most_open}

-- the tokens spell the formula, where an undeclared name is an atom past the others
abbrev pub IsSpelled : List (List ℕ) → List Lexeme → Formula → Type 0
IsSpelled atoms ts f = Spells equivalence (symbols_of atoms ts) f

-- too many brackets are open at one place, or the depth is too great
abbrev pub IsTooDeep : List Lexeme → Formula → Type 0
IsTooDeep ts f = (depth_limit < depth_of f) ⊎ (open_limit < most_open 0 ts)

-- the tokens spell the formula over declared atoms, and it is not too deep
pub record IsRead (atoms : List (List ℕ)) (ts : List Lexeme) (f : Formula) : Type 0 where
  pub spelled : IsSpelled atoms ts f
  pub known : list_any (is_unknown atoms) ts ≡ false
  pub depth : depth_of f ≤ depth_limit
  pub brackets : most_open 0 ts ≤ open_limit

-- the text has no bad byte, and its tokens are read as the formula
pub record IsTextRead (atoms : List (List ℕ)) (text : List ℕ) (f : Formula) : Type 0 where
  pub good : list_any is_bad text ≡ false
  pub read : IsRead atoms (lexemes_of text) f

-- why tokens are not read, and that nothing less is wrong
abbrev pub IsStop : List (List ℕ) → List Lexeme → FormulaStop → Type 0
IsStop atoms ts BadByte = ⊥
IsStop atoms ts BadForm = (f : Formula) → IsSpelled atoms ts f → ⊥
IsStop atoms ts UnknownAtom = (f : Formula) × IsSpelled atoms ts f × (list_any (is_unknown atoms) ts ≡ true)
IsStop atoms ts TooDeep =
    (f : Formula) × IsSpelled atoms ts f × (list_any (is_unknown atoms) ts ≡ false) × IsTooDeep ts f
IsStop atoms ts NoMemory = Unit {0}

-- why a text is not read, and that nothing less is wrong; want of memory says nothing
abbrev pub IsTextStop : List (List ℕ) → List ℕ → FormulaStop → Type 0
IsTextStop atoms text BadByte = list_any is_bad text ≡ true
IsTextStop atoms text NoMemory = Unit {0}
IsTextStop atoms text stop = (list_any is_bad text ≡ false) × IsStop atoms (lexemes_of text) stop

-- a text is read as a formula, or something is wrong with it
abbrev pub IsReadOrStopped : List (List ℕ) → List ℕ → Type 0
IsReadOrStopped atoms text =
    ((f : Formula) × IsTextRead atoms text f) ⊎ ((stop : FormulaStop) × IsTextStop atoms text stop × (stop ≢ NoMemory))
