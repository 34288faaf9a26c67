-- One step through a text.
use Rattle.std.specs.Prelude.{◌≡◌, ℕ, ◌≤◌, List, ◌∷◌, length, drop}
use Rattle.std.specs.List.{list_any}
use Rattle.line_tokens.specs.Bytes.{is_bad}
use Rattle.line_tokens.specs.Lexemes.{Lexeme, lexemes_of}

-- the text begins with a token of this many good bytes
pub record BeginsWith (text : List ℕ) (token : Lexeme) (size : ℕ) : Type 0 where
  pub some : 1 ≤ size
  pub within : size ≤ length text
  pub tokens : lexemes_of text ≡ token ∷ lexemes_of (drop size text)
  pub good : list_any is_bad text ≡ list_any is_bad (drop size text)
