-- The form that a line's value in the program stands for.
use Rattle.std.specs.Prelude.{◌≡◌, ℕ, true, map, min}
use Rattle.std.specs.List.{list_all}
use Rattle.line_tokens.specs.Lexemes.{lexeme_of}
use Rattle.problem_lines.specs.Forms.{Form, blank, declaration, condition, belief, query, unknown, is_name_token, words_of}
use Rattle.problem_lines.specs.Numerals.{times_cap}
use Rattle.problem_lines.specs.declared.form.LineForm.{LineForm}
use Rattle.problem_lines.specs.declared.form.LineForm.TheVariants.{Blank, Atoms, Constraint, Agent, Ask, Unknown}

-- the number of times is counted up to its cap
abbrev pub IsForm : LineForm → Form → Type 0
IsForm Blank form = form ≡ blank
IsForm (Atoms tokens) form = (list_all is_name_token (map lexeme_of tokens.now) ≡ true) × (form ≡ declaration (words_of (map lexeme_of tokens.now)))
IsForm (Constraint tokens) form = form ≡ condition (map lexeme_of tokens.now)
IsForm (Agent name times tokens) form = (n : ℕ) × (times ≡ min n times_cap) × (form ≡ belief name.now n (map lexeme_of tokens.now))
IsForm (Ask tokens) form = form ≡ query (map lexeme_of tokens.now)
IsForm Unknown form = form ≡ unknown
