-- The faults of a line of a problem text, after the lines before it.
use Rattle.std.specs.Prelude.{◌≡◌, ℕ, Bool, true, false, not, ◌||◌, List, is_some}
use Rattle.std.specs.List.{list_any}
use Rattle.std.specs.Str.{bytes_eq}
use Rattle.formulas.specs.Names.{is_reserved, are_distinct, names_of}
use Rattle.formulas.specs.declared.formula.Formula.{Formula}
use Rattle.line_tokens.specs.Bytes.{is_bad}
use Rattle.line_tokens.specs.Lexemes.{Lexeme, lexemes_of}
use Rattle.formula_grammar.specs.declared.read.FormulaStop.TheVariants.{BadForm as form_stop, UnknownAtom as atom_stop, TooDeep as depth_stop}
use Rattle.formula_grammar.specs.Readings.{IsSpelled, IsStop}
use Rattle.formula_grammar.specs.Symbols.{is_unknown}
use Rattle.problem_lines.specs.Lines.{content_of}
use Rattle.problem_lines.specs.Forms.{Form, blank, declaration, condition, belief, query, unknown, form_of}
use Rattle.problem_reading.specs.declared.stop.TextKind.{TextKind}
use Rattle.problem_reading.specs.declared.stop.TextKind.TheVariants.{BadByte, BadLine, BadForm, UnknownAtom, Reserved, Twice, TooMany, TooDeep}
use Rattle.problem_reading.specs.Drafts.{Draft, declares_too_many, constrains_too_much, believes_too_much, asks_too_much}

-- the tokens spell a formula over declared atoms
abbrev pub IsKnownFormula : List (List ℕ) → List Lexeme → Type 0
IsKnownFormula atoms ts = (f : Formula) × IsSpelled atoms ts f × (list_any (is_unknown atoms) ts ≡ false)

-- the least fault of a line that ends in a formula, by what else is wrong with it: a reserved name,
-- a second declaration, or a limit that is passed
abbrev pub IsFormulaFault : List (List ℕ) → List Lexeme → Bool → Bool → Bool → TextKind → Type 0
IsFormulaFault atoms ts reserved twice over BadForm = IsStop atoms ts form_stop
IsFormulaFault atoms ts reserved twice over UnknownAtom = IsStop atoms ts atom_stop
IsFormulaFault atoms ts reserved twice over Reserved = IsKnownFormula atoms ts × (reserved ≡ true)
IsFormulaFault atoms ts reserved twice over Twice = IsKnownFormula atoms ts × (reserved ≡ false) × (twice ≡ true)
IsFormulaFault atoms ts reserved twice over TooMany =
    IsKnownFormula atoms ts × (reserved ≡ false) × (twice ≡ false) × (over ≡ true)
IsFormulaFault atoms ts reserved twice over TooDeep =
    IsStop atoms ts depth_stop × (reserved ≡ false) × (twice ≡ false) × (over ≡ false)
IsFormulaFault atoms ts reserved twice over _ = ⊥

-- the same of a line that declares atoms
abbrev pub IsNameFault : Bool → Bool → Bool → TextKind → Type 0
IsNameFault reserved twice over Reserved = reserved ≡ true
IsNameFault reserved twice over Twice = (reserved ≡ false) × (twice ≡ true)
IsNameFault reserved twice over TooMany = (reserved ≡ false) × (twice ≡ false) × (over ≡ true)
IsNameFault reserved twice over _ = ⊥

-- an atom that is declared twice on the line, or before it
abbrev pub declares_twice : Draft → List (List ℕ) → Bool
declares_twice d names = not (are_distinct names) || list_any (λ name. list_any (bytes_eq name) (names_of d.atoms)) names

-- an agent of this name is there
abbrev pub is_agent : Draft → List ℕ → Bool
is_agent d name = list_any (λ agent. bytes_eq name agent.name) d.agents

-- the least fault of a line of this form
abbrev pub IsFormFault : Draft → Form → TextKind → Type 0
IsFormFault d blank kind = ⊥
IsFormFault d unknown kind = kind ≡ BadLine
IsFormFault d (declaration names) kind = IsNameFault (list_any is_reserved names) (declares_twice d names) (declares_too_many d names) kind
IsFormFault d (condition ts) kind = IsFormulaFault (names_of d.atoms) ts false (is_some d.constraint) (constrains_too_much d ts) kind
IsFormFault d (belief name times ts) kind = IsFormulaFault (names_of d.atoms) ts (is_reserved name) (is_agent d name) (believes_too_much d name times ts) kind
IsFormFault d (query ts) kind = IsFormulaFault (names_of d.atoms) ts false false (asks_too_much d ts) kind

-- the form of a line
abbrev pub line_form : List ℕ → Form
line_form line = form_of (lexemes_of (content_of line))

-- the least fault of a line
abbrev pub IsLineFault : Draft → List ℕ → TextKind → Type 0
IsLineFault d line BadByte = list_any is_bad (content_of line) ≡ true
IsLineFault d line kind = (list_any is_bad (content_of line) ≡ false) × IsFormFault d (line_form line) kind
