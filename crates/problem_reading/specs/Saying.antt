-- What a line without a fault adds.
use Rattle.std.specs.Prelude.{◌≡◌, ℕ, false, List, [], ◌∷◌, ◌++◌, Some, is_some}
use Rattle.std.specs.List.{list_any}
use Rattle.formulas.specs.Names.{is_reserved, names_of}
use Rattle.line_tokens.specs.Bytes.{is_bad}
use Rattle.formula_grammar.specs.Readings.{IsRead}
use Rattle.problem_lines.specs.Lines.{content_of}
use Rattle.problem_lines.specs.Forms.{Form, blank, declaration, condition, belief, query}
use Rattle.problem_reading.specs.declared.said.Said.{Said}
use Rattle.problem_reading.specs.declared.said.Said.TheVariants.{Nothing, Names, Condition, Belief, Query}
use Rattle.problem_reading.specs.Drafts.{Draft, declares_too_many, constrains_too_much, believes_too_much, asks_too_much}
use Rattle.problem_reading.specs.Faults.{declares_twice, is_agent, line_form}

-- what a line of this form says, where it has no fault
abbrev pub IsSaid : Draft → Form → Said → Type 0
IsSaid d blank Nothing = Unit {0}
IsSaid d (declaration names) (Names atoms) =
    (list_any is_reserved names ≡ false) × (declares_twice d names ≡ false) × (declares_too_many d names ≡ false) × (atoms ≡ d.atoms ++ names)
IsSaid d (condition ts) (Condition f) = IsRead (names_of d.atoms) ts f × (is_some d.constraint ≡ false) × (constrains_too_much d ts ≡ false)
IsSaid d (belief name times ts) (Belief agent) =
    IsRead (names_of d.atoms) ts agent.base × (is_reserved name ≡ false) × (is_agent d name ≡ false) × (believes_too_much d name times ts ≡ false)
    × (agent.name ≡ name) × (agent.times ≡ times)
IsSaid d (query ts) (Query f) = IsRead (names_of d.atoms) ts f × (asks_too_much d ts ≡ false)
IsSaid d form said = ⊥

-- what is declared after it
abbrev pub after : Draft → Said → Draft
after d Nothing = d
after d (Names atoms) = record d { atoms = atoms }
after d (Condition f) = record d { constraint = Some f }
after d (Belief agent) = record d { agents = d.agents ++ agent ∷ [] }
after d (Query f) = record d { asks = d.asks ++ f ∷ [] }

-- the line has no fault and says this
pub record Says (d : Draft) (line : List ℕ) (what : Said) : Type 0 where
  pub good : list_any is_bad (content_of line) ≡ false
  pub said : IsSaid d (line_form line) what

-- after a line without a fault, this is declared
abbrev pub Adds : Draft → List ℕ → Draft → Type 0
Adds d line e = (said : Said) × Says d line said × (e ≡ after d said)
