-- After the same lines each line adds something or has a fault.
use Rattle.std.proofs.Common.{◌≡◌, ◌≢◌, ℕ, Bool, true, false, ◌⊎◌, List, ◌++◌, is_some, refl, inl, inr}
use Rattle.std.specs.List.{list_any}
use Rattle.formulas.specs.Names.{is_reserved}
use Rattle.formulas.specs.declared.formula.Formula.{Formula}
use Rattle.line_tokens.specs.Bytes.{is_bad}
use Rattle.line_tokens.specs.Lexemes.{Lexeme}
use Rattle.formula_grammar.specs.declared.read.FormulaStop.{FormulaStop}
use Rattle.formula_grammar.specs.declared.read.FormulaStop.TheVariants as stop
use Rattle.formula_grammar.specs.Readings.{IsSpelled, IsRead, IsStop, IsTooDeep}
use Rattle.formula_grammar.specs.Symbols.{is_unknown}
use Rattle.formula_grammar.proofs.Choice.{TokenChoice, token_choice}
use Rattle.problem_lines.specs.Lines.{content_of}
use Rattle.problem_lines.specs.Forms.{Form, blank, declaration, condition, belief, query, unknown}
use Rattle.problem_reading.specs.declared.said.Said.{Said}
use Rattle.problem_reading.specs.declared.said.Said.TheVariants.{Nothing, Names, Condition, Belief, Query}
use Rattle.problem_reading.specs.declared.stop.TextKind.{TextKind}
use Rattle.problem_reading.specs.declared.stop.TextKind.TheVariants.{BadByte, BadLine, BadForm, UnknownAtom, Reserved, Twice, TooMany, TooDeep}
use Rattle.problem_reading.specs.Drafts.{Draft, declares_too_many, constrains_too_much, believes_too_much, asks_too_much}
use Rattle.problem_reading.specs.Faults.{IsFormulaFault, IsNameFault, IsFormFault, IsLineFault, declares_twice, is_agent, line_form}
use Rattle.problem_reading.specs.Saying.{IsSaid, Adds, after}
use Rattle.problem_reading.proofs.LineFaults.{fault_of_form}

-- tokens are read as a formula, and nothing else is wrong, or there is a fault
abbrev FormulaChoice : List (List ℕ) → List Lexeme → Bool → Bool → Bool → Type 0
FormulaChoice atoms ts r t o =
    ((f : Formula) × IsRead atoms ts f × (r ≡ false) × (t ≡ false) × (o ≡ false)) ⊎ ((k : TextKind) × IsFormulaFault atoms ts r t o k)

-- tokens that spell a formula over declared atoms, with what the line has beside them
by_limits : (atoms : List (List ℕ)) (ts : List Lexeme) (r t o : Bool) (f : Formula) → IsSpelled atoms ts f → list_any (is_unknown atoms) ts ≡ false →
    IsRead atoms ts f ⊎ IsTooDeep ts f → FormulaChoice atoms ts r t o
by_limits atoms ts true t o f s known depth = inr (Reserved, ((f, s, known), refl))
by_limits atoms ts false true o f s known depth = inr (Twice, ((f, s, known), refl, refl))
by_limits atoms ts false false true f s known depth = inr (TooMany, ((f, s, known), refl, refl, refl))
by_limits atoms ts false false false f s known (inl read) = inl (f, read, refl, refl, refl)
by_limits atoms ts false false false f s known (inr deep) = inr (TooDeep, ((f, s, known, deep), refl, refl, refl))

by_stop : (atoms : List (List ℕ)) (ts : List Lexeme) (r t o : Bool) (why : FormulaStop) → IsStop atoms ts why → why ≢ stop.NoMemory → FormulaChoice atoms ts r t o
by_stop atoms ts r t o stop.BadByte h some = absurd h
by_stop atoms ts r t o stop.BadForm h some = inr (BadForm, h)
by_stop atoms ts r t o stop.UnknownAtom h some = inr (UnknownAtom, h)
by_stop atoms ts r t o stop.TooDeep h some = by_limits atoms ts r t o h.0 h.1 h.2 (inr h.3)
by_stop atoms ts r t o stop.NoMemory h some = absurd (some refl)

by_tokens : (atoms : List (List ℕ)) (ts : List Lexeme) (r t o : Bool) → TokenChoice atoms ts → FormulaChoice atoms ts r t o
by_tokens atoms ts r t o (inl h) = by_limits atoms ts r t o h.0 h.1.spelled h.1.known (inl h.1)
by_tokens atoms ts r t o (inr h) = by_stop atoms ts r t o h.0 h.1 h.2

formula_choice : (atoms : List (List ℕ)) (ts : List Lexeme) (r t o : Bool) → FormulaChoice atoms ts r t o
formula_choice atoms ts r t o = by_tokens atoms ts r t o (token_choice atoms ts)

abbrev NameChoice : Bool → Bool → Bool → Type 0
NameChoice r t o = ((r ≡ false) × (t ≡ false) × (o ≡ false)) ⊎ ((k : TextKind) × IsNameFault r t o k)

name_choice : (r t o : Bool) → NameChoice r t o
name_choice true t o = inr (Reserved, refl)
name_choice false true o = inr (Twice, (refl, refl))
name_choice false false true = inr (TooMany, (refl, refl, refl))
name_choice false false false = inl (refl, refl, refl)

abbrev FormChoice : Draft → Form → Type 0
FormChoice d form = ((said : Said) × IsSaid d form said) ⊎ ((k : TextKind) × IsFormFault d form k)

of_names : (d : Draft) (names : List (List ℕ)) → NameChoice (list_any is_reserved names) (declares_twice d names) (declares_too_many d names) → FormChoice d (declaration names)
of_names d names (inl h) = inl (Names (d.atoms ++ names), (h.0, h.1, h.2, refl))
of_names d names (inr h) = inr h

of_condition : (d : Draft) (ts : List Lexeme) → FormulaChoice d.atoms ts false (is_some d.constraint) (constrains_too_much d ts) → FormChoice d (condition ts)
of_condition d ts (inl h) = inl (Condition h.0, (h.1, h.3, h.4))
of_condition d ts (inr h) = inr h

of_belief : (d : Draft) (name : List ℕ) (times : ℕ) (ts : List Lexeme) → FormulaChoice d.atoms ts (is_reserved name) (is_agent d name) (believes_too_much d name times ts) →
    FormChoice d (belief name times ts)
of_belief d name times ts (inl h) = inl (Belief (record { name = name; times = times; base = h.0 }), (h.1, h.2, h.3, h.4, refl, refl))
of_belief d name times ts (inr h) = inr h

of_query : (d : Draft) (ts : List Lexeme) → FormulaChoice d.atoms ts false false (asks_too_much d ts) → FormChoice d (query ts)
of_query d ts (inl h) = inl (Query h.0, (h.1, h.4))
of_query d ts (inr h) = inr h

form_choice : (d : Draft) (form : Form) → FormChoice d form
form_choice d blank = inl (Nothing, tt)
form_choice d unknown = inr (BadLine, refl)
form_choice d (declaration names) = of_names d names (name_choice _ _ _)
form_choice d (condition ts) = of_condition d ts (formula_choice d.atoms ts _ _ _)
form_choice d (belief name times ts) = of_belief d name times ts (formula_choice d.atoms ts _ _ _)
form_choice d (query ts) = of_query d ts (formula_choice d.atoms ts _ _ _)

abbrev pub LineChoice : Draft → List ℕ → Type 0
LineChoice d line = ((e : Draft) × Adds d line e) ⊎ ((k : TextKind) × IsLineFault d line k)

of_form : (d : Draft) (line : List ℕ) → list_any is_bad (content_of line) ≡ false → FormChoice d (line_form line) → LineChoice d line
of_form d line good (inl h) = inl (after d h.0, (h.0, record { good = good; said = h.1 }, refl))
of_form d line good (inr h) = inr (h.0, fault_of_form d line h.0 good h.1)

by_bytes : (d : Draft) (line : List ℕ) (bad : Bool) → list_any is_bad (content_of line) ≡ bad → LineChoice d line
by_bytes d line true e = inr (BadByte, e)
by_bytes d line false e = of_form d line e (form_choice d (line_form line))

pub line_choice : (d : Draft) (line : List ℕ) → LineChoice d line
line_choice d line = by_bytes d line _ refl
