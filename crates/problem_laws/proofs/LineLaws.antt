-- After the same lines a line has one least fault at most, and none where it adds something.
use Rattle.std.proofs.Common.{◌≡◌, ℕ, Bool, true, false, ◌⊎◌, List, if◌then◌else◌, refl, ap, sym, subst, ◌∙◌, inl, inr}
use Rattle.std.specs.List.{list_any}
use Rattle.formulas.specs.declared.formula.Formula.{Formula}
use Rattle.formula_grammar.proofs.Choice.{not_deep}
use Rattle.line_tokens.specs.Bytes.{is_bad}
use Rattle.line_tokens.specs.Lexemes.{Lexeme}
use Rattle.formula_grammar.specs.Readings.{IsSpelled, IsRead, IsTooDeep}
use Rattle.formula_grammar.specs.Symbols.{is_unknown}
use Rattle.formula_grammar.proofs.Complete.{one_formula}
use Rattle.problem_lines.specs.Lines.{content_of}
use Rattle.problem_lines.specs.Forms.{Form, blank, declaration, condition, belief, query, unknown}
use Rattle.problem_reading.specs.declared.said.Said.{Said}
use Rattle.problem_reading.specs.declared.said.Said.TheVariants.{Nothing, Names, Condition, Belief, Query}
use Rattle.problem_reading.specs.declared.stop.TextKind.{TextKind}
use Rattle.problem_reading.specs.declared.stop.TextKind.TheVariants.{BadByte, BadLine, BadForm, UnknownAtom, Reserved, Twice, TooMany, TooDeep, NoAtoms, NoAgent}
use Rattle.problem_reading.specs.Drafts.{Draft}
use Rattle.problem_reading.specs.Faults.{IsFormulaFault, IsNameFault, IsFormFault, IsLineFault, line_form}
use Rattle.problem_reading.specs.Saying.{IsSaid, Says, Adds}

clash : (b : Bool) → b ≡ true → b ≡ false → ⊥
clash b h i = let both : true ≡ false = sym h ∙ i in absurd (cc)

-- the kinds of faults of names, and of a known formula, by what is wrong
name_kind : (r t o : Bool) (k : TextKind) → IsNameFault r t o k → k ≡ (if r then Reserved else if t then Twice else TooMany)
name_kind r t o Reserved h = ap (λ b. if b then Reserved else if t then Twice else TooMany) (sym h)
name_kind r t o Twice h = ap (λ b. if b then Twice else TooMany) (sym h.1) ∙ ap (λ b. if b then Reserved else if t then Twice else TooMany) (sym h.0)
name_kind r t o TooMany h = ap (λ b. if b then Twice else TooMany) (sym h.1) ∙ ap (λ b. if b then Reserved else if t then Twice else TooMany) (sym h.0)
name_kind r t o BadByte h = absurd h
name_kind r t o BadLine h = absurd h
name_kind r t o BadForm h = absurd h
name_kind r t o UnknownAtom h = absurd h
name_kind r t o TooDeep h = absurd h
name_kind r t o NoAtoms h = absurd h
name_kind r t o NoAgent h = absurd h

abbrev known_kind : Bool → Bool → Bool → TextKind
known_kind r t o = if r then Reserved else if t then Twice else if o then TooMany else TooDeep

known_at : (r t o a b c : Bool) → r ≡ a → t ≡ b → o ≡ c → known_kind a b c ≡ known_kind r t o
known_at r t o a b c e h i =
    ap (λ x. known_kind x b c) (sym e) ∙ ap (λ x. known_kind r x c) (sym h) ∙ ap (λ x. known_kind r t x) (sym i)

-- how far the formula of a line is all right
abbrev FormulaState : List (List ℕ) → List Lexeme → TextKind → TextKind → Type 0
FormulaState atoms ts k late =
    ((k ≡ BadForm) × ((f : Formula) → IsSpelled atoms ts f → ⊥))
    ⊎ (((k ≡ UnknownAtom) × (f : Formula) × IsSpelled atoms ts f × (list_any (is_unknown atoms) ts ≡ true))
    ⊎ ((k ≡ late) × (f : Formula) × IsSpelled atoms ts f × (list_any (is_unknown atoms) ts ≡ false)))

formula_state : (atoms : List (List ℕ)) (ts : List Lexeme) (r t o : Bool) (k : TextKind) → IsFormulaFault atoms ts r t o k →
    FormulaState atoms ts k (known_kind r t o)
formula_state atoms ts r t o BadForm h = inl (refl, h)
formula_state atoms ts r t o UnknownAtom h = inr (inl (refl, h.0, h.1, h.2))
formula_state atoms ts r t o Reserved h = inr (inr (known_at r t o true t o h.1 refl refl, h.0.0, h.0.1, h.0.2))
formula_state atoms ts r t o Twice h = inr (inr (known_at r t o false true o h.1 h.2 refl, h.0.0, h.0.1, h.0.2))
formula_state atoms ts r t o TooMany h = inr (inr (known_at r t o false false true h.1 h.2 h.3, h.0.0, h.0.1, h.0.2))
formula_state atoms ts r t o TooDeep h = inr (inr (known_at r t o false false false h.1 h.2 h.3, h.0.0, h.0.1, h.0.2))
formula_state atoms ts r t o BadByte h = absurd h
formula_state atoms ts r t o BadLine h = absurd h
formula_state atoms ts r t o NoAtoms h = absurd h
formula_state atoms ts r t o NoAgent h = absurd h

one_state : (atoms : List (List ℕ)) (ts : List Lexeme) (k j late : TextKind) → FormulaState atoms ts k late → FormulaState atoms ts j late → k ≡ j
one_state atoms ts k j late (inl h) (inl i) = h.0 ∙ sym i.0
one_state atoms ts k j late (inl h) (inr (inl i)) = absurd (h.1 i.1 i.2)
one_state atoms ts k j late (inl h) (inr (inr i)) = absurd (h.1 i.1 i.2)
one_state atoms ts k j late (inr (inl h)) (inl i) = absurd (i.1 h.1 h.2)
one_state atoms ts k j late (inr (inl h)) (inr (inl i)) = h.0 ∙ sym i.0
one_state atoms ts k j late (inr (inl h)) (inr (inr i)) = absurd (clash _ h.3 i.3)
one_state atoms ts k j late (inr (inr h)) (inl i) = absurd (i.1 h.1 h.2)
one_state atoms ts k j late (inr (inr h)) (inr (inl i)) = absurd (clash _ i.3 h.3)
one_state atoms ts k j late (inr (inr h)) (inr (inr i)) = h.0 ∙ sym i.0

one_formula_fault : (atoms : List (List ℕ)) (ts : List Lexeme) (r t o : Bool) (k j : TextKind) → IsFormulaFault atoms ts r t o k →
    IsFormulaFault atoms ts r t o j → k ≡ j
one_formula_fault atoms ts r t o k j h i =
    one_state atoms ts k j (known_kind r t o) (formula_state atoms ts r t o k h) (formula_state atoms ts r t o j i)

one_form_fault : (d : Draft) (form : Form) (k j : TextKind) → IsFormFault d form k → IsFormFault d form j → k ≡ j
one_form_fault d blank k j h i = absurd h
one_form_fault d unknown k j h i = h ∙ sym i
one_form_fault d (declaration names) k j h i = name_kind _ _ _ k h ∙ sym (name_kind _ _ _ j i)
one_form_fault d (condition ts) k j h i = one_formula_fault d.atoms ts _ _ _ k j h i
one_form_fault d (belief name times ts) k j h i = one_formula_fault d.atoms ts _ _ _ k j h i
one_form_fault d (query ts) k j h i = one_formula_fault d.atoms ts _ _ _ k j h i

-- a fault of a byte, or of the form
abbrev LineState : Draft → List ℕ → TextKind → Type 0
LineState d line k =
    ((k ≡ BadByte) × (list_any is_bad (content_of line) ≡ true)) ⊎ ((list_any is_bad (content_of line) ≡ false) × IsFormFault d (line_form line) k)

line_state : (d : Draft) (line : List ℕ) (k : TextKind) → IsLineFault d line k → LineState d line k
line_state d line BadByte h = inl (refl, h)
line_state d line BadLine h = inr h
line_state d line BadForm h = inr h
line_state d line UnknownAtom h = inr h
line_state d line Reserved h = inr h
line_state d line Twice h = inr h
line_state d line TooMany h = inr h
line_state d line TooDeep h = inr h
line_state d line NoAtoms h = inr h
line_state d line NoAgent h = inr h

two_states : (d : Draft) (line : List ℕ) (k j : TextKind) → LineState d line k → LineState d line j → k ≡ j
two_states d line k j (inl h) (inl i) = h.0 ∙ sym i.0
two_states d line k j (inl h) (inr i) = absurd (clash _ h.1 i.0)
two_states d line k j (inr h) (inl i) = absurd (clash _ i.1 h.0)
two_states d line k j (inr h) (inr i) = one_form_fault d (line_form line) k j h.1 i.1

pub one_fault : (d : Draft) (line : List ℕ) (k j : TextKind) → IsLineFault d line k → IsLineFault d line j → k ≡ j
one_fault d line k j h i = two_states d line k j (line_state d line k h) (line_state d line j i)

no_name_fault : (r t o : Bool) (k : TextKind) → r ≡ false → t ≡ false → o ≡ false → IsNameFault r t o k → ⊥
no_name_fault r t o Reserved e h i f = clash r f e
no_name_fault r t o Twice e h i f = clash t f.1 h
no_name_fault r t o TooMany e h i f = clash o f.2 i
no_name_fault r t o BadByte e h i f = f
no_name_fault r t o BadLine e h i f = f
no_name_fault r t o BadForm e h i f = f
no_name_fault r t o UnknownAtom e h i f = f
no_name_fault r t o TooDeep e h i f = f
no_name_fault r t o NoAtoms e h i f = f
no_name_fault r t o NoAgent e h i f = f

no_formula_fault : (atoms : List (List ℕ)) (ts : List Lexeme) (f : Formula) (r t o : Bool) (k : TextKind) → IsRead atoms ts f →
    r ≡ false → t ≡ false → o ≡ false → IsFormulaFault atoms ts r t o k → ⊥
no_formula_fault atoms ts f r t o BadForm is e h i x = x f is.spelled
no_formula_fault atoms ts f r t o UnknownAtom is e h i x = clash _ x.2 is.known
no_formula_fault atoms ts f r t o Reserved is e h i x = clash r x.1 e
no_formula_fault atoms ts f r t o Twice is e h i x = clash t x.2 h
no_formula_fault atoms ts f r t o TooMany is e h i x = clash o x.3 i
no_formula_fault atoms ts f r t o TooDeep is e h i x =
    not_deep ts f is.depth is.brackets (subst (IsTooDeep ts) (one_formula x.0.1 is.spelled) x.0.3)
no_formula_fault atoms ts f r t o BadByte is e h i x = x
no_formula_fault atoms ts f r t o BadLine is e h i x = x
no_formula_fault atoms ts f r t o NoAtoms is e h i x = x
no_formula_fault atoms ts f r t o NoAgent is e h i x = x

no_form_fault : (d : Draft) (form : Form) (said : Said) (k : TextKind) → IsSaid d form said → IsFormFault d form k → ⊥
no_form_fault d blank Nothing k h x = x
no_form_fault d (declaration names) (Names atoms) k h x = no_name_fault _ _ _ k h.0 h.1 h.2 x
no_form_fault d (condition ts) (Condition f) k h x = no_formula_fault d.atoms ts f _ _ _ k h.0 refl h.1 h.2 x
no_form_fault d (belief name times ts) (Belief agent) k h x = no_formula_fault d.atoms ts agent.base _ _ _ k h.0 h.1 h.2 h.3 x
no_form_fault d (query ts) (Query f) k h x = no_formula_fault d.atoms ts f _ _ _ k h.0 refl refl h.1 x
no_form_fault d form said k h x = absurd h

no_state : (d : Draft) (line : List ℕ) (said : Said) (k : TextKind) → Says d line said → LineState d line k → ⊥
no_state d line said k says (inl h) = clash _ h.1 says.good
no_state d line said k says (inr h) = no_form_fault d (line_form line) said k says.said h.1

pub never_both : (d : Draft) (line : List ℕ) (e : Draft) (k : TextKind) → Adds d line e → IsLineFault d line k → ⊥
never_both d line e k adds fault = no_state d line adds.0 k adds.1 (line_state d line k fault)
