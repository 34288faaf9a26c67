-- The canonical text of a formula is read as that formula.
use Rattle.std.proofs.Common.{◌≡◌, ℕ, ◌≤◌, true, false, List, [], ◌∷◌, ◌++◌, length, max, codes, refl, ap, sym, ◌∙◌, append_assoc, arith}
use Rattle.formulas.specs.Formulas.{width_of}
use Rattle.formulas.specs.Names.{are_names}
use Rattle.formulas.specs.declared.formula.Formula.{Formula}
use Rattle.formulas.specs.declared.formula.Formula as formula
use Rattle.formulas.specs.declared.formula.Formula.TheOpen.{Formula-F}
use Rattle.formulas.specs.declared.formula.Formula.TheFolds.{fold-Formula}
use Rattle.formulas.proofs.Equations.{fold_top, fold_bottom, fold_atom, fold_not, fold_and, fold_or, fold_implies, fold_iff, width_atom, width_not, width_and, width_or, width_implies, width_iff, formula_induction}
use Rattle.formula_text.specs.CanonicalText.{name_of, joined_text, text_step, formula_text}
use Rattle.line_tokens.specs.Bytes.{starts_word}
use Rattle.line_tokens.specs.Lexemes.{Lexeme, bang, ampersand, bar, arrow, both_arrow, open_bracket, close_bracket, word, lexemes_of}
use Rattle.formula_grammar.proofs.WordTokens.{atom_name, token_of_word}

-- the tokens of two formulas with a mark between them, in brackets
abbrev pub joined_lexemes : List Lexeme → Lexeme → List Lexeme → List Lexeme
joined_lexemes ss mark ts = open_bracket ∷ (ss ++ mark ∷ (ts ++ close_bracket ∷ []))

abbrev pub lexemes_step : List (List ℕ) → Formula-F (List Lexeme) → List Lexeme
lexemes_step names Formula-F.Top = word (codes "true") ∷ []
lexemes_step names Formula-F.Bottom = word (codes "false") ∷ []
lexemes_step names (Formula-F.Atom k) = word (name_of names k) ∷ []
lexemes_step names (Formula-F.Not ss) = bang ∷ ss
lexemes_step names (Formula-F.And ss ts) = joined_lexemes ss ampersand ts
lexemes_step names (Formula-F.Or ss ts) = joined_lexemes ss bar ts
lexemes_step names (Formula-F.Implies ss ts) = joined_lexemes ss arrow ts
lexemes_step names (Formula-F.Iff ss ts) = joined_lexemes ss both_arrow ts

-- the tokens of a formula's canonical text
abbrev pub formula_lexemes : List (List ℕ) → Formula → List Lexeme
formula_lexemes names f = fold-Formula (List Lexeme) (lexemes_step names) f

-- whatever does not go on with a word may follow the text
abbrev Cuts : List ℕ → List Lexeme → Type 0
Cuts s ss = (rest : List ℕ) → starts_word rest ≡ false → lexemes_of (s ++ rest) ≡ ss ++ lexemes_of rest

unjoined : (s m t rest : List ℕ) → joined_text s m t ++ rest ≡ 40 ∷ (s ++ (m ++ (t ++ 41 ∷ rest)))
unjoined s m t rest =
    ap (λ x. 40 ∷ x) (append_assoc ((s ++ m) ++ t) (41 ∷ []) rest ∙ append_assoc (s ++ m) t (41 ∷ rest) ∙ append_assoc s m (t ++ 41 ∷ rest))

pub unjoined_lexemes : (ss ts rest : List Lexeme) (mark : Lexeme) →
    joined_lexemes ss mark ts ++ rest ≡ open_bracket ∷ (ss ++ mark ∷ (ts ++ close_bracket ∷ rest))
unjoined_lexemes ss ts rest mark =
    ap (λ x. open_bracket ∷ x) (append_assoc ss (mark ∷ (ts ++ close_bracket ∷ [])) rest
    ∙ ap (λ x. ss ++ mark ∷ x) (append_assoc ts (close_bracket ∷ []) rest))

joined_cuts : (s m t : List ℕ) (mark : Lexeme) (ss ts : List Lexeme) → ((x : List ℕ) → lexemes_of (m ++ x) ≡ mark ∷ lexemes_of x) →
    ((x : List ℕ) → starts_word (m ++ x) ≡ false) → Cuts s ss → Cuts t ts → Cuts (joined_text s m t) (joined_lexemes ss mark ts)
joined_cuts s m t mark ss ts reads stops h i rest stop =
    ap lexemes_of (unjoined s m t rest)
    ∙ ap (λ x. open_bracket ∷ x) (h (m ++ (t ++ 41 ∷ rest)) (stops (t ++ 41 ∷ rest))
    ∙ ap (λ x. ss ++ x) (reads (t ++ 41 ∷ rest) ∙ ap (λ x. mark ∷ x) (i (41 ∷ rest) refl)))
    ∙ sym (unjoined_lexemes ss ts (lexemes_of rest) mark)

-- at a formula over these names
abbrev HasText : List (List ℕ) → Formula → Type 0
HasText names f = width_of f ≤ length names → Cuts (formula_text names f) (formula_lexemes names f)

cuts_by : (names : List (List ℕ)) (f : Formula) (s : List ℕ) (ss : List Lexeme) → formula_text names f ≡ s → formula_lexemes names f ≡ ss →
    Cuts s ss → Cuts (formula_text names f) (formula_lexemes names f)
cuts_by names f s ss e i h rest stop = ap (λ x. lexemes_of (x ++ rest)) e ∙ h rest stop ∙ ap (λ x. x ++ lexemes_of rest) (sym i)

pub left_of : (w m n k : ℕ) → w ≡ max m n → w ≤ k → m ≤ k
left_of w m n k e h = omega arith

pub right_of : (w m n k : ℕ) → w ≡ max m n → w ≤ k → n ≤ k
right_of w m n k e h = omega arith

pub has_text : (names : List (List ℕ)) → are_names names ≡ true → (f : Formula) → HasText names f
has_text names are = formula_induction (HasText names)
    (λ _. cuts_by names formula.Top _ _ (fold_top (text_step names)) (fold_top (lexemes_step names))
    (λ rest stop. token_of_word (codes "true") rest (record { some = λ e. cc; all = refl }) stop))
    (λ _. cuts_by names formula.Bottom _ _ (fold_bottom (text_step names)) (fold_bottom (lexemes_step names))
    (λ rest stop. token_of_word (codes "false") rest (record { some = λ e. cc; all = refl }) stop))
    (λ k h. cuts_by names (formula.Atom k) _ _ (fold_atom (text_step names) k) (fold_atom (lexemes_step names) k)
    (λ rest stop. token_of_word (name_of names k) rest (atom_name names k are (omega (arith, width_atom k, h))).word stop))
    (λ f hf h. cuts_by names (formula.Not f) _ _ (fold_not (text_step names) f) (fold_not (lexemes_step names) f)
    (λ rest stop. ap (λ x. bang ∷ x) (hf (omega (arith, width_not f, h)) rest stop)))
    (λ f g hf hg h. cuts_by names (formula.And f g) _ _ (fold_and (text_step names) f g) (fold_and (lexemes_step names) f g)
    (joined_cuts (formula_text names f) (codes " & ") (formula_text names g) ampersand _ _ (λ x. refl) (λ x. refl) (hf (left_of _ _ _ _ (width_and f g) h)) (hg (right_of _ _ _ _ (width_and f g) h))))
    (λ f g hf hg h. cuts_by names (formula.Or f g) _ _ (fold_or (text_step names) f g) (fold_or (lexemes_step names) f g)
    (joined_cuts (formula_text names f) (codes " | ") (formula_text names g) bar _ _ (λ x. refl) (λ x. refl) (hf (left_of _ _ _ _ (width_or f g) h)) (hg (right_of _ _ _ _ (width_or f g) h))))
    (λ f g hf hg h. cuts_by names (formula.Implies f g) _ _ (fold_implies (text_step names) f g) (fold_implies (lexemes_step names) f g)
    (joined_cuts (formula_text names f) (codes " -> ") (formula_text names g) arrow _ _ (λ x. refl) (λ x. refl) (hf (left_of _ _ _ _ (width_implies f g) h)) (hg (right_of _ _ _ _ (width_implies f g) h))))
    (λ f g hf hg h. cuts_by names (formula.Iff f g) _ _ (fold_iff (text_step names) f g) (fold_iff (lexemes_step names) f g)
    (joined_cuts (formula_text names f) (codes " <-> ") (formula_text names g) both_arrow _ _ (λ x. refl) (λ x. refl) (hf (left_of _ _ _ _ (width_iff f g) h)) (hg (right_of _ _ _ _ (width_iff f g) h))))
