-- The tokens of a formula's canonical text spell it, and are not too deep.
use Rattle.std.proofs.Common.{◌≡◌, ℕ, ◌+◌, ◌<◌, ◌≤◌, Bool, true, false, ◌||◌, List, [], ◌∷◌, ◌++◌, length, max, codes, nat_le, refl, ap, sym, subst, ◌∙◌, append_assoc, append-nil, arith, if◌then◌else◌}
use Rattle.std.specs.List.{list_any}
use Rattle.std.specs.Str.{bytes_eq}
use Rattle.std.proofs.lemmas.Bool.Decides.{nat_tests}
use Rattle.std.proofs.lemmas.List.{map-append}
use Rattle.std.proofs.lemmas.List.Folds.{list_any-append}
use Rattle.formulas.specs.Formulas.{depth_of, width_of}
use Rattle.formulas.specs.Limits.{depth_limit}
use Rattle.formulas.specs.Names.{are_names}
use Rattle.formulas.specs.declared.formula.Formula.{Formula}
use Rattle.formulas.specs.declared.formula.Formula as formula
use Rattle.formulas.proofs.Equations.{fold_top, fold_bottom, fold_atom, fold_not, fold_and, fold_or, fold_implies, fold_iff, depth_top, depth_bottom, depth_atom, depth_not, depth_and, depth_or, depth_implies, depth_iff, width_atom, width_not, width_and, width_or, width_implies, width_iff, formula_induction}
use Rattle.formula_text.specs.CanonicalText.{name_of, joined_text, text_step, formula_text}
use Rattle.line_tokens.specs.Bytes.{is_bad}
use Rattle.line_tokens.specs.Lexemes.{Lexeme, ampersand, bar, arrow, both_arrow, close_bracket, word, lexemes_of}
use Rattle.formula_grammar.specs.declared.symbol.Symbol.{Symbol}
use Rattle.formula_grammar.specs.declared.symbol.Symbol.TheVariants.{Ampersand, Bar, Arrow, BothArrow, Open, Close, True, False, Name, Foreign}
use Rattle.formula_grammar.specs.Grammar.{Level, equivalence, implication, disjunction, negation, Spells, one_implication, equivalent, one_disjunction, implies, one_conjunction, either, one_negation, both, one_base, negated, top, bottom, atom, bracketed}
use Rattle.formula_grammar.specs.Readings.{IsRead, IsTextRead}
use Rattle.formula_grammar.specs.Symbols.{symbols_of, symbol_of, is_past, opened, most_open}
use Rattle.formula_grammar.proofs.Canonical.{joined_lexemes, lexemes_step, formula_lexemes, has_text, left_of, right_of, unjoined_lexemes}
use Rattle.formula_grammar.proofs.Names.{past_unknown}
use Rattle.formula_grammar.proofs.Measures.{AllWithin}
use Rattle.formula_grammar.proofs.WordTokens.{IsAtomName, atom_name, word_has_no_bad}

-- a list of the negation level is one of each looser level
to_disjunction : {ts : List Symbol} {f : Formula} → Spells negation ts f → Spells disjunction ts f
to_disjunction h = one_conjunction (one_negation h)

to_implication : {ts : List Symbol} {f : Formula} → Spells negation ts f → Spells implication ts f
to_implication h = one_disjunction (to_disjunction h)

pub to_equivalence : {ts : List Symbol} {f : Formula} → Spells negation ts f → Spells equivalence ts f
to_equivalence h = one_implication (to_implication h)

symbols_joined : (names : List (List ℕ)) (ss ts : List Lexeme) (mark : Lexeme) →
    symbols_of names (joined_lexemes ss mark ts) ≡ Open ∷ (symbols_of names ss ++ symbol_of names mark ∷ symbols_of names ts) ++ Close ∷ []
symbols_joined names ss ts mark =
    ap (λ x. Open ∷ x) (map-append (symbol_of names) ss (mark ∷ (ts ++ close_bracket ∷ []))
    ∙ ap (λ x. symbols_of names ss ++ symbol_of names mark ∷ x) (map-append (symbol_of names) ts (close_bracket ∷ []))
    ∙ sym (append_assoc (symbols_of names ss) (symbol_of names mark ∷ symbols_of names ts) (Close ∷ [])))

-- in brackets
in_brackets : (names : List (List ℕ)) (ss ts : List Lexeme) (mark : Lexeme) (f : Formula) →
    Spells equivalence (symbols_of names ss ++ symbol_of names mark ∷ symbols_of names ts) f → Spells negation (symbols_of names (joined_lexemes ss mark ts)) f
in_brackets names ss ts mark f h =
    subst (λ (xs : List Symbol). Spells negation xs f) (sym (symbols_joined names ss ts mark)) (one_base (bracketed h))

abbrev SpelledAt : List (List ℕ) → Formula → Type 0
SpelledAt names f = width_of f ≤ length names → Spells negation (symbols_of names (formula_lexemes names f)) f

spelled_by : (names : List (List ℕ)) (f : Formula) (ss : List Lexeme) → formula_lexemes names f ≡ ss → Spells negation (symbols_of names ss) f →
    Spells negation (symbols_of names (formula_lexemes names f)) f
spelled_by names f ss e h = subst (λ (xs : List Lexeme). Spells negation (symbols_of names xs) f) (sym e) h

pub first_false : (a b : Bool) → (a || b) ≡ false → a ≡ false
first_false true b h = absurd (cc)
first_false false b h = refl

pub second_false : (a b : Bool) → (a || b) ≡ false → b ≡ false
second_false true b h = absurd (cc)
second_false false b h = h

named : (a b c : Bool) (n k : ℕ) → a ≡ false → b ≡ false → c ≡ true → n ≡ k →
    (if a then True else if b then False else if c then Name n else Foreign) ≡ Name k
named true b c n k e i j same = absurd (cc)
named false true c n k e i j same = absurd (cc)
named false false true n k e i j same = ap Name same
named false false false n k e i j same = absurd (cc)

-- an atom's name is its number
name_symbol : (names : List (List ℕ)) (k : ℕ) → IsAtomName names k → symbol_of names (word (name_of names k)) ≡ Name k
name_symbol names k is =
    let not_true : bytes_eq (name_of names k) (codes "true") ≡ false = first_false _ _ is.free in
    let not_false : bytes_eq (name_of names k) (codes "false") ≡ false = second_false _ _ is.free in
    named _ _ _ _ k not_true not_false is.plain is.number

pub spelled_at : (names : List (List ℕ)) → are_names names ≡ true → (f : Formula) → SpelledAt names f
spelled_at names are = formula_induction (SpelledAt names)
    (λ _. spelled_by names formula.Top _ (fold_top (lexemes_step names)) (one_base top))
    (λ _. spelled_by names formula.Bottom _ (fold_bottom (lexemes_step names)) (one_base bottom))
    (λ k h. spelled_by names (formula.Atom k) _ (fold_atom (lexemes_step names) k)
    (subst (λ (x : Symbol). Spells negation (x ∷ []) (formula.Atom k)) (sym (name_symbol names k (atom_name names k are (omega (arith, width_atom k, h))))) (one_base (atom k))))
    (λ f hf h. spelled_by names (formula.Not f) _ (fold_not (lexemes_step names) f) (negated (hf (omega (arith, width_not f, h)))))
    (λ f g hf hg h. spelled_by names (formula.And f g) _ (fold_and (lexemes_step names) f g)
    (in_brackets names _ _ ampersand _ (one_implication (one_disjunction (one_conjunction
    (both (one_negation (hf (left_of _ _ _ _ (width_and f g) h))) (hg (right_of _ _ _ _ (width_and f g) h))))))))
    (λ f g hf hg h. spelled_by names (formula.Or f g) _ (fold_or (lexemes_step names) f g)
    (in_brackets names _ _ bar _ (one_implication (one_disjunction
    (either (to_disjunction (hf (left_of _ _ _ _ (width_or f g) h))) (one_negation (hg (right_of _ _ _ _ (width_or f g) h))))))))
    (λ f g hf hg h. spelled_by names (formula.Implies f g) _ (fold_implies (lexemes_step names) f g)
    (in_brackets names _ _ arrow _ (one_implication
    (implies (to_disjunction (hf (left_of _ _ _ _ (width_implies f g) h))) (to_implication (hg (right_of _ _ _ _ (width_implies f g) h)))))))
    (λ f g hf hg h. spelled_by names (formula.Iff f g) _ (fold_iff (lexemes_step names) f g)
    (in_brackets names _ _ both_arrow _
    (equivalent (to_equivalence (hf (left_of _ _ _ _ (width_iff f g) h))) (to_implication (hg (right_of _ _ _ _ (width_iff f g) h))))))

none_append : {X : Type 0} (p : X → Bool) (xs ys : List X) → list_any p xs ≡ false → list_any p ys ≡ false → list_any p (xs ++ ys) ≡ false
none_append p xs ys h i = list_any-append p xs ys ∙ ap (λ b. b || list_any p ys) h ∙ i

-- no byte of the text is bad
abbrev IsGood : List ℕ → Type 0
IsGood s = list_any is_bad s ≡ false

good_joined : (s m t : List ℕ) → IsGood s → IsGood m → IsGood t → IsGood (joined_text s m t)
good_joined s m t h i j =
    none_append is_bad (codes "(" ++ s ++ m ++ t) (codes ")")
    (none_append is_bad (codes "(" ++ s ++ m) t (none_append is_bad (codes "(" ++ s) m (none_append is_bad (codes "(") s refl h) i) j) refl

abbrev GoodAt : List (List ℕ) → Formula → Type 0
GoodAt names f = width_of f ≤ length names → IsGood (formula_text names f)

pub good_at : (names : List (List ℕ)) → are_names names ≡ true → (f : Formula) → GoodAt names f
good_at names are = formula_induction (GoodAt names)
    (λ _. ap (list_any is_bad) (fold_top (text_step names)))
    (λ _. ap (list_any is_bad) (fold_bottom (text_step names)))
    (λ k h. ap (list_any is_bad) (fold_atom (text_step names) k) ∙ word_has_no_bad (name_of names k) (atom_name names k are (omega (arith, width_atom k, h))).word.all)
    (λ f hf h. ap (list_any is_bad) (fold_not (text_step names) f) ∙ hf (omega (arith, width_not f, h)))
    (λ f g hf hg h. ap (list_any is_bad) (fold_and (text_step names) f g)
    ∙ good_joined (formula_text names f) (codes " & ") (formula_text names g) (hf (left_of _ _ _ _ (width_and f g) h)) refl (hg (right_of _ _ _ _ (width_and f g) h)))
    (λ f g hf hg h. ap (list_any is_bad) (fold_or (text_step names) f g)
    ∙ good_joined (formula_text names f) (codes " | ") (formula_text names g) (hf (left_of _ _ _ _ (width_or f g) h)) refl (hg (right_of _ _ _ _ (width_or f g) h)))
    (λ f g hf hg h. ap (list_any is_bad) (fold_implies (text_step names) f g)
    ∙ good_joined (formula_text names f) (codes " -> ") (formula_text names g) (hf (left_of _ _ _ _ (width_implies f g) h)) refl (hg (right_of _ _ _ _ (width_implies f g) h)))
    (λ f g hf hg h. ap (list_any is_bad) (fold_iff (text_step names) f g)
    ∙ good_joined (formula_text names f) (codes " <-> ") (formula_text names g) (hf (left_of _ _ _ _ (width_iff f g) h)) refl (hg (right_of _ _ _ _ (width_iff f g) h)))

none_between : (n : ℕ) (ss ts : List Symbol) (mark : Symbol) → is_past n mark ≡ false → AllWithin n ss → AllWithin n ts → AllWithin n (ss ++ mark ∷ ts)
none_between n ss ts mark e h i = none_append (is_past n) ss (mark ∷ ts) h (ap (λ b. b || list_any (is_past n) ts) e ∙ i)

low_name : (n k : ℕ) → k < n → (nat_le n k || false) ≡ false
low_name n k h = grind (arith, nat_tests)

pub within_spelled : (n : ℕ) {l : Level} {ts : List Symbol} {f : Formula} → Spells l ts f → width_of f ≤ n → AllWithin n ts
within_spelled n (one_implication h) w = within_spelled n h w
within_spelled n (equivalent {ss = ss} {ts = ts} {f = f} {g = g} h i) w =
    none_between n ss ts BothArrow refl (within_spelled n h (left_of _ _ _ _ (width_iff f g) w)) (within_spelled n i (right_of _ _ _ _ (width_iff f g) w))
within_spelled n (one_disjunction h) w = within_spelled n h w
within_spelled n (implies {ss = ss} {ts = ts} {f = f} {g = g} h i) w =
    none_between n ss ts Arrow refl (within_spelled n h (left_of _ _ _ _ (width_implies f g) w)) (within_spelled n i (right_of _ _ _ _ (width_implies f g) w))
within_spelled n (one_conjunction h) w = within_spelled n h w
within_spelled n (either {ss = ss} {ts = ts} {f = f} {g = g} h i) w =
    none_between n ss ts Bar refl (within_spelled n h (left_of _ _ _ _ (width_or f g) w)) (within_spelled n i (right_of _ _ _ _ (width_or f g) w))
within_spelled n (one_negation h) w = within_spelled n h w
within_spelled n (both {ss = ss} {ts = ts} {f = f} {g = g} h i) w =
    none_between n ss ts Ampersand refl (within_spelled n h (left_of _ _ _ _ (width_and f g) w)) (within_spelled n i (right_of _ _ _ _ (width_and f g) w))
within_spelled n (one_base h) w = within_spelled n h w
within_spelled n (negated {f = f} h) w = within_spelled n h (omega (arith, width_not f, w))
within_spelled n top w = refl
within_spelled n bottom w = refl
within_spelled n (atom k) w = low_name n k (omega (arith, width_atom k, w))
within_spelled n (bracketed {ts = ts} h) w = none_between n ts [] Close refl (within_spelled n h w) refl

-- the brackets of a formula's text are no more than its depth, and all closed after it
abbrev OpensAtMost : List Lexeme → ℕ → Type 0
OpensAtMost ss d = (n : ℕ) (rest : List Lexeme) → most_open n (ss ++ rest) ≤ max (n + d) (most_open n rest)

abbrev Opens : List (List ℕ) → Formula → Type 0
Opens names f = OpensAtMost (formula_lexemes names f) (depth_of f)

opens_joined : (ss ts : List Lexeme) (mark : Lexeme) (d e : ℕ) → ((n : ℕ) → opened n mark ≡ n) → OpensAtMost ss d → OpensAtMost ts e →
    OpensAtMost (joined_lexemes ss mark ts) (max d e + 1)
opens_joined ss ts mark d e keeps h i n rest =
    let after = close_bracket ∷ rest in
    let inner = h (n + 1) (mark ∷ (ts ++ after)) in
    let second = i (n + 1) after in
    let marked : most_open (n + 1) (mark ∷ (ts ++ after)) ≡ max (n + 1) (most_open (n + 1) (ts ++ after)) = ap (λ m. max (n + 1) (most_open m (ts ++ after))) (keeps (n + 1)) in
    let closed : most_open (n + 1) after ≡ max (n + 1) (most_open n rest) = ap (λ m. max (n + 1) (most_open m rest)) (omega arith) in
    let same = ap (most_open n) (unjoined_lexemes ss ts rest mark) in
    omega (arith, inner, second, marked, closed, same)

opens_by : (names : List (List ℕ)) (f : Formula) (ss : List Lexeme) (d : ℕ) → formula_lexemes names f ≡ ss → depth_of f ≡ d → OpensAtMost ss d → Opens names f
opens_by names f ss d e i h n rest = omega (arith, ap (λ x. most_open n (x ++ rest)) e, i, h n rest)

one_token : (w : List ℕ) → OpensAtMost (word w ∷ []) 1
one_token w n rest = omega arith

pub opens_at_most : (names : List (List ℕ)) (f : Formula) → Opens names f
opens_at_most names = formula_induction (Opens names)
    (opens_by names formula.Top _ _ (fold_top (lexemes_step names)) depth_top (one_token (codes "true")))
    (opens_by names formula.Bottom _ _ (fold_bottom (lexemes_step names)) depth_bottom (one_token (codes "false")))
    (λ k. opens_by names (formula.Atom k) _ _ (fold_atom (lexemes_step names) k) (depth_atom k) (one_token (name_of names k)))
    (λ f h. opens_by names (formula.Not f) _ _ (fold_not (lexemes_step names) f) (depth_not f) (λ n rest. omega (arith, h n rest)))
    (λ f g h i. opens_by names (formula.And f g) _ _ (fold_and (lexemes_step names) f g) (depth_and f g) (opens_joined _ _ ampersand _ _ (λ n. refl) h i))
    (λ f g h i. opens_by names (formula.Or f g) _ _ (fold_or (lexemes_step names) f g) (depth_or f g) (opens_joined _ _ bar _ _ (λ n. refl) h i))
    (λ f g h i. opens_by names (formula.Implies f g) _ _ (fold_implies (lexemes_step names) f g) (depth_implies f g) (opens_joined _ _ arrow _ _ (λ n. refl) h i))
    (λ f g h i. opens_by names (formula.Iff f g) _ _ (fold_iff (lexemes_step names) f g) (depth_iff f g) (opens_joined _ _ both_arrow _ _ (λ n. refl) h i))

-- the tokens of a canonical text
pub tokens_of_text : (names : List (List ℕ)) → are_names names ≡ true → (f : Formula) → width_of f ≤ length names →
    lexemes_of (formula_text names f) ≡ formula_lexemes names f
tokens_of_text names are f w =
    ap lexemes_of (sym (append-nil (formula_text names f))) ∙ has_text names are f w [] refl ∙ append-nil (formula_lexemes names f)

pub read_back : (names : List (List ℕ)) → are_names names ≡ true → (f : Formula) → width_of f ≤ length names → depth_of f ≤ depth_limit →
    IsTextRead names (formula_text names f) f
read_back names are f w d =
    let spelled = to_equivalence (spelled_at names are f w) in
    let ts = formula_lexemes names f in
    let open_ones = opens_at_most names f 0 [] in
    let nothing_after = ap (most_open 0) (append-nil ts) in
    record {
      good = good_at names are f w;
      read = subst (λ (xs : List Lexeme). IsRead names xs f) (sym (tokens_of_text names are f w)) (record {
        spelled = spelled;
        known = sym (past_unknown names ts) ∙ within_spelled (length names) spelled w;
        depth = d;
        brackets = omega (arith, open_ones, nothing_after);
      });
    }
