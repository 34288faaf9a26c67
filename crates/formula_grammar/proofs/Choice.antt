-- Tokens, and so a text, are read as a formula or have a least fault.
use Rattle.std.proofs.Common.{◌≡◌, ◌≢◌, ◌≤◌, ◌<◌, ℕ, Bool, true, false, ◌⊎◌, List, [], Option, Some, None, nat_le, refl, sym, subst, ◌∙◌, inl, inr, arith}
use Rattle.std.specs.List.{list_any}
use Rattle.std.proofs.lemmas.Bool.Decides.{nat_tests}
use Rattle.formulas.specs.Formulas.{depth_of}
use Rattle.formulas.specs.Limits.{depth_limit}
use Rattle.formulas.specs.declared.formula.Formula.{Formula}
use Rattle.line_tokens.specs.Bytes.{is_bad}
use Rattle.line_tokens.specs.Lexemes.{Lexeme, lexemes_of}
use Rattle.formula_grammar.specs.declared.read.FormulaStop.{FormulaStop}
use Rattle.formula_grammar.specs.declared.read.FormulaStop.TheVariants.{BadByte, BadForm, UnknownAtom, TooDeep, NoMemory}
use Rattle.formula_grammar.specs.Limits.{open_limit}
use Rattle.formula_grammar.specs.Machine.{operand, run}
use Rattle.formula_grammar.specs.Makers.{formula_of}
use Rattle.formula_grammar.specs.Readings.{IsSpelled, IsRead, IsStop, IsTextStop, IsReadOrStopped, IsTooDeep}
use Rattle.formula_grammar.specs.Symbols.{symbols_of, is_unknown, most_open}
use Rattle.formula_grammar.proofs.Complete.{read_of}
use Rattle.formula_grammar.proofs.Sound.{spelled_from_run}

-- tokens are read as a formula, or something is wrong with them
abbrev pub TokenChoice : List (List ℕ) → List Lexeme → Type 0
TokenChoice atoms ts = ((f : Formula) × IsRead atoms ts f) ⊎ ((stop : FormulaStop) × IsStop atoms ts stop × (stop ≢ NoMemory))

above : (n m : ℕ) → nat_le n m ≡ false → m < n
above n m h = grind (arith, nat_tests)

upto : (n m : ℕ) → nat_le n m ≡ true → n ≤ m
upto n m h = grind (arith, nat_tests)

pub not_deep : (ts : List Lexeme) (f : Formula) → depth_of f ≤ depth_limit → most_open 0 ts ≤ open_limit → IsTooDeep ts f → ⊥
not_deep ts f d o (inl h) = absurd (omega (arith, d, h))
not_deep ts f d o (inr h) = absurd (omega (arith, o, h))

by_depth : (atoms : List (List ℕ)) (ts : List Lexeme) (shallow flat : Bool) (f : Formula) → IsSpelled atoms ts f → list_any (is_unknown atoms) ts ≡ false →
    nat_le (depth_of f) depth_limit ≡ shallow → nat_le (most_open 0 ts) open_limit ≡ flat → TokenChoice atoms ts
by_depth atoms ts false flat f s known deep brackets = inr (TooDeep, (f, s, known, inl (above (depth_of f) depth_limit deep)), λ same. cc)
by_depth atoms ts true false f s known deep brackets = inr (TooDeep, (f, s, known, inr (above (most_open 0 ts) open_limit brackets)), λ same. cc)
by_depth atoms ts true true f s known deep brackets =
    inl (f, record { spelled = s; known = known; depth = upto (depth_of f) depth_limit deep; brackets = upto (most_open 0 ts) open_limit brackets })

by_names : (atoms : List (List ℕ)) (ts : List Lexeme) (some : Bool) (f : Formula) → IsSpelled atoms ts f → list_any (is_unknown atoms) ts ≡ some → TokenChoice atoms ts
by_names atoms ts true f s e = inr (UnknownAtom, (f, s, e), λ same. cc)
by_names atoms ts false f s e = by_depth atoms ts _ _ f s e refl refl

by_run : (atoms : List (List ℕ)) (ts : List Lexeme) (read : Option Formula) → run formula_of (symbols_of atoms ts) (operand []) ≡ read → TokenChoice atoms ts
by_run atoms ts None e = inr (BadForm, (λ f s. let both : Some f ≡ None = sym (read_of s) ∙ e in absurd (cc)), λ same. cc)
by_run atoms ts (Some f) e = by_names atoms ts _ f (spelled_from_run (symbols_of atoms ts) f e) refl

pub token_choice : (atoms : List (List ℕ)) (ts : List Lexeme) → TokenChoice atoms ts
token_choice atoms ts = by_run atoms ts _ refl

-- what stops the tokens of a text without a bad byte stops the text
pub text_stop : (atoms : List (List ℕ)) (text : List ℕ) (ts : List Lexeme) → ts ≡ lexemes_of text → list_any is_bad text ≡ false →
    (stop : FormulaStop) → IsStop atoms ts stop → IsTextStop atoms text stop
text_stop atoms text ts e good BadByte h = absurd h
text_stop atoms text ts e good BadForm h = (good, subst (λ (xs : List Lexeme). IsStop atoms xs BadForm) e h)
text_stop atoms text ts e good UnknownAtom h = (good, subst (λ (xs : List Lexeme). IsStop atoms xs UnknownAtom) e h)
text_stop atoms text ts e good TooDeep h = (good, subst (λ (xs : List Lexeme). IsStop atoms xs TooDeep) e h)
text_stop atoms text ts e good NoMemory h = tt

of_tokens : (atoms : List (List ℕ)) (text : List ℕ) → list_any is_bad text ≡ false → TokenChoice atoms (lexemes_of text) → IsReadOrStopped atoms text
of_tokens atoms text good (inl h) = inl (h.0, record { good = good; read = h.1 })
of_tokens atoms text good (inr h) = inr (h.0, text_stop atoms text (lexemes_of text) refl good h.0 h.1, h.2)

by_bytes : (atoms : List (List ℕ)) (text : List ℕ) (bad : Bool) → list_any is_bad text ≡ bad → IsReadOrStopped atoms text
by_bytes atoms text true e = inr (BadByte, e, λ same. cc)
by_bytes atoms text false e = of_tokens atoms text e (token_choice atoms (lexemes_of text))

pub text_choice : (atoms : List (List ℕ)) (text : List ℕ) → IsReadOrStopped atoms text
text_choice atoms text = by_bytes atoms text _ refl
