-- The machine finds the formula that a list of symbols spells.
use Rattle.std.proofs.Common.{◌≡◌, List, [], ◌∷◌, ◌++◌, Some, refl, ap, sym, ◌∙◌, append_assoc, append-nil}
use Rattle.std.specs.Option.{option_and_then}
use Rattle.formulas.specs.declared.formula.Formula.{Formula}
use Rattle.formulas.specs.declared.formula.Formula as formula
use Rattle.formula_grammar.specs.declared.symbol.Symbol.{Symbol}
use Rattle.formula_grammar.specs.declared.symbol.Symbol.TheVariants.{Ampersand, Bar, Arrow, BothArrow, Close}
use Rattle.formula_grammar.specs.declared.stack.Frame.{Frame}
use Rattle.formula_grammar.specs.declared.stack.Frame.TheVariants.{NotOf, AndOf, OrOf, ImpliesOf, IffOf, OpenOf}
use Rattle.formula_grammar.specs.declared.stack.Bind.{Bind}
use Rattle.formula_grammar.specs.declared.stack.Bind.TheVariants.{Loose, Middle, Tight}
use Rattle.formula_grammar.specs.Machine.{operand, operator, strip, closed, pushed, ended, run}
use Rattle.formula_grammar.specs.Makers.{formula_of}
use Rattle.formula_grammar.specs.Grammar.{Level, equivalence, implication, disjunction, conjunction, negation, base, Spells, one_implication, equivalent, one_disjunction, implies, one_conjunction, either, one_negation, both, one_base, negated, top, bottom, atom, bracketed}

-- the frames of a machine that makes formulas
abbrev pub Stack : Type 0
Stack = List (Frame Formula)

-- no frame at the top is closed
abbrev pub Stops : Bind → Stack → Type 0
Stops b [] = Unit {0}
Stops b (NotOf ∷ s) = ⊥
Stops b (AndOf e ∷ s) = ⊥
Stops Loose (OrOf e ∷ s) = ⊥
Stops Middle (OrOf e ∷ s) = ⊥
Stops Tight (OrOf e ∷ s) = Unit {0}
Stops Loose (ImpliesOf e ∷ s) = ⊥
Stops Middle (ImpliesOf e ∷ s) = Unit {0}
Stops Tight (ImpliesOf e ∷ s) = Unit {0}
Stops Loose (IffOf e ∷ s) = ⊥
Stops Middle (IffOf e ∷ s) = Unit {0}
Stops Tight (IffOf e ∷ s) = Unit {0}
Stops b (OpenOf ∷ s) = Unit {0}

pub strip_stops : (b : Bind) (f : Formula) (s : Stack) → Stops b s → strip formula_of b f s ≡ (f, s)
strip_stops b f [] h = refl
strip_stops b f (NotOf ∷ s) h = absurd h
strip_stops b f (AndOf e ∷ s) h = absurd h
strip_stops Loose f (OrOf e ∷ s) h = absurd h
strip_stops Middle f (OrOf e ∷ s) h = absurd h
strip_stops Tight f (OrOf e ∷ s) h = refl
strip_stops Loose f (ImpliesOf e ∷ s) h = absurd h
strip_stops Middle f (ImpliesOf e ∷ s) h = refl
strip_stops Tight f (ImpliesOf e ∷ s) h = refl
strip_stops Loose f (IffOf e ∷ s) h = absurd h
strip_stops Middle f (IffOf e ∷ s) h = refl
strip_stops Tight f (IffOf e ∷ s) h = refl
strip_stops b f (OpenOf ∷ s) h = refl

stops_middle : (s : Stack) → Stops Loose s → Stops Middle s
stops_middle [] h = tt
stops_middle (NotOf ∷ s) h = absurd h
stops_middle (AndOf e ∷ s) h = absurd h
stops_middle (OrOf e ∷ s) h = absurd h
stops_middle (ImpliesOf e ∷ s) h = tt
stops_middle (IffOf e ∷ s) h = tt
stops_middle (OpenOf ∷ s) h = tt

stops_tight : (s : Stack) → Stops Middle s → Stops Tight s
stops_tight [] h = tt
stops_tight (NotOf ∷ s) h = absurd h
stops_tight (AndOf e ∷ s) h = absurd h
stops_tight (OrOf e ∷ s) h = tt
stops_tight (ImpliesOf e ∷ s) h = tt
stops_tight (IffOf e ∷ s) h = tt
stops_tight (OpenOf ∷ s) h = tt

-- where a formula of a level may be read
abbrev pub Fits : Level → Stack → Type 0
Fits equivalence s = Stops Loose s
Fits implication s = Stops Middle s
Fits disjunction s = Stops Middle s
Fits conjunction s = Stops Tight s
Fits negation s = Unit {0}
Fits base s = Unit {0}

-- closing gives the same as from the whole formula
abbrev pub Agrees : Level → Formula → Stack → Formula → Stack → Type 0
Agrees equivalence g t f s = strip formula_of Loose g t ≡ strip formula_of Loose f s
Agrees implication g t f s = strip formula_of Loose g t ≡ strip formula_of Loose f s
Agrees disjunction g t f s = (strip formula_of Loose g t ≡ strip formula_of Loose f s) × (strip formula_of Middle g t ≡ strip formula_of Middle f s)
Agrees conjunction g t f s = (strip formula_of Loose g t ≡ strip formula_of Loose f s) × (strip formula_of Middle g t ≡ strip formula_of Middle f s) × (strip formula_of Tight g t ≡ strip formula_of Tight f s)
Agrees negation g t f s = (strip formula_of Loose g t ≡ strip formula_of Loose f s) × (strip formula_of Middle g t ≡ strip formula_of Middle f s) × (strip formula_of Tight g t ≡ strip formula_of Tight f s)
Agrees base g t f s = (strip formula_of Loose g t ≡ strip formula_of Loose f s) × (strip formula_of Middle g t ≡ strip formula_of Middle f s) × (strip formula_of Tight g t ≡ strip formula_of Tight f s)

-- after the symbols of a formula the machine is where it would be after the whole formula
abbrev pub Reads : Level → List Symbol → Formula → Stack → List Symbol → Type 0
Reads l ts f s rest = (g : Formula) × (t : Stack) × (run formula_of (ts ++ rest) (operand s) ≡ run formula_of rest (operator g t)) × Agrees l g t f s

pub reads : {l : Level} {ts : List Symbol} {f : Formula} → Spells l ts f → (s : Stack) (rest : List Symbol) → Fits l s → Reads l ts f s rest
reads (one_implication h) s rest fits = reads h s rest (stops_middle s fits)
reads (equivalent {ss = ss} {ts = us} {f = f} {g = g} h i) s rest fits =
    let a = reads h s (BothArrow ∷ (us ++ rest)) fits in
    let b = reads i (IffOf f ∷ s) rest tt in
    (b.0, b.1, ap (λ xs. run formula_of xs (operand s)) (append_assoc ss (BothArrow ∷ us) rest) ∙ a.2 ∙ ap (λ p. option_and_then (run formula_of (us ++ rest)) (pushed IffOf p)) (a.3 ∙ strip_stops Loose f s fits) ∙ b.2, b.3)
reads (one_disjunction h) s rest fits = let a = reads h s rest fits in (a.0, a.1, a.2, a.3.0)
reads (implies {ss = ss} {ts = us} {f = f} {g = g} h i) s rest fits =
    let a = reads h s (Arrow ∷ (us ++ rest)) fits in
    let b = reads i (ImpliesOf f ∷ s) rest tt in
    (b.0, b.1, ap (λ xs. run formula_of xs (operand s)) (append_assoc ss (Arrow ∷ us) rest) ∙ a.2 ∙ ap (λ p. option_and_then (run formula_of (us ++ rest)) (pushed ImpliesOf p)) (a.3.1 ∙ strip_stops Middle f s fits) ∙ b.2, b.3)
reads (one_conjunction h) s rest fits = let a = reads h s rest (stops_tight s fits) in (a.0, a.1, a.2, (a.3.0, a.3.1))
reads (either {ss = ss} {ts = us} {f = f} {g = g} h i) s rest fits =
    let a = reads h s (Bar ∷ (us ++ rest)) fits in
    let b = reads i (OrOf f ∷ s) rest tt in
    (b.0, b.1, ap (λ xs. run formula_of xs (operand s)) (append_assoc ss (Bar ∷ us) rest) ∙ a.2 ∙ ap (λ p. option_and_then (run formula_of (us ++ rest)) (pushed OrOf p)) (a.3.1 ∙ strip_stops Middle f s fits) ∙ b.2, (b.3.0, b.3.1))
reads (one_negation h) s rest fits = reads h s rest tt
reads (both {ss = ss} {ts = us} {f = f} {g = g} h i) s rest fits =
    let a = reads h s (Ampersand ∷ (us ++ rest)) fits in
    let b = reads i (AndOf f ∷ s) rest tt in
    (b.0, b.1, ap (λ xs. run formula_of xs (operand s)) (append_assoc ss (Ampersand ∷ us) rest) ∙ a.2 ∙ ap (λ p. option_and_then (run formula_of (us ++ rest)) (pushed AndOf p)) (a.3.2 ∙ strip_stops Tight f s fits) ∙ b.2, b.3)
reads (one_base h) s rest fits = reads h s rest tt
reads (negated h) s rest fits = reads h (NotOf ∷ s) rest tt
reads top s rest fits = (formula.Top, s, refl, (refl, refl, refl))
reads bottom s rest fits = (formula.Bottom, s, refl, (refl, refl, refl))
reads (atom k) s rest fits = (formula.Atom k, s, refl, (refl, refl, refl))
reads (bracketed {ts = ts} {f = f} h) s rest fits =
    let a = reads h (OpenOf ∷ s) (Close ∷ rest) tt in
    (f, s, ap (λ xs. run formula_of xs (operand (OpenOf ∷ s))) (append_assoc ts (Close ∷ []) rest) ∙ a.2 ∙ ap (λ p. option_and_then (run formula_of rest) (closed p)) a.3, (refl, refl, refl))

-- the machine answers what the symbols spell
pub read_of : {ts : List Symbol} {f : Formula} → Spells equivalence ts f → run formula_of ts (operand []) ≡ Some f
read_of {ts} {f} h =
    let a = reads h [] [] tt in
    ap (λ xs. run formula_of xs (operand [])) (sym (append-nil ts)) ∙ a.2 ∙ ap ended a.3

-- a list of symbols spells one formula at most
pub one_formula : {ts : List Symbol} {f g : Formula} → Spells equivalence ts f → Spells equivalence ts g → f ≡ g
one_formula h i = let both : Some _ ≡ Some _ = sym (read_of h) ∙ read_of i in cc
