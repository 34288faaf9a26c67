-- What the machine answers is spelled by the symbols.
use Rattle.std.proofs.Common.{◌≡◌, List, [], ◌∷◌, ◌++◌, Some, refl, subst, ap, sym, ◌∙◌, append_assoc, append-nil}
use Rattle.std.specs.Option.{option_and_then}
use Rattle.formulas.specs.declared.formula.Formula.{Formula}
use Rattle.formulas.specs.declared.formula.Formula as formula
use Rattle.formula_grammar.specs.declared.symbol.Symbol.{Symbol}
use Rattle.formula_grammar.specs.declared.symbol.Symbol.TheVariants.{Bang, Ampersand, Bar, Arrow, BothArrow, Open, Close, True, False, Name}
use Rattle.formula_grammar.specs.declared.stack.Frame.TheVariants.{NotOf, AndOf, OrOf, ImpliesOf, IffOf, OpenOf}
use Rattle.formula_grammar.specs.declared.stack.Bind.TheVariants.{Loose, Middle, Tight}
use Rattle.formula_grammar.specs.Machine.{State, operand, operator, strip, closed, ended, run}
use Rattle.formula_grammar.specs.Makers.{formula_of}
use Rattle.formula_grammar.specs.Grammar.{Level, equivalence, implication, disjunction, conjunction, negation, base, Spells, one_implication, equivalent, one_disjunction, implies, one_conjunction, either, one_negation, both, one_base, negated, top, bottom, atom, bracketed}
use Rattle.formula_grammar.proofs.Complete.{Stack, Stops, strip_stops}

-- the symbols from which a stack was read
abbrev pub Under : Stack → List Symbol → Type 0
Under [] us = us ≡ []
Under (NotOf ∷ s) us = (vs : List Symbol) × Under s vs × (us ≡ vs ++ Bang ∷ [])
Under (AndOf e ∷ s) us = (vs : List Symbol) × (es : List Symbol) × Under s vs × Spells conjunction es e × Stops Tight s × (us ≡ vs ++ (es ++ Ampersand ∷ []))
Under (OrOf e ∷ s) us = (vs : List Symbol) × (es : List Symbol) × Under s vs × Spells disjunction es e × Stops Middle s × (us ≡ vs ++ (es ++ Bar ∷ []))
Under (ImpliesOf e ∷ s) us = (vs : List Symbol) × (es : List Symbol) × Under s vs × Spells disjunction es e × Stops Middle s × (us ≡ vs ++ (es ++ Arrow ∷ []))
Under (IffOf e ∷ s) us = (vs : List Symbol) × (es : List Symbol) × Under s vs × Spells equivalence es e × Stops Loose s × (us ≡ vs ++ (es ++ BothArrow ∷ []))
Under (OpenOf ∷ s) us = (vs : List Symbol) × Under s vs × (us ≡ vs ++ Open ∷ [])

-- a formula of a level above a stack, and the tokens of both
abbrev pub Valued : Level → List Symbol → Formula × Stack → Type 0
Valued l us p = (vs : List Symbol) × (ss : List Symbol) × Under p.1 vs × Spells l ss p.0 × (us ≡ vs ++ ss)

join : (us vs ws es ss : List Symbol) (mark : Symbol) → us ≡ vs ++ ss → vs ≡ ws ++ (es ++ mark ∷ []) → us ≡ ws ++ (es ++ mark ∷ ss)
join us vs ws es ss mark e i = e ∙ ap (λ x. x ++ ss) i ∙ append_assoc ws (es ++ mark ∷ []) ss ∙ ap (λ x. ws ++ x) (append_assoc es (mark ∷ []) ss)

join_one : (us vs ws ss : List Symbol) (mark : Symbol) → us ≡ vs ++ ss → vs ≡ ws ++ mark ∷ [] → us ≡ ws ++ mark ∷ ss
join_one us vs ws ss mark e i = e ∙ ap (λ x. x ++ ss) i ∙ append_assoc ws (mark ∷ []) ss

abbrev TightRead : List Symbol → Formula × Stack → Type 0
TightRead us p = Valued conjunction us p × Stops Tight p.1

abbrev MiddleRead : List Symbol → Formula × Stack → Type 0
MiddleRead us p = Valued disjunction us p × Stops Middle p.1

abbrev LooseRead : List Symbol → Formula × Stack → Type 0
LooseRead us p = Valued equivalence us p × Stops Loose p.1

to_tight : (f : Formula) (s : Stack) (us : List Symbol) → Valued negation us (f, s) → TightRead us (strip formula_of Tight f s)
to_tight f [] us v = ((v.0, v.1, v.2, one_negation v.3, v.4), tt)
to_tight f (NotOf ∷ s) us v = to_tight (formula.Not f) s us (v.2.0, Bang ∷ v.1, v.2.1, negated v.3, join_one us v.0 v.2.0 v.1 Bang v.4 v.2.2)
to_tight f (AndOf e ∷ s) us v =
    subst (TightRead us) (sym (strip_stops Tight (formula.And e f) s v.2.4)) ((v.2.0, v.2.1 ++ Ampersand ∷ v.1, v.2.2, both v.2.3 v.3, join us v.0 v.2.0 v.2.1 v.1 Ampersand v.4 v.2.5), v.2.4)
to_tight f (OrOf e ∷ s) us v = ((v.0, v.1, v.2, one_negation v.3, v.4), tt)
to_tight f (ImpliesOf e ∷ s) us v = ((v.0, v.1, v.2, one_negation v.3, v.4), tt)
to_tight f (IffOf e ∷ s) us v = ((v.0, v.1, v.2, one_negation v.3, v.4), tt)
to_tight f (OpenOf ∷ s) us v = ((v.0, v.1, v.2, one_negation v.3, v.4), tt)

middle_on : (f : Formula) (s : Stack) (us : List Symbol) → Valued conjunction us (f, s) → Stops Tight s → MiddleRead us (strip formula_of Middle f s)
middle_on f [] us v h = ((v.0, v.1, v.2, one_conjunction v.3, v.4), tt)
middle_on f (NotOf ∷ s) us v h = absurd h
middle_on f (AndOf e ∷ s) us v h = absurd h
middle_on f (OrOf e ∷ s) us v h =
    subst (MiddleRead us) (sym (strip_stops Middle (formula.Or e f) s v.2.4)) ((v.2.0, v.2.1 ++ Bar ∷ v.1, v.2.2, either v.2.3 v.3, join us v.0 v.2.0 v.2.1 v.1 Bar v.4 v.2.5), v.2.4)
middle_on f (ImpliesOf e ∷ s) us v h = ((v.0, v.1, v.2, one_conjunction v.3, v.4), tt)
middle_on f (IffOf e ∷ s) us v h = ((v.0, v.1, v.2, one_conjunction v.3, v.4), tt)
middle_on f (OpenOf ∷ s) us v h = ((v.0, v.1, v.2, one_conjunction v.3, v.4), tt)

loose_on : (f : Formula) (s : Stack) (us : List Symbol) → Valued implication us (f, s) → Stops Middle s → LooseRead us (strip formula_of Loose f s)
loose_on f [] us v h = ((v.0, v.1, v.2, one_implication v.3, v.4), tt)
loose_on f (NotOf ∷ s) us v h = absurd h
loose_on f (AndOf e ∷ s) us v h = absurd h
loose_on f (OrOf e ∷ s) us v h = absurd h
loose_on f (ImpliesOf e ∷ s) us v h =
    loose_on (formula.Implies e f) s us (v.2.0, v.2.1 ++ Arrow ∷ v.1, v.2.2, implies v.2.3 v.3, join us v.0 v.2.0 v.2.1 v.1 Arrow v.4 v.2.5) v.2.4
loose_on f (IffOf e ∷ s) us v h =
    subst (LooseRead us) (sym (strip_stops Loose (formula.Iff e f) s v.2.4)) ((v.2.0, v.2.1 ++ BothArrow ∷ v.1, v.2.2, equivalent v.2.3 v.3, join us v.0 v.2.0 v.2.1 v.1 BothArrow v.4 v.2.5), v.2.4)
loose_on f (OpenOf ∷ s) us v h = ((v.0, v.1, v.2, one_implication v.3, v.4), tt)

middle_by_tight : (f : Formula) (s : Stack) → strip formula_of Middle f s ≡ strip formula_of Middle (strip formula_of Tight f s).0 (strip formula_of Tight f s).1
middle_by_tight f [] = refl
middle_by_tight f (NotOf ∷ s) = middle_by_tight (formula.Not f) s
middle_by_tight f (AndOf e ∷ s) = middle_by_tight (formula.And e f) s
middle_by_tight f (OrOf e ∷ s) = refl
middle_by_tight f (ImpliesOf e ∷ s) = refl
middle_by_tight f (IffOf e ∷ s) = refl
middle_by_tight f (OpenOf ∷ s) = refl

loose_by_middle : (f : Formula) (s : Stack) → strip formula_of Loose f s ≡ strip formula_of Loose (strip formula_of Middle f s).0 (strip formula_of Middle f s).1
loose_by_middle f [] = refl
loose_by_middle f (NotOf ∷ s) = loose_by_middle (formula.Not f) s
loose_by_middle f (AndOf e ∷ s) = loose_by_middle (formula.And e f) s
loose_by_middle f (OrOf e ∷ s) = loose_by_middle (formula.Or e f) s
loose_by_middle f (ImpliesOf e ∷ s) = refl
loose_by_middle f (IffOf e ∷ s) = refl
loose_by_middle f (OpenOf ∷ s) = refl

to_middle : (f : Formula) (s : Stack) (us : List Symbol) → Valued negation us (f, s) → MiddleRead us (strip formula_of Middle f s)
to_middle f s us v =
    let t = to_tight f s us v in
    subst (MiddleRead us) (sym (middle_by_tight f s)) (middle_on (strip formula_of Tight f s).0 (strip formula_of Tight f s).1 us t.0 t.1)

to_loose : (f : Formula) (s : Stack) (us : List Symbol) → Valued negation us (f, s) → LooseRead us (strip formula_of Loose f s)
to_loose f s us v =
    let m = to_middle f s us v in
    subst (LooseRead us) (sym (loose_by_middle f s)) (loose_on (strip formula_of Middle f s).0 (strip formula_of Middle f s).1 us (m.0.0, m.0.1, m.0.2, one_disjunction m.0.3, m.0.4) m.1)

-- what a state was read from
abbrev pub ReadFrom : State Formula → List Symbol → Type 0
ReadFrom (operand s) us = Under s us
ReadFrom (operator f s) us = Valued base us (f, s)

last_one : (us : List Symbol) (p : Formula × Stack) (f : Formula) → LooseRead us p → ended p ≡ Some f → Spells equivalence us f
last_one us (g, []) f h e =
    let same : g ≡ f = cc in
    let all : us ≡ h.0.1 = h.0.4 ∙ ap (λ x. x ++ h.0.1) h.0.2 in
    subst (λ (x : Formula). Spells equivalence us x) same (subst (λ (x : List Symbol). Spells equivalence x g) (sym all) h.0.3)
last_one us (g, x ∷ s) f h e = absurd (cc)

then_from : (us ts : List Symbol) (t : Symbol) (f : Formula) → Spells equivalence ((us ++ t ∷ []) ++ ts) f → Spells equivalence (us ++ t ∷ ts) f
then_from us ts t f h = subst (λ (x : List Symbol). Spells equivalence x f) (append_assoc us (t ∷ []) ts) h

-- a value that the next mark follows
marked : (us vs ss : List Symbol) (mark : Symbol) → us ≡ vs ++ ss → us ++ mark ∷ [] ≡ vs ++ (ss ++ mark ∷ [])
marked us vs ss mark e = ap (λ x. x ++ mark ∷ []) e ∙ append_assoc vs ss (mark ∷ [])

close_from : (us ts : List Symbol) (p : Formula × Stack) (f : Formula) → LooseRead us p → option_and_then (run formula_of ts) (closed p) ≡ Some f →
    ((g : Formula) (s : Stack) → Valued base (us ++ Close ∷ []) (g, s) → run formula_of ts (operator g s) ≡ Some f → Spells equivalence ((us ++ Close ∷ []) ++ ts) f) →
    Spells equivalence ((us ++ Close ∷ []) ++ ts) f
close_from us ts (g, OpenOf ∷ s) f h e go =
    go g s (h.0.2.0, Open ∷ h.0.1 ++ Close ∷ [], h.0.2.1, bracketed h.0.3, marked us h.0.2.0 (Open ∷ h.0.1) Close (join_one us h.0.0 h.0.2.0 h.0.1 Open h.0.4 h.0.2.2)) e
close_from us ts (g, []) f h e go = absurd (cc)
close_from us ts (g, x ∷ s) f h e go = absurd (cc)

pub sound_run : (ts us : List Symbol) (st : State Formula) (f : Formula) → ReadFrom st us → run formula_of ts st ≡ Some f → Spells equivalence (us ++ ts) f
sound_run [] us (operand s) f r e = absurd (cc)
sound_run [] us (operator g s) f r e =
    subst (λ (x : List Symbol). Spells equivalence x f) (sym (append-nil us)) (last_one us (strip formula_of Loose g s) f (to_loose g s us (r.0, r.1, r.2, one_base r.3, r.4)) e)
sound_run (Bang ∷ ts) us (operand s) f r e = then_from us ts Bang f (sound_run ts (us ++ Bang ∷ []) (operand (NotOf ∷ s)) f (us, r, refl) e)
sound_run (Open ∷ ts) us (operand s) f r e = then_from us ts Open f (sound_run ts (us ++ Open ∷ []) (operand (OpenOf ∷ s)) f (us, r, refl) e)
sound_run (True ∷ ts) us (operand s) f r e = then_from us ts True f (sound_run ts (us ++ True ∷ []) (operator formula.Top s) f (us, True ∷ [], r, top, refl) e)
sound_run (False ∷ ts) us (operand s) f r e = then_from us ts False f (sound_run ts (us ++ False ∷ []) (operator formula.Bottom s) f (us, False ∷ [], r, bottom, refl) e)
sound_run (Name k ∷ ts) us (operand s) f r e = then_from us ts (Name k) f (sound_run ts (us ++ Name k ∷ []) (operator (formula.Atom k) s) f (us, Name k ∷ [], r, atom k, refl) e)
sound_run (Ampersand ∷ ts) us (operator g s) f r e =
    let t = to_tight g s us (r.0, r.1, r.2, one_base r.3, r.4) in
    then_from us ts Ampersand f (sound_run ts (us ++ Ampersand ∷ []) (operand (AndOf (strip formula_of Tight g s).0 ∷ (strip formula_of Tight g s).1)) f (t.0.0, t.0.1, t.0.2, t.0.3, t.1, marked us t.0.0 t.0.1 Ampersand t.0.4) e)
sound_run (Bar ∷ ts) us (operator g s) f r e =
    let t = to_middle g s us (r.0, r.1, r.2, one_base r.3, r.4) in
    then_from us ts Bar f (sound_run ts (us ++ Bar ∷ []) (operand (OrOf (strip formula_of Middle g s).0 ∷ (strip formula_of Middle g s).1)) f (t.0.0, t.0.1, t.0.2, t.0.3, t.1, marked us t.0.0 t.0.1 Bar t.0.4) e)
sound_run (Arrow ∷ ts) us (operator g s) f r e =
    let t = to_middle g s us (r.0, r.1, r.2, one_base r.3, r.4) in
    then_from us ts Arrow f (sound_run ts (us ++ Arrow ∷ []) (operand (ImpliesOf (strip formula_of Middle g s).0 ∷ (strip formula_of Middle g s).1)) f (t.0.0, t.0.1, t.0.2, t.0.3, t.1, marked us t.0.0 t.0.1 Arrow t.0.4) e)
sound_run (BothArrow ∷ ts) us (operator g s) f r e =
    let t = to_loose g s us (r.0, r.1, r.2, one_base r.3, r.4) in
    then_from us ts BothArrow f (sound_run ts (us ++ BothArrow ∷ []) (operand (IffOf (strip formula_of Loose g s).0 ∷ (strip formula_of Loose g s).1)) f (t.0.0, t.0.1, t.0.2, t.0.3, t.1, marked us t.0.0 t.0.1 BothArrow t.0.4) e)
sound_run (Close ∷ ts) us (operator g s) f r e =
    then_from us ts Close f (close_from us ts (strip formula_of Loose g s) f (to_loose g s us (r.0, r.1, r.2, one_base r.3, r.4)) e (λ h t v i. sound_run ts (us ++ Close ∷ []) (operator h t) f v i))
sound_run (t ∷ ts) us st f r e = absurd (cc)

-- what the reader answers is spelled
pub spelled_from_run : (ts : List Symbol) (f : Formula) → run formula_of ts (operand []) ≡ Some f → Spells equivalence ts f
spelled_from_run ts f e = sound_run ts [] (operand []) f refl e
