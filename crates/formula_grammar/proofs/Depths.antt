-- The machine over one kind of values follows the machine over another, where each part's value does.
use Rattle.std.proofs.Common.{◌≡◌, true, false, List, [], ◌∷◌, Option, Some, None, map, refl, ap, sym, ◌∙◌, if◌then◌else◌}
use Rattle.std.specs.Option.{option_and_then, option_map}
use Rattle.formula_grammar.specs.declared.symbol.Symbol.{Symbol}
use Rattle.formula_grammar.specs.declared.symbol.Symbol.TheVariants.{Bang, Ampersand, Bar, Arrow, BothArrow, Open, Close, True, False, Name, Foreign}
use Rattle.formula_grammar.specs.declared.stack.Part.{Part}
use Rattle.formula_grammar.specs.declared.stack.Part.TheVariants.{Top, Bottom, Atom, Not, And, Or, Implies, Iff}
use Rattle.formula_grammar.specs.declared.stack.Frame.{Frame}
use Rattle.formula_grammar.specs.declared.stack.Frame.TheVariants.{NotOf, AndOf, OrOf, ImpliesOf, IffOf, OpenOf}
use Rattle.formula_grammar.specs.declared.stack.Bind.{Bind}
use Rattle.formula_grammar.specs.declared.stack.Bind.TheVariants.{Loose, Middle, Tight}
use Rattle.formula_grammar.specs.Machine.{State, operand, operator, closes, combined, strip, closed, pushed, step, ended, answer, run}

abbrev pub part_map : {V W : Type 0} → (V → W) → Part V → Part W
part_map h Top = Top
part_map h Bottom = Bottom
part_map h (Atom k) = Atom k
part_map h (Not f) = Not (h f)
part_map h (And f g) = And (h f) (h g)
part_map h (Or f g) = Or (h f) (h g)
part_map h (Implies f g) = Implies (h f) (h g)
part_map h (Iff f g) = Iff (h f) (h g)

abbrev pub frame_map : {V W : Type 0} → (V → W) → Frame V → Frame W
frame_map h NotOf = NotOf
frame_map h (AndOf f) = AndOf (h f)
frame_map h (OrOf f) = OrOf (h f)
frame_map h (ImpliesOf f) = ImpliesOf (h f)
frame_map h (IffOf f) = IffOf (h f)
frame_map h OpenOf = OpenOf

abbrev pub state_map : {V W : Type 0} → (V → W) → State V → State W
state_map h (operand s) = operand (map (frame_map h) s)
state_map h (operator f s) = operator (h f) (map (frame_map h) s)

-- the value of each part is that of its children's values
abbrev pub Follows : {V W : Type 0} → (V → W) → (Part V → V) → (Part W → W) → Type 0
Follows {V} h made made' = (p : Part V) → h (made p) ≡ made' (part_map h p)

closes_map : {V W : Type 0} (h : V → W) (b : Bind) (x : Frame V) → closes b (frame_map h x) ≡ closes b x
closes_map h b NotOf = refl
closes_map h b (AndOf e) = refl
closes_map h Loose (OrOf e) = refl
closes_map h Middle (OrOf e) = refl
closes_map h Tight (OrOf e) = refl
closes_map h Loose (ImpliesOf e) = refl
closes_map h Middle (ImpliesOf e) = refl
closes_map h Tight (ImpliesOf e) = refl
closes_map h Loose (IffOf e) = refl
closes_map h Middle (IffOf e) = refl
closes_map h Tight (IffOf e) = refl
closes_map h b OpenOf = refl

combined_map : {V W : Type 0} (h : V → W) (made : Part V → V) (made' : Part W → W) → Follows h made made' →
    (x : Frame V) (f : V) → combined made' (frame_map h x) (h f) ≡ h (combined made x f)
combined_map h made made' same NotOf f = sym (same (Not f))
combined_map h made made' same (AndOf e) f = sym (same (And e f))
combined_map h made made' same (OrOf e) f = sym (same (Or e f))
combined_map h made made' same (ImpliesOf e) f = sym (same (Implies e f))
combined_map h made made' same (IffOf e) f = sym (same (Iff e f))
combined_map h made made' same OpenOf f = refl

abbrev both_map : {V W : Type 0} → (V → W) → V × List (Frame V) → W × List (Frame W)
both_map h p = (h p.0, map (frame_map h) p.1)

strip_map : {V W : Type 0} (h : V → W) (made : Part V → V) (made' : Part W → W) → Follows h made made' →
    (b : Bind) (f : V) (s : List (Frame V)) → strip made' b (h f) (map (frame_map h) s) ≡ both_map h (strip made b f s)
strip_map h made made' same b f [] = refl
strip_map h made made' same b f (x ∷ s) =
    let further = ap (λ g. strip made' b g (map (frame_map h) s)) (combined_map h made made' same x f) ∙ strip_map h made made' same b (combined made x f) s in
    ap (λ t. if t then strip made' b (combined made' (frame_map h x) (h f)) (map (frame_map h) s) else (h f, frame_map h x ∷ map (frame_map h) s)) (closes_map h b x)
    ∙ elim (closes b x) as (λ t. (if t then strip made' b (combined made' (frame_map h x) (h f)) (map (frame_map h) s) else (h f, frame_map h x ∷ map (frame_map h) s))
    ≡ both_map h (if t then strip made b (combined made x f) s else (f, x ∷ s))) [ true ↦ further | false ↦ refl ]

closed_map : {V W : Type 0} (h : V → W) (p : V × List (Frame V)) → closed (both_map h p) ≡ option_map (state_map h) (closed p)
closed_map h (f, []) = refl
closed_map h (f, NotOf ∷ s) = refl
closed_map h (f, AndOf e ∷ s) = refl
closed_map h (f, OrOf e ∷ s) = refl
closed_map h (f, ImpliesOf e ∷ s) = refl
closed_map h (f, IffOf e ∷ s) = refl
closed_map h (f, OpenOf ∷ s) = refl

ended_map : {V W : Type 0} (h : V → W) (p : V × List (Frame V)) → ended (both_map h p) ≡ option_map h (ended p)
ended_map h (f, []) = refl
ended_map h (f, x ∷ s) = refl

step_map : {V W : Type 0} (h : V → W) (made : Part V → V) (made' : Part W → W) → Follows h made made' →
    (t : Symbol) (st : State V) → step made' t (state_map h st) ≡ option_map (state_map h) (step made t st)
step_map h made made' same Bang (operand s) = refl
step_map h made made' same Open (operand s) = refl
step_map h made made' same True (operand s) = ap (λ v. Some (operator v (map (frame_map h) s))) (sym (same Top))
step_map h made made' same False (operand s) = ap (λ v. Some (operator v (map (frame_map h) s))) (sym (same Bottom))
step_map h made made' same (Name k) (operand s) = ap (λ v. Some (operator v (map (frame_map h) s))) (sym (same (Atom k)))
step_map h made made' same Ampersand (operand s) = refl
step_map h made made' same Bar (operand s) = refl
step_map h made made' same Arrow (operand s) = refl
step_map h made made' same BothArrow (operand s) = refl
step_map h made made' same Close (operand s) = refl
step_map h made made' same Foreign (operand s) = refl
step_map h made made' same Ampersand (operator f s) = ap (pushed AndOf) (strip_map h made made' same Tight f s)
step_map h made made' same Bar (operator f s) = ap (pushed OrOf) (strip_map h made made' same Middle f s)
step_map h made made' same Arrow (operator f s) = ap (pushed ImpliesOf) (strip_map h made made' same Middle f s)
step_map h made made' same BothArrow (operator f s) = ap (pushed IffOf) (strip_map h made made' same Loose f s)
step_map h made made' same Close (operator f s) = ap closed (strip_map h made made' same Loose f s) ∙ closed_map h (strip made Loose f s)
step_map h made made' same Bang (operator f s) = refl
step_map h made made' same Open (operator f s) = refl
step_map h made made' same True (operator f s) = refl
step_map h made made' same False (operator f s) = refl
step_map h made made' same (Name k) (operator f s) = refl
step_map h made made' same Foreign (operator f s) = refl

answer_map : {V W : Type 0} (h : V → W) (made : Part V → V) (made' : Part W → W) → Follows h made made' →
    (st : State V) → answer made' (state_map h st) ≡ option_map h (answer made st)
answer_map h made made' same (operand s) = refl
answer_map h made made' same (operator f s) = ap ended (strip_map h made made' same Loose f s) ∙ ended_map h (strip made Loose f s)

then_map : {V W : Type 0} (h : V → W) (made : Part V → V) (made' : Part W → W) (ts : List Symbol) →
    ((st : State V) → run made' ts (state_map h st) ≡ option_map h (run made ts st)) →
    (o : Option (State V)) → option_and_then (run made' ts) (option_map (state_map h) o) ≡ option_map h (option_and_then (run made ts) o)
then_map h made made' ts rest None = refl
then_map h made made' ts rest (Some st) = rest st

pub run_map : {V W : Type 0} (h : V → W) (made : Part V → V) (made' : Part W → W) → Follows h made made' →
    (ts : List Symbol) (st : State V) → run made' ts (state_map h st) ≡ option_map h (run made ts st)
run_map h made made' same [] st = answer_map h made made' same st
run_map h made made' same (t ∷ ts) st =
    ap (option_and_then (run made' ts)) (step_map h made made' same t st) ∙ then_map h made made' ts (run_map h made made' same ts) (step made t st)
