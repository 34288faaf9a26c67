-- A text declares one thing at most, and has one first fault at most.
use Rattle.std.proofs.Common.{◌≡◌, ◌+◌, ℕ, ◌⊎◌, List, [], ◌∷◌, ◌++◌, length, append_assoc, refl, ap, sym, subst, ◌∙◌, inl, inr}
use Rattle.merge_model.specs.declared.problem.Problem.{Problem}
use Rattle.problem_lines.specs.Lines.{lines_of}
use Rattle.problem_reading.specs.declared.stop.TextFault.{TextFault}
use Rattle.problem_reading.specs.declared.stop.TextKind.{TextKind}
use Rattle.problem_reading.specs.Drafts.{Draft}
use Rattle.problem_reading.specs.Faults.{IsLineFault}
use Rattle.problem_reading.specs.Saying.{Adds}
use Rattle.problem_reading.specs.Spelling.{Declares, no_lines, one_more, IsFirstLineFault, FirstFault, Spelled}
use Rattle.problem_laws.specs.Sameness.{SameFault, SameProblem}
use Rattle.problem_reading.proofs.OneDraft.{Line, heads, end_parts, declares_once}
use Rattle.problem_laws.proofs.EndLaws.{same_problem, same_end, spelled_or_ended}
use Rattle.problem_laws.proofs.LineLaws.{one_fault, never_both}

pub last_of : (a : Line) (xs : List Line) → (ys : List Line) × (y : Line) × (a ∷ xs ≡ ys ++ y ∷ [])
last_of a [] = ([], a, refl)
last_of a (b ∷ xs) = let rest = last_of b xs in (a ∷ rest.0, rest.1, ap (λ zs. a ∷ zs) rest.2)

-- the lines before one of the lines declare something to which it adds
abbrev Passes : List Line → Line → Type 0
Passes before line = (d : Draft) × (e : Draft) × Declares before d × Adds d line e

passes : {ls : List Line} {e : Draft} → Declares ls e → (before : List Line) (line : Line) (rest : List Line) → ls ≡ before ++ line ∷ rest → Passes before line
passes no_lines [] line rest same = absurd (cc)
passes no_lines (b ∷ before) line rest same = absurd (cc)
passes (one_more {lines = ls} {d = d} x e h adds) before line [] same =
    let parts = end_parts ls before x line same in
    (d, e, subst (λ (zs : List Line). Declares zs d) parts.0 h, subst (λ (z : Line). Adds d z e) parts.1 adds)
passes (one_more {lines = ls} {d = d} x e h adds) before line (a ∷ rest) same =
    let end = last_of a rest in
    let all = same ∙ ap (λ zs. before ++ line ∷ zs) end.2 ∙ sym (append_assoc before (line ∷ end.0) (end.1 ∷ [])) in
    passes h before line end.0 (end_parts ls (before ++ line ∷ end.0) x end.1 all).0

-- a line with a fault is among no lines that declare something
no_fault_among : {ls : List Line} {e : Draft} → Declares ls e → (before rest : List Line) (line : Line) (d : Draft) (k : TextKind) → ls ≡ before ++ line ∷ rest →
    Declares before d → IsLineFault d line k → ⊥
no_fault_among all before rest line d k same declares fault =
    let here = passes all before line rest same in
    never_both d line here.1 k (subst (λ (x : Draft). Adds x line here.1) (declares_once here.2 declares refl) here.3) fault

-- of two places in one list one is before the other, or they are the same
abbrev Places : List Line → Line → List Line → Line → Type 0
Places xs x ys y =
    ((xs ≡ ys) × (x ≡ y)) ⊎ (((zs : List Line) × (ys ≡ xs ++ x ∷ zs)) ⊎ ((zs : List Line) × (xs ≡ ys ++ y ∷ zs)))

further : (a : Line) (xs ys : List Line) (x y : Line) → Places xs x ys y → Places (a ∷ xs) x (a ∷ ys) y
further a xs ys x y (inl h) = inl (ap (λ zs. a ∷ zs) h.0, h.1)
further a xs ys x y (inr (inl h)) = inr (inl (h.0, ap (λ zs. a ∷ zs) h.1))
further a xs ys x y (inr (inr h)) = inr (inr (h.0, ap (λ zs. a ∷ zs) h.1))

places : (xs ys : List Line) (x y : Line) (xr yr : List Line) → xs ++ x ∷ xr ≡ ys ++ y ∷ yr → Places xs x ys y
places [] [] x y xr yr e = inl (refl, (heads x y xr yr e).0)
places [] (b ∷ ys) x y xr yr e = inr (inl (ys, ap (λ z. z ∷ ys) (sym (heads x b xr (ys ++ y ∷ yr) e).0)))
places (a ∷ xs) [] x y xr yr e = inr (inr (xs, ap (λ z. z ∷ xs) (heads a y (xs ++ x ∷ xr) yr e).0))
places (a ∷ xs) (b ∷ ys) x y xr yr e =
    let h = heads a b (xs ++ x ∷ xr) (ys ++ y ∷ yr) e in
    subst (λ (z : Line). Places (a ∷ xs) x (z ∷ ys) y) h.0 (further a xs ys x y (places xs ys x y xr yr h.1))

at_places : (bytes : List ℕ) (f g : TextFault) (h : IsFirstLineFault bytes f) (i : IsFirstLineFault bytes g) → Places h.before h.line i.before i.line → SameFault f g
at_places bytes f g h i (inl same) =
    let drafts = declares_once h.declares i.declares same.0 in
    let moved = subst (λ (x : Line). IsLineFault i.draft x f.kind) same.1 (subst (λ (x : Draft). IsLineFault x h.line f.kind) drafts h.least) in
    (h.number ∙ ap (λ xs. length xs + 1) same.0 ∙ sym i.number, one_fault i.draft i.line f.kind g.kind moved i.least)
at_places bytes f g h i (inr (inl p)) = absurd (no_fault_among i.declares h.before p.0 h.line h.draft f.kind p.1 h.declares h.least)
at_places bytes f g h i (inr (inr p)) = absurd (no_fault_among h.declares i.before p.0 i.line i.draft g.kind p.1 i.declares i.least)

pub one_first_fault : (bytes : List ℕ) (f g : TextFault) → FirstFault bytes f → FirstFault bytes g → SameFault f g
one_first_fault bytes f g (inl h) (inl i) = at_places bytes f g h i (places h.before i.before h.line i.line h.after i.after (sym h.lines ∙ i.lines))
one_first_fault bytes f g (inl h) (inr i) = absurd (no_fault_among i.1 h.before h.after h.line h.draft f.kind h.lines h.declares h.least)
one_first_fault bytes f g (inr h) (inl i) = absurd (no_fault_among h.1 i.before i.after i.line i.draft g.kind i.lines i.declares i.least)
one_first_fault bytes f g (inr h) (inr i) = same_end (lines_of bytes) f g h i

pub one_problem : (bytes : List ℕ) (p q : Problem) → Spelled bytes p → Spelled bytes q → SameProblem p q
one_problem bytes p q h i = same_problem (lines_of bytes) p q h i

pub spelled_or_faulty : (bytes : List ℕ) (p : Problem) (f : TextFault) → Spelled bytes p → FirstFault bytes f → ⊥
spelled_or_faulty bytes p f h (inl i) = no_fault_among h.1 i.before i.after i.line i.draft f.kind i.lines i.declares i.least
spelled_or_faulty bytes p f h (inr i) = spelled_or_ended (lines_of bytes) p f h i
