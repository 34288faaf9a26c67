-- Lines declare one draft at most.
use Rattle.std.proofs.Common.{◌≡◌, ℕ, List, [], ◌∷◌, ◌++◌, refl, ap, sym, subst, ◌∙◌}
use Rattle.problem_reading.specs.Drafts.{Draft}
use Rattle.problem_reading.specs.Saying.{Adds, after}
use Rattle.problem_reading.specs.Spelling.{Declares, no_lines, one_more}
use Rattle.problem_reading.proofs.OneSaid.{one_said}

pub adds_once : (d : Draft) (line : List ℕ) (e c : Draft) → Adds d line e → Adds d line c → e ≡ c
adds_once d line e c h i = h.2 ∙ ap (after d) (one_said d line h.0 i.0 h.1 i.1) ∙ sym i.2

abbrev pub Line : Type 0
Line = List ℕ

end_some : (xs : List Line) (x : Line) → [] ≡ xs ++ x ∷ [] → ⊥
end_some [] x e = absurd (cc)
end_some (y ∷ xs) x e = absurd (cc)

pub heads : (x y : Line) (xs ys : List Line) → x ∷ xs ≡ y ∷ ys → (x ≡ y) × (xs ≡ ys)
heads x y xs ys e = (cc, cc)

-- lists that end in one element have the same elements
pub end_parts : (xs ys : List Line) (x y : Line) → xs ++ x ∷ [] ≡ ys ++ y ∷ [] → (xs ≡ ys) × (x ≡ y)
end_parts [] [] x y e = (refl, (heads x y [] [] e).0)
end_parts [] (b ∷ ys) x y e = absurd (end_some ys y (heads x b [] (ys ++ y ∷ []) e).1)
end_parts (a ∷ xs) [] x y e = absurd (end_some xs x (sym (heads a y (xs ++ x ∷ []) [] e).1))
end_parts (a ∷ xs) (b ∷ ys) x y e =
    let h = heads a b (xs ++ x ∷ []) (ys ++ y ∷ []) e in
    let rest = end_parts xs ys x y h.1 in
    (ap (λ z. z ∷ xs) h.0 ∙ ap (λ zs. b ∷ zs) rest.0, rest.1)

-- equal lines declare the same
pub declares_once : {ls ks : List Line} {d e : Draft} → Declares ls d → Declares ks e → ls ≡ ks → d ≡ e
declares_once no_lines no_lines same = refl
declares_once no_lines (one_more {lines = ks} line e h adds) same = absurd (end_some ks line same)
declares_once (one_more {lines = ls} line e h adds) no_lines same = absurd (end_some ls line (sym same))
declares_once (one_more {lines = ls} {d = d} line e h adds) (one_more {lines = ks} {d = c} other f i more) same =
    let parts = end_parts ls ks line other same in
    let before = declares_once h i parts.0 in
    let moved = subst (λ (x : Line). Adds c x e) parts.1 (subst (λ (x : Draft). Adds x line e) before adds) in
    adds_once c other e f moved more

-- the last of lines without a fault adds to what those before it declare
pub last_adds : {ls : List Line} {e : Draft} → Declares ls e → (before : List Line) (line : Line) → ls ≡ before ++ line ∷ [] →
    (d : Draft) × Declares before d × Adds d line e
last_adds no_lines before line same = absurd (end_some before line same)
last_adds (one_more {lines = ls} {d = d} other e h adds) before line same =
    let parts = end_parts ls before other line same in
    (d, subst (λ (xs : List Line). Declares xs d) parts.0 h, subst (λ (x : Line). Adds d x e) parts.1 adds)
