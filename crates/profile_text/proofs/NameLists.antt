-- Lists of names, name by name.
use Rattle.std.proofs.Common.{◌≡◌, ℕ, zero, suc, ◌<◌, true, false, List, [], ◌∷◌, length, take, map, get_or, refl, sym, ap, ◌∙◌, arith}
use Rattle.std.proofs.lemmas.List.{get_or-map, length-map, take-map}
use Rattle.std.specs.List.{list_all, list_any}
use Rattle.std.specs.Str.{bytes_eq}
use Rattle.std.proofs.lemmas.Slice.Eq.{bytes_eq-Decides}
use Rattle.formulas.specs.Names.{is_name, are_distinct, are_names}

legal_at : (names : List (List ℕ)) (k : ℕ) (name : List ℕ) → list_all is_name names ≡ true → k < length names → name ≡ get_or names k name → is_name name ≡ true
legal_at [] k name h within e = absurd (omega arith)
legal_at (n ∷ names) zero name h within e = ap is_name e ∙ (let first : is_name n ≡ true = grind arith in first)
legal_at (n ∷ names) (suc k) name h within e = legal_at names k name (grind arith) (omega arith) e

there_at : (names : List (List ℕ)) (k : ℕ) (name : List ℕ) → k < length names → name ≡ get_or names k name → list_any (bytes_eq name) names ≡ true
there_at [] k name within e = absurd (omega arith)
there_at (n ∷ names) zero name within e = let same : bytes_eq name n ≡ true = (bytes_eq-Decides name n).1 e in grind arith
there_at (n ∷ names) (suc k) name within e = let rest : list_any (bytes_eq name) names ≡ true = there_at names k name (omega arith) e in grind arith

-- a name that is not in a list is no other name of it
other_at : (names : List (List ℕ)) (n name : List ℕ) → list_any (bytes_eq n) names ≡ false → list_any (bytes_eq name) names ≡ true → bytes_eq name n ≡ false
other_at names n name absent there =
    elim (bytes_eq name n) as (λ t. bytes_eq name n ≡ t → t ≡ false) [
      | true ↦ λ e. let moved : list_any (bytes_eq n) names ≡ true = ap (λ m. list_any (bytes_eq m) names) (sym ((bytes_eq-Decides name n).0 e)) ∙ there in absurd (grind arith)
      | false ↦ λ e. refl
    ] refl

new_at : (names : List (List ℕ)) (k : ℕ) (name : List ℕ) → are_distinct names ≡ true → k < length names → name ≡ get_or names k name → list_any (bytes_eq name) (take k names) ≡ false
new_at [] k name h within e = absurd (omega arith)
new_at (n ∷ names) zero name h within e = refl
new_at (n ∷ names) (suc k) name h within e =
    let other : bytes_eq name n ≡ false = other_at names n name (grind arith) (there_at names k name (omega arith) e) in
    let rest : list_any (bytes_eq name) (take k names) ≡ false = new_at names k name (grind arith) (omega arith) e in
    grind arith

-- each name of a list of names is one, and none before it is the same
pub next_name : (names : List (List ℕ)) (k : ℕ) (name : List ℕ) → are_names names ≡ true → k < length names → name ≡ get_or names k name →
    (is_name name ≡ true) × (list_any (bytes_eq name) (take k names) ≡ false)
next_name names k name known within e = (legal_at names k name (grind arith) within e, new_at names k name (grind arith) within e)

-- the name of what stands at a place
pub name_of_item : {X : Type 0} (f : X → List ℕ) (xs : List X) (k : ℕ) (x : X) → are_names (map f xs) ≡ true → k < length xs → x ≡ get_or xs k x →
    (is_name (f x) ≡ true) × (list_any (bytes_eq (f x)) (map f (take k xs)) ≡ false)
name_of_item f xs k x known within e =
    let inside : k < length (map f xs) = omega (arith, length-map xs f) in
    let here : f x ≡ get_or (map f xs) k (f x) = ap f e ∙ sym (get_or-map f xs k x (f x) within) in
    let next = next_name (map f xs) k (f x) known inside here in
    (next.0, ap (list_any (bytes_eq (f x))) (sym (take-map f k xs)) ∙ next.1)

-- within a list the default of a place does not count
pub same_default : {X : Type 0} (xs : List X) (k : ℕ) (d e : X) → k < length xs → get_or xs k d ≡ get_or xs k e
same_default [] k d e within = absurd (omega arith)
same_default (x ∷ xs) zero d e within = refl
same_default (x ∷ xs) (suc k) d e within = same_default xs k d e (omega arith)
