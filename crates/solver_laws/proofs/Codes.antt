-- Clauses are coded as numbers to the base 3, and distinct ones have distinct numbers.
use Rattle.std.proofs.Common.{◌≡◌, ◌≢◌, ℕ, ◌+◌, ◌*◌, ◌<◌, ◌≤◌, Bool, true, false, List, [], ◌∷◌, length, refl, sym, ◌∙◌, arith, cond, eqb, inl, inr, subst, zero, suc, get_or, map}
use Rattle.std.specs.Prelude.{◌^◌, All, AllPairs}
use Rattle.std.specs.List.{list_any}
use Rattle.std.proofs.Math.Nat.{pow-suc, one-le-pow}
use Rattle.std.proofs.lemmas.Bool.{cases_eq}
use Rattle.std.proofs.lemmas.Bool.Decides.{Decides-eqb}
use Rattle.std.proofs.lemmas.List.{length-map, get_or-map}
use Rattle.std.proofs.lemmas.List.Kept.{AllPairs-cons}
use Rattle.std.proofs.lemmas.Map.Made.{IsDistinct-from_AllPairs}
use Rattle.std.proofs.lemmas.Map.Steps.{length-le_from_distinct_below}
use Rattle.clause_store.specs.declared.lit.Lit.{Lit}
use Rattle.clause_store.proofs.Lits.{lit_ext}
use Rattle.clause_store.specs.Lits.{InRange}
use Rattle.clause_store.proofs.Truths.{or_cases}
use Rattle.solver_laws.specs.Digits.{IsAbove, IsFamily, CountLaw}

-- the digit of a sign
abbrev sign_digit : Bool → ℕ
sign_digit true = 1
sign_digit false = 2

-- the digit of the variable after v
abbrev first : ℕ → List Lit → ℕ
first v [] = 0
first v (l ∷ ls) = cond (eqb l.var (suc v)) (sign_digit l.positive) 0

-- the literals of the variables after that
abbrev rest : ℕ → List Lit → List Lit
rest v [] = []
rest v (l ∷ ls) = cond (eqb l.var (suc v)) ls (l ∷ ls)

abbrev code : ℕ → ℕ → List Lit → ℕ
code zero v c = 0
code (suc n) v c = first v c + 3 * code n (suc v) (rest v c)

sign_le : (b : Bool) → sign_digit b ≤ 2
sign_le true = omega arith
sign_le false = omega arith

sign_pos : (b : Bool) → 1 ≤ sign_digit b
sign_pos true = omega arith
sign_pos false = omega arith

sign_same : (a b : Bool) → sign_digit a ≡ sign_digit b → a ≡ b
sign_same true true e = refl
sign_same false false e = refl
sign_same true false e = absurd (omega arith)
sign_same false true e = absurd (omega arith)

first_le : (v : ℕ) (c : List Lit) → first v c ≤ 2
first_le v [] = omega arith
first_le v (l ∷ ls) = elim (eqb l.var (suc v)) as (λ t. cond t (sign_digit l.positive) 0 ≤ 2) [ true ↦ sign_le l.positive | false ↦ omega arith ]

code_below : (n v : ℕ) (c : List Lit) → code n v c < 3 ^ n
code_below zero v c = omega (arith, one-le-pow zero 3 (omega arith))
code_below (suc n) v c = omega (arith, pow-suc 3 n, code_below n (suc v) (rest v c), first_le v c)

rest_above : (v : ℕ) (c : List Lit) → IsAbove v c → IsAbove (suc v) (rest v c)
rest_above v [] a = tt
rest_above v (l ∷ ls) a =
    elim (cases_eq l.var (suc v)) [
      | inl g ↦ (let t : eqb l.var (suc v) ≡ true = grind arith in rw t (subst (λ (w : ℕ). IsAbove w ls) g a.1))
      | inr g ↦ (let t : eqb l.var (suc v) ≡ false = grind arith in rw t (omega (arith, a.0), a.1))
    ]

rest_within : (V v : ℕ) (c : List Lit) → InRange V c → InRange V (rest v c)
rest_within V v [] w = tt
rest_within V v (l ∷ ls) w = elim (eqb l.var (suc v)) as (λ t. InRange V (cond t ls (l ∷ ls))) [ true ↦ w.1 | false ↦ w ]

-- clauses with the same first digit and the same rest are one
rejoin : (v : ℕ) (c d : List Lit) → first v c ≡ first v d → rest v c ≡ rest v d → c ≡ d
rejoin v [] [] f r = refl
rejoin v [] (m ∷ ms) f r =
    elim (cases_eq m.var (suc v)) [
      | inl g ↦ (let t : eqb m.var (suc v) ≡ true = grind arith in absurd (omega (arith, sign_pos m.positive, rw t at f)))
      | inr g ↦ (let t : eqb m.var (suc v) ≡ false = grind arith in rw t at r)
    ]
rejoin v (l ∷ ls) [] f r =
    elim (cases_eq l.var (suc v)) [
      | inl g ↦ (let t : eqb l.var (suc v) ≡ true = grind arith in absurd (omega (arith, sign_pos l.positive, rw t at f)))
      | inr g ↦ (let t : eqb l.var (suc v) ≡ false = grind arith in rw t at r)
    ]
rejoin v (l ∷ ls) (m ∷ ms) f r =
    elim (cases_eq l.var (suc v)) [
      | inl g ↦ (let t : eqb l.var (suc v) ≡ true = grind arith in
          elim (cases_eq m.var (suc v)) [
            | inl h ↦ (let u : eqb m.var (suc v) ≡ true = grind arith in
                let f' = rw (t, u) at f in
                let r' = rw (t, u) at r in
                let same : l ≡ m = lit_ext l m (g ∙ sym h) (sign_same l.positive m.positive f') in cc)
            | inr h ↦ (let u : eqb m.var (suc v) ≡ false = grind arith in absurd (omega (arith, sign_pos l.positive, rw (t, u) at f)))
          ])
      | inr g ↦ (let t : eqb l.var (suc v) ≡ false = grind arith in
          elim (cases_eq m.var (suc v)) [
            | inl h ↦ (let u : eqb m.var (suc v) ≡ true = grind arith in absurd (omega (arith, sign_pos m.positive, rw (t, u) at f)))
            | inr h ↦ (let u : eqb m.var (suc v) ≡ false = grind arith in rw (t, u) at r)
          ])
    ]

none_left : (v : ℕ) (c : List Lit) → IsAbove v c → InRange v c → c ≡ []
none_left v [] a w = refl
none_left v (l ∷ ls) a w = absurd (omega (arith, a.0, w.0.1))

digits_same : (a b x y : ℕ) → a ≤ 2 → b ≤ 2 → a + 3 * x ≡ b + 3 * y → (a ≡ b) × (x ≡ y)
digits_same a b x y p q e = (omega arith, omega arith)

code_same : (n v V : ℕ) (c d : List Lit) → V ≡ v + n → IsAbove v c → IsAbove v d → InRange V c → InRange V d → code n v c ≡ code n v d → c ≡ d
code_same zero v V c d s a b w x e = let z : V ≡ v = omega arith in none_left v c a (subst (λ (k : ℕ). InRange k c) z w) ∙ sym (none_left v d b (subst (λ (k : ℕ). InRange k d) z x))
code_same (suc n) v V c d s a b w x e =
    let p = digits_same (first v c) (first v d) (code n (suc v) (rest v c)) (code n (suc v) (rest v d)) (first_le v c) (first_le v d) e in
    rejoin v c d p.0 (code_same n (suc v) V (rest v c) (rest v d) (omega arith) (rest_above v c a) (rest_above v d b) (rest_within V v c w) (rest_within V v d x) p.1)

code_nil : (n v : ℕ) → code n v [] ≡ 0
code_nil zero v = refl
code_nil (suc n) v = omega (arith, code_nil n (suc v))

codes_below : (V q : ℕ) (cs : List (List Lit)) → list_any (eqb q) (map (code V 0) cs) ≡ true → q < 3 ^ V
codes_below V q [] h = absurd (cc)
codes_below V q (c ∷ cs) h =
    elim (or_cases (eqb q (code V 0 c)) (list_any (eqb q) (map (code V 0) cs)) h) [
      | inl e ↦ (let f : q ≡ code V 0 c = grind arith in omega (arith, code_below V 0 c))
      | inr e ↦ codes_below V q cs e
    ]

codes_apart : (V : ℕ) (cs : List (List Lit)) → IsFamily V cs → AllPairs (λ (x y : ℕ). x ≢ y) (map (code V 0) cs)
codes_apart V cs f i j d lt h e =
    let n = length-map cs (code V 0) in
    let j' : j < length cs = omega arith in
    let i' : i < length cs = omega arith in
    let ei = get_or-map (code V 0) cs i [] d i' in
    let ej = get_or-map (code V 0) cs j [] d j' in
    f.distinct i j [] lt j' (code_same V 0 V (get_or cs i []) (get_or cs j []) (omega arith) (f.fit i [] i').above (f.fit j [] j').above (f.fit i [] i').within (f.fit j [] j').within (sym ei ∙ e ∙ ej))

codes_positive : (V : ℕ) (cs : List (List Lit)) → IsFamily V cs → All (λ (y : ℕ). 0 ≢ y) (map (code V 0) cs)
codes_positive V cs f i d lt e =
    let n = length-map cs (code V 0) in
    let i' : i < length cs = omega arith in
    let ei = get_or-map (code V 0) cs i [] d i' in
    (f.fit i [] i').full (code_same V 0 V (get_or cs i []) [] (omega arith) (f.fit i [] i').above tt (f.fit i [] i').within tt (sym ei ∙ sym e ∙ sym (code_nil V 0)))

pub count_law : CountLaw
count_law V cs f =
    let xs : List ℕ = map (code V 0) cs in
    let apart : AllPairs (λ (x y : ℕ). x ≢ y) (0 ∷ xs) = AllPairs-cons (λ (x y : ℕ). x ≢ y) 0 xs (codes_positive V cs f) (codes_apart V cs f) in
    let some : (q : ℕ) → list_any (eqb q) (0 ∷ xs) ≡ true → q < 3 ^ V = λ q h. elim (or_cases (eqb q 0) (list_any (eqb q) xs) h) [
      | inl e ↦ (let z : q ≡ 0 = grind arith in omega (arith, one-le-pow V 3 (omega arith)))
      | inr e ↦ codes_below V q cs e
    ] in
    omega (arith, length-le_from_distinct_below (0 ∷ xs) (3 ^ V) (IsDistinct-from_AllPairs (λ a b. Decides-eqb a b) (0 ∷ xs) apart) some, length-map cs (code V 0))
