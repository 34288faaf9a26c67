-- Lemmas on literals.
use Rattle.std.proofs.Common.{◌≡◌, ◌≢◌, ℕ, ◌<◌, Bool, true, false, not, List, [], ◌∷◌, ◌++◌, refl, ap, sym, ◌∙◌, rules, arith, cond, inl, inr, append_assoc}
use Rattle.std.proofs.lemmas.Bool.{cases_lt, cases_eq}
use Rattle.std.specs.Prelude.{nat_lt}
use Rattle.clause_store.specs.declared.lit.Lit.{Lit}
use Rattle.clause_store.specs.Lits.{rank_of, negated, IsBelow, Ascends, IsWithin, InRange, same_lit, without, with_lit, joined, resolvent, sorted_onto, sorted_clause}

pub lit_ext : (a b : Lit) → a.var ≡ b.var → a.positive ≡ b.positive → a ≡ b
lit_ext a b e p = search rules

rank_lit1 : (v w : ℕ) (b c : Bool) → rank_of (record { var = v; positive = b }) ≡ rank_of (record { var = w; positive = c }) → let a : Lit = record { var = v; positive = b } in let d : Lit = record { var = w; positive = c } in a ≡ d
rank_lit1 v w true true e = let f : v ≡ w = omega arith in ap (λ (x : ℕ). record { var = x; positive = true }) f
rank_lit1 v w false false e = let f : v ≡ w = omega arith in ap (λ (x : ℕ). record { var = x; positive = false }) f
rank_lit1 v w true false e = absurd (omega arith)
rank_lit1 v w false true e = absurd (omega arith)

-- literals of one rank are one
pub rank_lit : (a b : Lit) → rank_of a ≡ rank_of b → a ≡ b
rank_lit a b e = rank_lit1 a.var b.var a.positive b.positive e

pub negated-twice : (l : Lit) → negated (negated l) ≡ l
negated-twice l = lit_ext (negated (negated l)) l refl (elim l.positive as (λ b. not (not b) ≡ b) [ true ↦ refl | false ↦ refl ])

-- below the head of a list is below the list
pub IsBelow-trans : (x y : Lit) (ys : List Lit) → rank_of x < rank_of y → IsBelow y ys → IsBelow x ys
IsBelow-trans x y [] h b = tt
IsBelow-trans x y (z ∷ zs) h b = (omega (arith, b.0), IsBelow-trans x y zs h b.1)

pub IsBelow-without : (x p : Lit) (ys : List Lit) → IsBelow x ys → IsBelow x (without p ys)
IsBelow-without x p [] b = tt
IsBelow-without x p (y ∷ ys) b = elim (same_lit y p) as (λ t. IsBelow x (cond t (without p ys) (y ∷ without p ys))) [ true ↦ IsBelow-without x p ys b.1 | false ↦ (b.0, IsBelow-without x p ys b.1) ]

pub with_lit-below : (x : Lit) (ys : List Lit) → IsBelow x ys → with_lit x ys ≡ x ∷ ys
with_lit-below x [] b = refl
with_lit-below x (y ∷ ys) b = grind (arith, b.0)

IsBelow-with_lit : (x y : Lit) (ys : List Lit) → rank_of x < rank_of y → IsBelow x ys → IsBelow x (with_lit y ys)
IsBelow-with_lit x y [] h b = (h, tt)
IsBelow-with_lit x y (z ∷ zs) h b =
    elim (nat_lt (rank_of y) (rank_of z)) as (λ t. IsBelow x (cond t (y ∷ z ∷ zs) (cond (same_lit y z) (z ∷ zs) (z ∷ with_lit y zs)))) [
      | true ↦ (h, b)
      | false ↦ elim (same_lit y z) as (λ t. IsBelow x (cond t (z ∷ zs) (z ∷ with_lit y zs))) [ true ↦ b | false ↦ (b.0, IsBelow-with_lit x y zs h b.1) ]
    ]

IsBelow-joined : (x : Lit) (ls ms : List Lit) → IsBelow x ls → IsBelow x ms → IsBelow x (joined ls ms)
IsBelow-joined x [] ms b c = c
IsBelow-joined x (l ∷ ls) ms b c = IsBelow-with_lit x l (joined ls ms) b.0 (IsBelow-joined x ls ms b.1 c)

pub joined_left : (x : Lit) (ls ms : List Lit) → IsBelow x ls → IsBelow x ms → joined (x ∷ ls) ms ≡ x ∷ joined ls ms
joined_left x ls ms b c = with_lit-below x (joined ls ms) (IsBelow-joined x ls ms b c)

pub with_lit-above : (l y : Lit) (zs : List Lit) → rank_of y < rank_of l → with_lit l (y ∷ zs) ≡ y ∷ with_lit l zs
with_lit-above l y zs h = grind arith

pub joined_right : (y : Lit) (ls ms : List Lit) → IsBelow y ls → IsBelow y ms → joined ls (y ∷ ms) ≡ y ∷ joined ls ms
joined_right y [] ms b c = refl
joined_right y (l ∷ ls) ms b c = ap (with_lit l) (joined_right y ls ms b.1 c) ∙ with_lit-above l y (joined ls ms) b.0

pub with_lit-same : (l y : Lit) (zs : List Lit) → rank_of y ≡ rank_of l → with_lit l (y ∷ zs) ≡ y ∷ zs
with_lit-same l y zs h = grind arith

pub joined_both : (x y : Lit) (ls ms : List Lit) → rank_of x ≡ rank_of y → IsBelow y ls → IsBelow y ms → joined (x ∷ ls) (y ∷ ms) ≡ y ∷ joined ls ms
joined_both x y ls ms h b c = ap (with_lit x) (joined_right y ls ms b c) ∙ with_lit-same x y (joined ls ms) (sym h)

pub joined-nil : (ls : List Lit) → Ascends ls → joined ls [] ≡ ls
joined-nil [] s = refl
joined-nil (l ∷ ls) s = ap (with_lit l) (joined-nil ls s.1) ∙ with_lit-below l ls s.0

pub Ascends-without : (p : Lit) (ls : List Lit) → Ascends ls → Ascends (without p ls)
Ascends-without p [] s = tt
Ascends-without p (y ∷ ys) s = elim (same_lit y p) as (λ t. Ascends (cond t (without p ys) (y ∷ without p ys))) [ true ↦ Ascends-without p ys s.1 | false ↦ (IsBelow-without y p ys s.0, Ascends-without p ys s.1) ]

pub Ascends-with_lit : (l : Lit) (ms : List Lit) → Ascends ms → Ascends (with_lit l ms)
Ascends-with_lit l [] s = (tt, tt)
Ascends-with_lit l (m ∷ ms) s =
    elim (cases_lt (rank_of l) (rank_of m)) [
      | inl h ↦ (let e : nat_lt (rank_of l) (rank_of m) ≡ true = grind arith in rw e ((h, IsBelow-trans l m ms h s.0), s))
      | inr h ↦ (let e : nat_lt (rank_of l) (rank_of m) ≡ false = grind arith in rw e (elim (cases_eq (rank_of l) (rank_of m)) [
        | inl g ↦ (let f : same_lit l m ≡ true = grind arith in rw f s)
        | inr g ↦ (let f : same_lit l m ≡ false = grind arith in let k : rank_of m < rank_of l = omega arith in rw f (IsBelow-with_lit m l ms k s.0, Ascends-with_lit l ms s.1))
      ]))
    ]

pub Ascends-joined : (ls ms : List Lit) → Ascends ms → Ascends (joined ls ms)
Ascends-joined [] ms s = s
Ascends-joined (l ∷ ls) ms s = Ascends-with_lit l (joined ls ms) (Ascends-joined ls ms s)

pub Ascends-resolvent : (p : Lit) (c d : List Lit) → Ascends d → Ascends (resolvent p c d)
Ascends-resolvent p c d s = Ascends-joined (without p c) (without (negated p) d) (Ascends-without (negated p) d s)

-- the lesser head of the left goes first
pub take_left : (made : List Lit) (p q x y : Lit) (xs ys : List Lit) → Ascends (x ∷ xs) → Ascends (y ∷ ys) → rank_of x < rank_of y → rank_of x ≢ rank_of p →
    (made ++ x ∷ []) ++ joined (without p xs) (without q (y ∷ ys)) ≡ made ++ joined (without p (x ∷ xs)) (without q (y ∷ ys))
take_left made p q x y xs ys s t h n =
    let e : same_lit x p ≡ false = grind arith in
    let b : IsBelow x (y ∷ ys) = (h, IsBelow-trans x y ys h t.0) in
    append_assoc made (x ∷ []) (joined (without p xs) (without q (y ∷ ys)))
    ∙ ap (λ (zs : List Lit). made ++ zs) (sym (ap (λ (v : Bool). joined (cond v (without p xs) (x ∷ without p xs)) (without q (y ∷ ys))) e ∙ joined_left x (without p xs) (without q (y ∷ ys)) (IsBelow-without x p xs s.0) (IsBelow-without x q (y ∷ ys) b)))

InRange-with_lit : (v : ℕ) (l : Lit) (ms : List Lit) → IsWithin v l → InRange v ms → InRange v (with_lit l ms)
InRange-with_lit v l [] w h = (w, tt)
InRange-with_lit v l (m ∷ ms) w h =
    elim (nat_lt (rank_of l) (rank_of m)) as (λ t. InRange v (cond t (l ∷ m ∷ ms) (cond (same_lit l m) (m ∷ ms) (m ∷ with_lit l ms)))) [
      | true ↦ (w, h)
      | false ↦ elim (same_lit l m) as (λ t. InRange v (cond t (m ∷ ms) (m ∷ with_lit l ms))) [ true ↦ h | false ↦ (h.0, InRange-with_lit v l ms w h.1) ]
    ]

InRange-sorted_onto : (v : ℕ) (done ls : List Lit) → InRange v done → InRange v ls → InRange v (sorted_onto done ls)
InRange-sorted_onto v done [] h k = h
InRange-sorted_onto v done (l ∷ ls) h k = InRange-sorted_onto v (with_lit l done) ls (InRange-with_lit v l done k.0 h) k.1

pub InRange-sorted_clause : (v : ℕ) (ls : List Lit) → InRange v ls → InRange v (sorted_clause ls)
InRange-sorted_clause v ls k = InRange-sorted_onto v [] ls tt k

pub Ascends-sorted_onto : (done ls : List Lit) → Ascends done → Ascends (sorted_onto done ls)
Ascends-sorted_onto done [] s = s
Ascends-sorted_onto done (l ∷ ls) s = Ascends-sorted_onto (with_lit l done) ls (Ascends-with_lit l done s)

pub Ascends-sorted_clause : (ls : List Lit) → Ascends (sorted_clause ls)
Ascends-sorted_clause ls = Ascends-sorted_onto [] ls tt
