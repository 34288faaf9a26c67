-- Lemmas on truth under an assignment.
use Rattle.std.proofs.Common.{◌≡◌, ℕ, ◌≤◌, Bool, true, false, not, ◌&&◌, ◌||◌, cond, List, [], ◌∷◌, ◌++◌, refl, sym, ap, ◌∙◌, subst, inl, inr, arith, zero, suc, Some}
use Rattle.std.specs.Prelude.{map, if◌then◌else◌, slice_get, ◌⊎◌, nat_lt}
use Rattle.std.specs.List.{AllByRecursion}
use Rattle.std.proofs.lemmas.Bool.{cases_Bool}
use Rattle.clause_store.specs.declared.lit.Lit.{Lit}
use Rattle.clause_store.specs.Lits.{rank_of, negated, same_lit, IsWithin, InRange, AreInRange, without, with_lit, joined, resolvent, sorted_onto, sorted_clause}
use Rattle.clause_store.specs.Truth.{lit_true, clause_true, all_true, AreTrue, Agree}
use Rattle.clause_store.proofs.Lits.{rank_lit}

pub and_left : (x y : Bool) → (x && y) ≡ true → x ≡ true
and_left true y h = refl
and_left false y h = h

pub and_right : (x y : Bool) → (x && y) ≡ true → y ≡ true
and_right true y h = h
and_right false y h = cc

pub and_both : (x y : Bool) → x ≡ true → y ≡ true → (x && y) ≡ true
and_both true y h k = k
and_both false y h k = cc

pub and_assoc : (x y z : Bool) → (x && (y && z)) ≡ ((x && y) && z)
and_assoc true y z = refl
and_assoc false y z = refl

pub not_both : (x : Bool) → x ≡ true → x ≡ false → ⊥
not_both x h k = cc

pub or_left : (x y : Bool) → x ≡ true → (x || y) ≡ true
or_left x y h = grind arith

pub or_right : (x y : Bool) → y ≡ true → (x || y) ≡ true
or_right x y h = grind arith

pub or_cases : (x y : Bool) → (x || y) ≡ true → (x ≡ true) ⊎ (y ≡ true)
or_cases x y h = grind arith

pub or_assoc : (x y z : Bool) → (x || (y || z)) ≡ ((x || y) || z)
or_assoc true y z = refl
or_assoc false y z = refl

pub or_none : (x : Bool) → (x || false) ≡ x
or_none true = refl
or_none false = refl

pub or_swap : (x y z : Bool) → (y || (x || z)) ≡ (x || (y || z))
or_swap true true z = refl
or_swap true false z = refl
or_swap false true z = refl
or_swap false false z = refl

or_same : (x y z : Bool) → x ≡ y → (y || z) ≡ (x || (y || z))
or_same true true z h = refl
or_same true false z h = cc
or_same false y z h = refl

-- assignments that agree

pub agree_then : (v w : ℕ) (a b c : ℕ → Bool) → v ≤ w → Agree v a b → Agree w b c → Agree v a c
agree_then v w a b c le h k = λ i lo hi. h i lo hi ∙ k i lo (omega arith)

pub lit_agree : (v : ℕ) (a b : ℕ → Bool) (l : Lit) → Agree v a b → IsWithin v l → lit_true a l ≡ lit_true b l
lit_agree v a b l h w = ap (λ x. if l.positive then x else not x) (h l.var w.0 w.1)

pub clause_agree : (v : ℕ) (a b : ℕ → Bool) (ls : List Lit) → Agree v a b → InRange v ls → clause_true a ls ≡ clause_true b ls
clause_agree v a b [] h w = refl
clause_agree v a b (l ∷ ls) h w = cc (lit_agree v a b l h w.0, clause_agree v a b ls h w.1)

pub all_agree : (v : ℕ) (a b : ℕ → Bool) (cs : List (List Lit)) → Agree v a b → AreInRange v cs → all_true a cs ≡ all_true b cs
all_agree v a b [] h w = refl
all_agree v a b (c ∷ cs) h w = cc (clause_agree v a b c h w.0, all_agree v a b cs h w.1)

-- ranges

pub within_more : (v w : ℕ) (ls : List Lit) → v ≤ w → InRange v ls → InRange w ls
within_more v w [] le h = tt
within_more v w (l ∷ ls) le h = ((h.0.0, omega arith), within_more v w ls le h.1)

-- lists of clauses

pub all_true-append : (a : ℕ → Bool) (cs ds : List (List Lit)) → all_true a (cs ++ ds) ≡ (all_true a cs && all_true a ds)
all_true-append a [] ds = refl
all_true-append a (c ∷ cs) ds = ap (λ x. clause_true a c && x) (all_true-append a cs ds) ∙ and_assoc (clause_true a c) (all_true a cs) (all_true a ds)

pub clause_true-append : (a : ℕ → Bool) (ls ms : List Lit) → clause_true a (ls ++ ms) ≡ (clause_true a ls || clause_true a ms)
clause_true-append a [] ms = refl
clause_true-append a (l ∷ ls) ms = ap (λ x. lit_true a l || x) (clause_true-append a ls ms) ∙ or_assoc (lit_true a l) (clause_true a ls) (clause_true a ms)

-- clauses one after another are true where both parts are
pub both_true : (a : ℕ → Bool) (cs ds : List (List Lit)) → AreTrue (cs ++ ds) a → AreTrue cs a × AreTrue ds a
both_true a cs ds h = let e = sym (all_true-append a cs ds) ∙ h in (and_left (all_true a cs) (all_true a ds) e, and_right (all_true a cs) (all_true a ds) e)

pub true_both : (a : ℕ → Bool) (cs ds : List (List Lit)) → AreTrue cs a → AreTrue ds a → AreTrue (cs ++ ds) a
true_both a cs ds h k = all_true-append a cs ds ∙ and_both (all_true a cs) (all_true a ds) h k

-- a clause of a list that is satisfied is true
pub known_true : (a : ℕ → Bool) (cs : List (List Lit)) (k : ℕ) (c : List Lit) → AreTrue cs a → slice_get cs k ≡ Some c → clause_true a c ≡ true
known_true a [] k c s g = absurd (cc)
known_true a (d ∷ ds) zero c s g = let e : d ≡ c = cc in subst (λ (x : List Lit). clause_true a x ≡ true) e (and_left (clause_true a d) (all_true a ds) s)
known_true a (d ∷ ds) (suc k) c s g = known_true a ds k c (and_right (clause_true a d) (all_true a ds) s) g

pub each_satisfies : (a : ℕ → Bool) (cs : List (List Lit)) → AllByRecursion (λ c. clause_true a c ≡ true) cs → AreTrue cs a
each_satisfies a [] h = refl
each_satisfies a (c ∷ cs) h = and_both (clause_true a c) (all_true a cs) h.0 (each_satisfies a cs h.1)

-- clauses as sets of literals

same_true : (a : ℕ → Bool) (l m : Lit) → same_lit l m ≡ true → lit_true a l ≡ lit_true a m
same_true a l m h = let e : rank_of l ≡ rank_of m = grind arith in ap (lit_true a) (rank_lit l m e)

pub with_lit_true : (a : ℕ → Bool) (l : Lit) (ms : List Lit) → clause_true a (with_lit l ms) ≡ (lit_true a l || clause_true a ms)
with_lit_true a l [] = refl
with_lit_true a l (m ∷ ms) =
    elim (cases_Bool (nat_lt (rank_of l) (rank_of m))) [
      | inl e ↦ rw e refl
      | inr e ↦ rw e (elim (cases_Bool (same_lit l m)) [
        | inl s ↦ rw s (or_same (lit_true a l) (lit_true a m) (clause_true a ms) (same_true a l m s))
        | inr s ↦ rw s (ap (λ x. lit_true a m || x) (with_lit_true a l ms) ∙ or_swap (lit_true a l) (lit_true a m) (clause_true a ms))
      ])
    ]

pub joined_true : (a : ℕ → Bool) (ls ms : List Lit) → clause_true a (joined ls ms) ≡ (clause_true a ls || clause_true a ms)
joined_true a [] ms = refl
joined_true a (l ∷ ls) ms = with_lit_true a l (joined ls ms) ∙ ap (λ x. lit_true a l || x) (joined_true a ls ms) ∙ or_assoc (lit_true a l) (clause_true a ls) (clause_true a ms)

sorted_onto_true : (a : ℕ → Bool) (done ls : List Lit) → clause_true a (sorted_onto done ls) ≡ (clause_true a done || clause_true a ls)
sorted_onto_true a done [] = sym (or_none (clause_true a done))
sorted_onto_true a done (l ∷ ls) =
    sorted_onto_true a (with_lit l done) ls
    ∙ ap (λ x. x || clause_true a ls) (with_lit_true a l done)
    ∙ sym (or_assoc (lit_true a l) (clause_true a done) (clause_true a ls))
    ∙ or_swap (clause_true a done) (lit_true a l) (clause_true a ls)

-- order and repeats do not matter
pub sorted_true : (a : ℕ → Bool) (ls : List Lit) → clause_true a (sorted_clause ls) ≡ clause_true a ls
sorted_true a ls = sorted_onto_true a [] ls

pub stored_true : (a : ℕ → Bool) (cs : List (List Lit)) → all_true a (map sorted_clause cs) ≡ all_true a cs
stored_true a [] = refl
stored_true a (c ∷ cs) = cc (sorted_true a c, stored_true a cs)

-- resolution

pub lit_true-negated : (a : ℕ → Bool) (p : Lit) → lit_true a (negated p) ≡ not (lit_true a p)
lit_true-negated a p = elim p.positive as (λ b. cond (not b) (a p.var) (not (a p.var)) ≡ not (cond b (a p.var) (not (a p.var)))) [ true ↦ refl | false ↦ elim (a p.var) as (λ w. w ≡ not (not w)) [ true ↦ refl | false ↦ refl ] ]

pub without_true : (a : ℕ → Bool) (p : Lit) (c : List Lit) → clause_true a c ≡ true → lit_true a p ≡ false → clause_true a (without p c) ≡ true
without_true a p [] h f = absurd (cc)
without_true a p (l ∷ ls) h f =
    elim (cases_Bool (same_lit l p)) [
      | inl s ↦ rw s (without_true a p ls (elim (or_cases (lit_true a l) (clause_true a ls) h) [ inl t ↦ absurd (let e : lit_true a l ≡ false = same_true a l p s ∙ f in cc) | inr t ↦ t ]) f)
      | inr s ↦ rw s (elim (or_cases (lit_true a l) (clause_true a ls) h) [ inl t ↦ or_left _ _ t | inr t ↦ or_right _ _ (without_true a p ls t f) ])
    ]

-- a resolvent of true clauses is true
pub resolvent_true : (a : ℕ → Bool) (p : Lit) (c d : List Lit) → clause_true a c ≡ true → clause_true a d ≡ true → clause_true a (resolvent p c d) ≡ true
resolvent_true a p c d h k =
    joined_true a (without p c) (without (negated p) d) ∙ elim (cases_Bool (lit_true a p)) [
      | inl t ↦ or_right (clause_true a (without p c)) (clause_true a (without (negated p) d)) (without_true a (negated p) d k (lit_true-negated a p ∙ ap not t))
      | inr t ↦ or_left (clause_true a (without p c)) (clause_true a (without (negated p) d)) (without_true a p c h t)
    ]
