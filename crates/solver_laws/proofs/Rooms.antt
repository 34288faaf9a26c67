-- What clauses leave open under a trail and its lower levels.
use Rattle.std.proofs.Common.{◌≡◌, ◌≢◌, ℕ, ◌+◌, ◌<◌, ◌≤◌, Bool, true, false, not, List, [], ◌∷◌, length, refl, ap, sym, ◌∙◌, arith, cond, eqb, inl, inr, subst, zero, suc, Some, None, Option, get_or}
use Rattle.std.specs.Prelude.{nat_lt, nat_le, ◌||◌, Contains}
use Rattle.std.proofs.lemmas.Bool.{cases_lt, cases_eq, cases_Bool, false≢true}
use Rattle.std.proofs.Math.Bool.{beq}
use Rattle.clause_store.specs.declared.lit.Lit.{Lit}
use Rattle.clause_store.specs.Lits.{rank_of, negated, same_lit, without, with_lit, joined, resolvent, IsBelow, Ascends, has, Includes}
use Rattle.clause_store.proofs.Lits.{rank_lit}
use Rattle.clause_store.proofs.Truths.{or_cases, or_left, or_right}
use Rattle.watch_lists.specs.declared.entry.Entry.{Entry}
use Rattle.watch_lists.specs.Trace.{value_of, entry_of, under, room_in, room_of, upto, AreApart, IsStacked, Place, places_of, Extends}
use Rattle.watch_lists.proofs.Parts.{room_cons, upto_whole, entry_upto, level_le}
use Rattle.solver_laws.specs.Ready.{IsFalseIn, Tops}
use Rattle.std.specs.List.{AllByRecursion}

pub same_lit-is : (l m : Lit) → same_lit l m ≡ true → l ≡ m
same_lit-is l m h = let e : rank_of l ≡ rank_of m = grind arith in rank_lit l m e

pub same_lit-refl : (l : Lit) → same_lit l l ≡ true
same_lit-refl l = grind arith

-- lists of literals that each pass
pub each_map : (P R : Lit → Type 0) (c : List Lit) → ((l : Lit) → P l → R l) → AllByRecursion P c → AllByRecursion R c
each_map P R [] f e = tt
each_map P R (l ∷ ls) f e = (f l e.0, each_map P R ls f e.1)

each-with_lit : (P : Lit → Type 0) (l : Lit) (ms : List Lit) → P l → AllByRecursion P ms → AllByRecursion P (with_lit l ms)
each-with_lit P l [] h f = (h, tt)
each-with_lit P l (m ∷ ms) h f =
    elim (nat_lt (rank_of l) (rank_of m)) as (λ t. AllByRecursion P (cond t (l ∷ m ∷ ms) (cond (same_lit l m) (m ∷ ms) (m ∷ with_lit l ms)))) [
      | true ↦ (h, f)
      | false ↦ elim (same_lit l m) as (λ t. AllByRecursion P (cond t (m ∷ ms) (m ∷ with_lit l ms))) [ true ↦ f | false ↦ (f.0, each-with_lit P l ms h f.1) ]
    ]

pub each-joined : (P : Lit → Type 0) (ls ms : List Lit) → AllByRecursion P ls → AllByRecursion P ms → AllByRecursion P (joined ls ms)
each-joined P [] ms f g = g
each-joined P (l ∷ ls) ms f g = each-with_lit P l (joined ls ms) f.0 (each-joined P ls ms f.1 g)

-- without a literal, what may change for others
pub each_without : (P R : Lit → Type 0) (p : Lit) (c : List Lit) → ((l : Lit) → P l → same_lit l p ≡ false → R l) → AllByRecursion P c → AllByRecursion R (without p c)
each_without P R p [] f e = tt
each_without P R p (l ∷ ls) f e =
    elim (cases_Bool (same_lit l p)) [
      | inl t ↦ rw t (each_without P R p ls f e.1)
      | inr t ↦ rw t (f l e.0 t, each_without P R p ls f e.1)
    ]

pub each_resolvent : (P R : Lit → Type 0) (p : Lit) (c d : List Lit) → ((l : Lit) → P l → same_lit l p ≡ false → R l) → AllByRecursion P c → AllByRecursion R (without (negated p) d) → AllByRecursion R (resolvent p c d)
each_resolvent P R p c d f e g = each-joined R (without p c) (without (negated p) d) (each_without P R p c f e) g

-- what passes where the literal is not in the clause
pub each_lacks : (P R : Lit → Type 0) (p : Lit) (c : List Lit) → ((l : Lit) → P l → same_lit l p ≡ false → R l) → AllByRecursion P c → has p c ≡ false → AllByRecursion R c
each_lacks P R p [] f e h = tt
each_lacks P R p (l ∷ ls) f e h =
    let b = both (same_lit p l) (has p ls) h in
    (f l e.0 (flip l p b.0), each_lacks P R p ls f e.1 b.1)
  where
    both : (a b : Bool) → a || b ≡ false → (a ≡ false) × (b ≡ false)
    both true b h = absurd (cc)
    both false b h = (refl, h)

    flip : (l p : Lit) → same_lit p l ≡ false → same_lit l p ≡ false
    flip l p h = grind arith

-- a literal of another variable than the newest entry's, or with its sign
opposite : (v w : ℕ) (p q : Bool) → v ≡ w → beq p q ≡ false → same_lit (record { var = w; positive = q }) (record { var = v; positive = not p }) ≡ true
opposite v w true true g h = absurd (cc)
opposite v w true false g h = grind arith
opposite v w false true g h = grind arith
opposite v w false false g h = absurd (cc)

pub some_same : (a b : Bool) → (let x : Option Bool = Some a in let y : Option Bool = Some b in x ≡ y) → a ≡ b
some_same a b h = cc

-- a literal that is false with the entry, and is not its negation, was false before
pub false_before : (es : List Entry) (e : Entry) (l : Lit) → value_of (e ∷ es) l ≡ Some false → same_lit l (negated e.lit) ≡ false → value_of es l ≡ Some false
false_before es e l h n =
    elim (cases_eq e.lit.var l.var) [
      | inl g ↦ (let t : eqb e.lit.var l.var ≡ true = grind arith in let k = opposite e.lit.var l.var e.lit.positive l.positive g (some_same (beq e.lit.positive l.positive) false (rw t at h)) in absurd (false≢true (sym n ∙ k)))
      | inr g ↦ (let t : eqb e.lit.var l.var ≡ false = grind arith in rw t at h)
    ]

-- a reason's other literals
pub room_zero : (v : Option Bool) → room_in v ≡ 0 → v ≡ Some false
room_zero None h = absurd (omega arith)
room_zero (Some true) h = absurd (omega arith)
room_zero (Some false) h = refl

pub room_false : (es : List Entry) (c : List Lit) → room_of es c ≡ 0 → AllByRecursion (IsFalseIn es) c
room_false es [] h = tt
room_false es (l ∷ ls) h = (room_zero (value_of es l) (omega (arith, room_cons es l ls)), room_false es ls (omega (arith, room_cons es l ls)))

without_le : (es : List Entry) (l : Lit) (d : List Lit) → room_of es (without l d) ≤ room_of es d
without_le es l [] = omega arith
without_le es l (m ∷ ms) =
    elim (cases_Bool (same_lit m l)) [
      | inl t ↦ (let r = without_le es l ms in rw t (le_more (room_of es (without l ms)) (room_of es ms) (room_in (value_of es m)) (room_of es (m ∷ ms)) r (room_cons es m ms)))
      | inr t ↦ (let r = without_le es l ms in rw t (let g : room_of es (m ∷ without l ms) ≤ room_of es (m ∷ ms) = omega (arith, r, room_cons es m ms, room_cons es m (without l ms)) in g))
    ]
  where
    le_more : (a b c d : ℕ) → a ≤ b → d ≡ c + b → a ≤ d
    le_more a b c d h e = omega arith

pub room_without : (es : List Entry) (l : Lit) (d : List Lit) → has l d ≡ true → room_in (value_of es l) + room_of es (without l d) ≤ room_of es d
room_without es l [] h = absurd (cc)
room_without es l (m ∷ ms) h =
    elim (cases_eq (rank_of m) (rank_of l)) [
      | inl e ↦ (let t : same_lit m l ≡ true = grind arith in
          let f = ap (λ (x : Lit). room_in (value_of es x)) (rank_lit m l e) in
          let g : room_in (value_of es l) + room_of es (without l ms) ≤ room_of es (m ∷ ms) = omega (arith, without_le es l ms, f, room_cons es m ms) in
          rw t g)
      | inr n ↦ (let t : same_lit m l ≡ false = grind arith in
          let u : same_lit l m ≡ false = grind arith in
          let r : has l ms ≡ true = elim (or_cases (same_lit l m) (has l ms) h) [ inl p ↦ absurd (false≢true (sym u ∙ p)) | inr p ↦ p ] in
          let g : room_in (value_of es l) + room_of es (m ∷ without l ms) ≤ room_of es (m ∷ ms) = omega (arith, room_without es l ms r, room_cons es m ms, room_cons es m (without l ms)) in
          rw t g)
    ]

-- a rising clause has a literal once
room_below_all : (es : List Entry) (l : Lit) (ms : List Lit) → IsBelow l ms → without l ms ≡ ms
room_below_all es l [] b = refl
room_below_all es l (m ∷ ms) b = let t : same_lit m l ≡ false = grind (arith, b.0) in rw t (ap (λ (zs : List Lit). m ∷ zs) (room_below_all es l ms (below_tail l m ms b)))
  where
    below_tail : (l m : Lit) (ms : List Lit) → IsBelow l (m ∷ ms) → IsBelow l ms
    below_tail l m ms b = b.1

pub room_once : (es : List Entry) (l : Lit) (d : List Lit) → Ascends d → room_of es d ≤ room_in (value_of es l) + room_of es (without l d)
room_once es l [] a = omega arith
room_once es l (m ∷ ms) a =
    elim (cases_eq (rank_of m) (rank_of l)) [
      | inl e ↦ (let t : same_lit m l ≡ true = grind arith in
          let q = rank_lit m l e in
          let f = ap (λ (x : Lit). room_in (value_of es x)) q in
          let g = ap (room_of es) (room_below_all es l ms (subst (λ (x : Lit). IsBelow x ms) q a.0)) in
          let k : room_of es (m ∷ ms) ≤ room_in (value_of es l) + room_of es (without l ms) = omega (arith, f, g, room_cons es m ms) in
          rw t k)
      | inr n ↦ (let t : same_lit m l ≡ false = grind arith in let k : room_of es (m ∷ ms) ≤ room_in (value_of es l) + room_of es (m ∷ without l ms) = omega (arith, room_once es l ms a.1, room_cons es m ms, room_cons es m (without l ms)) in rw t k)
    ]

room-with_lit : (es : List Entry) (l : Lit) (ms : List Lit) → room_of es ms ≤ room_of es (with_lit l ms)
room-with_lit es l [] = omega arith
room-with_lit es l (m ∷ ms) =
    elim (cases_Bool (nat_lt (rank_of l) (rank_of m))) [
      | inl t ↦ (let g : room_of es (m ∷ ms) ≤ room_of es (l ∷ m ∷ ms) = omega (arith, room_cons es l (m ∷ ms)) in rw t g)
      | inr t ↦ elim (cases_Bool (same_lit l m)) [
        | inl u ↦ (let g : room_of es (m ∷ ms) ≤ room_of es (m ∷ ms) = omega arith in rw (t, u) g)
        | inr u ↦ (let g : room_of es (m ∷ ms) ≤ room_of es (m ∷ with_lit l ms) = omega (arith, room-with_lit es l ms, room_cons es m ms, room_cons es m (with_lit l ms)) in rw (t, u) g)
      ]
    ]

pub room_joined : (es : List Entry) (ls ms : List Lit) → room_of es ms ≤ room_of es (joined ls ms)
room_joined es [] ms = omega arith
room_joined es (l ∷ ls) ms = omega (arith, room_joined es ls ms, room-with_lit es l (joined ls ms))

has_at : (i : ℕ) (c : List Lit) (l : Lit) → i < length c → get_or c i l ≡ l → has l c ≡ true
has_at i [] l lt e = absurd (omega arith)
has_at zero (m ∷ ms) l lt e = or_left (same_lit l m) (has l ms) (subst (λ (x : Lit). same_lit l x ≡ true) (sym e) (same_lit-refl l))
has_at (suc i) (m ∷ ms) l lt e = or_right (same_lit l m) (has l ms) (has_at i ms l (omega arith) e)

pub contains_has : (c : List Lit) (l : Lit) → Contains c l → has l c ≡ true
contains_has c l h = has_at h.0 c l h.1 h.2

-- NewLaw
has-without : (k l : Lit) (d : List Lit) → rank_of k ≢ rank_of l → has k d ≡ true → has k (without l d) ≡ true
has-without k l [] n h = absurd (cc)
has-without k l (m ∷ ms) n h =
    elim (cases_eq (rank_of m) (rank_of l)) [
      | inl e ↦ (let t : same_lit m l ≡ true = grind arith in
          let u : same_lit k m ≡ false = grind arith in
          let r : has k ms ≡ true = elim (or_cases (same_lit k m) (has k ms) h) [ inl p ↦ absurd (false≢true (sym u ∙ p)) | inr p ↦ p ] in
          rw t (has-without k l ms n r))
      | inr q ↦ (let t : same_lit m l ≡ false = grind arith in
          rw t (elim (or_cases (same_lit k m) (has k ms) h) [ inl p ↦ or_left _ _ p | inr p ↦ or_right _ _ (has-without k l ms n p) ]))
    ]

above_not : (c k : Lit) (cs : List Lit) → IsBelow c cs → has k cs ≡ true → rank_of k ≢ rank_of c
above_not c k [] b h e = cc
above_not c k (m ∷ ms) b h e = elim (or_cases (same_lit k m) (has k ms) h) [ inl p ↦ (let q : rank_of k ≡ rank_of m = grind arith in omega (arith, b.0)) | inr p ↦ above_not c k ms b.1 p e ]

pub room_le : (es : List Entry) (c d : List Lit) → Ascends c → Includes d c → room_of es c ≤ room_of es d
room_le es [] d s i = omega arith
room_le es (l ∷ ls) d s i =
    let one = room_without es l d (i l (or_left (same_lit l l) (has l ls) (same_lit-refl l))) in
    let rest = room_le es ls (without l d) s.1 (λ k h. has-without k l d (above_not l k ls s.0 h) (i k (or_right _ _ h))) in
    omega (arith, one, rest, room_cons es l ls)

pub upto_extends : (k : ℕ) (es : List Entry) → Extends (places_of (upto k es)) (places_of es)
upto_extends k [] = ([], refl)
upto_extends k (e ∷ es) =
    elim (cases_lt k e.level) [
      | inl g ↦ (let t : nat_le e.level k ≡ false = grind arith in let r = upto_extends k es in let p : Place = record { lit = e.lit; level = e.level } in rw t (p ∷ r.0, ap (λ (zs : List Place). p ∷ zs) r.1))
      | inr g ↦ (let t : nat_le e.level k ≡ true = grind arith in rw t ([], refl))
    ]

-- what a false literal leaves open under the lower levels
pub room_at : (vars lv k : ℕ) (es : List Entry) (l : Lit) (e : Entry) → AreApart vars es → IsStacked lv es → value_of es l ≡ Some false → entry_of es l.var ≡ Some e → room_in (value_of (upto k es) l) ≡ cond (nat_lt k e.level) 1 0
room_at vars lv k [] l e a s h g = absurd (cc)
room_at vars lv k (x ∷ xs) l e a s h g =
    elim (cases_eq x.lit.var l.var) [
      | inl q ↦ (let t : eqb x.lit.var l.var ≡ true = grind arith in let g' = rw t at g in let y : x ≡ e = cc in let yl = ap (λ (z : Entry). z.level) y in
          elim (cases_lt k x.level) [
            | inl w ↦ (let u : nat_le x.level k ≡ false = grind arith in let r : nat_lt k e.level ≡ true = grind arith in
                let n : entry_of (upto k xs) l.var ≡ None = entry_upto k l.var xs (subst (λ (v : ℕ). entry_of xs v ≡ None) q a.0) in
                rw (u, r) (ap (λ (o : Option Entry). room_in (under o l.positive)) n))
            | inr w ↦ (let u : nat_le x.level k ≡ true = grind arith in let r : nat_lt k e.level ≡ false = grind arith in rw (u, r) (ap room_in h))
          ])
      | inr q ↦ (let t : eqb x.lit.var l.var ≡ false = grind arith in let g' = rw t at g in let h' = rw t at h in
          elim (cases_lt k x.level) [
            | inl w ↦ (let u : nat_le x.level k ≡ false = grind arith in rw u (elim s.1 [ inl d ↦ room_at vars d.1.0 k xs l e a.3 d.1.2 h' g' | inr i ↦ room_at vars lv k xs l e a.3 i.1 h' g' ]))
            | inr w ↦ (let u : nat_le x.level k ≡ true = grind arith in
                let z : e.level ≤ lv = level_le lv l.var (x ∷ xs) e s g in
                let r : nat_lt k e.level ≡ false = grind (arith, s.0) in rw (u, r) (ap room_in h))
          ])
    ]

-- the part of the trail that stands on the lower levels
pub tops_from : (k : ℕ) (es : List Entry) → IsStacked (k + 1) es → Tops (upto k es) es
tops_from k [] s = omega (arith, s)
tops_from k (e ∷ es) s =
    let t : nat_le e.level k ≡ false = grind (arith, s.0) in
    let st : upto k (e ∷ es) ≡ upto k es = rw t refl in
    subst (λ (low : List Entry). Tops low (e ∷ es)) (sym st) (elim s.1 [
      | inl d ↦ (let q : d.1.0 ≡ k = omega (arith, d.1.1) in inl (d.0, sym (upto_whole k es (subst (λ (n : ℕ). IsStacked n es) q d.1.2))))
      | inr i ↦ inr (i.0, tops_from k es i.1)
    ])

pub tops_lacks : (v : ℕ) (low es : List Entry) → Tops low es → entry_of es v ≡ None → entry_of low v ≡ None
tops_lacks v low [] t h = absurd t
tops_lacks v low (e ∷ es) t h =
    elim (cases_eq e.lit.var v) [
      | inl g ↦ (let u : eqb e.lit.var v ≡ true = grind arith in let h' = rw u at h in absurd (cc))
      | inr g ↦ (let u : eqb e.lit.var v ≡ false = grind arith in let h' = rw u at h in
          elim t [ inl d ↦ subst (λ (zs : List Entry). entry_of zs v ≡ None) d.1 h' | inr i ↦ tops_lacks v low es i.1 h' ])
    ]

-- under a decision's lower levels a clause that is false leaves one literal open at most
pub room_zero_each : (es : List Entry) (c : List Lit) → AllByRecursion (IsFalseIn es) c → room_of es c ≡ 0
room_zero_each es [] e = refl
room_zero_each es (l ∷ ls) e = omega (arith, ap room_in e.0, room_zero_each es ls e.1, room_cons es l ls)

below_other : (p : Lit) (ls : List Lit) → IsBelow p ls → has p ls ≡ false
below_other p [] b = refl
below_other p (m ∷ ms) b = let t : same_lit p m ≡ false = grind (arith, b.0) in rw t (below_other p ms b.1)

pub decision_room : (low : List Entry) (d : Entry) (c : List Lit) → entry_of low d.lit.var ≡ None → Ascends c → AllByRecursion (IsFalseIn (d ∷ low)) c → room_of low c ≤ 1
decision_room low d [] n a e = omega arith
decision_room low d (l ∷ ls) n a e =
    elim (cases_Bool (same_lit l (negated d.lit))) [
      | inl t ↦ (let q = same_lit-is l (negated d.lit) t in
          let lacks : has (negated d.lit) ls ≡ false = below_other (negated d.lit) ls (subst (λ (x : Lit). IsBelow x ls) q a.0) in
          let r = room_zero_each low ls (each_lacks (IsFalseIn (d ∷ low)) (IsFalseIn low) (negated d.lit) ls (λ x f g. false_before low d x f g) e.1 lacks) in
          let one : room_in (value_of low l) ≡ 1 = ap (λ (x : Lit). room_in (value_of low x)) q ∙ ap (λ (o : Option Entry). room_in (under o (negated d.lit).positive)) n in
          omega (arith, r, one, room_cons low l ls))
      | inr t ↦ omega (arith, decision_room low d ls n a.1 e.1, ap room_in (false_before low d l e.0 t), room_cons low l ls)
    ]
