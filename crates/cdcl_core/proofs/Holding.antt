-- Lemmas on marks and the clause that they hold.
use Rattle.std.proofs.Common.{◌≡◌, ◌≢◌, ℕ, ◌+◌, ◌<◌, ◌≤◌, Bool, true, false, not, ◌||◌, List, [], ◌∷◌, ◌++◌, length, refl, ap, sym, ◌∙◌, arith, cond, eqb, inl, inr, subst, zero, suc, Some, None, Option, get_or, set, take, ◌⊎◌}
use Rattle.std.specs.Prelude.{nat_lt, unwrap_or}
use Rattle.std.specs.List.{AllByRecursion}
use Rattle.std.proofs.Math.Bool.{beq}
use Rattle.std.proofs.lemmas.Bool.{cases_eq, cases_Bool, false≢true}
use Rattle.std.proofs.lemmas.List.{get_or-set_same, get_or-set_other, take_more}
use Rattle.clause_store.specs.declared.lit.Lit.{Lit}
use Rattle.clause_store.specs.Lits.{rank_of, negated, same_lit, with_lit, without, joined, resolvent, sorted_onto, sorted_clause, Ascends, has}
use Rattle.clause_store.proofs.Lits.{Ascends-with_lit, Ascends-without, Ascends-resolvent, Ascends-sorted_clause, Ascends-sorted_onto}
use Rattle.clause_store.proofs.Sorts.{has-sorted_onto, has-with_lit, same_members}
use Rattle.clause_store.proofs.Truths.{or_cases, or_left, or_right, or_none, or_assoc}
use Rattle.watch_lists.specs.declared.entry.Entry.{Entry}
use Rattle.watch_lists.specs.Trace.{value_of, entry_of, under, room_in, room_of, upto}
use Rattle.watch_lists.proofs.Parts.{room_cons}
use Rattle.solver_laws.specs.Ready.{IsFalseIn}
use Rattle.solver_laws.proofs.Rooms.{same_lit-is, false_before, room_without, some_same, room_zero}
use Rattle.cdcl_core.specs.Marked.{mark_of, AreClear, lower, is_but, others, IsHeld, IsAdded}

-- members of clauses

has-joined : (m : Lit) (ls ms : List Lit) → has m (joined ls ms) ≡ (has m ls || has m ms)
has-joined m [] ms = refl
has-joined m (l ∷ ls) ms = has-with_lit m l (joined ls ms) ∙ ap (λ x. same_lit m l || x) (has-joined m ls ms) ∙ or_assoc (same_lit m l) (has m ls) (has m ms)

or_back : (x y : Bool) → (x || y) ≡ (y || x)
or_back true true = refl
or_back true false = refl
or_back false true = refl
or_back false false = refl

-- the resolvent, literal by literal
pub resolvent_is : (p : Lit) (c d : List Lit) → Ascends c → Ascends d → sorted_onto (without p c) (without (negated p) d) ≡ resolvent p c d
resolvent_is p c d a b =
    same_members (sorted_onto (without p c) (without (negated p) d)) (resolvent p c d) (Ascends-sorted_onto (without p c) (without (negated p) d) (Ascends-without p c a)) (Ascends-resolvent p c d b)
    (λ m. has-sorted_onto m (without p c) (without (negated p) d) ∙ or_back (has m (without (negated p) d)) (has m (without p c)) ∙ sym (has-joined m (without p c) (without (negated p) d)))

pub sorted_onto_none : (d : List Lit) → Ascends d → sorted_onto [] d ≡ d
sorted_onto_none d a = same_members (sorted_onto [] d) d (Ascends-sorted_clause d) a (λ m. has-sorted_onto m [] d ∙ or_none (has m d))

pub sorted_is : (k c : List Lit) → Ascends c → ((m : Lit) → has m k ≡ has m c) → sorted_clause k ≡ c
sorted_is k c a h = same_members (sorted_clause k) c (Ascends-sorted_clause k) a (λ m. has-sorted_onto m [] k ∙ or_none (has m k) ∙ h m)

same_bools : (a b : Bool) → (a ≡ true → b ≡ true) → (b ≡ true → a ≡ true) → a ≡ b
same_bools true b f g = sym (f refl)
same_bools false true f g = g refl
same_bools false false f g = refl

with_lit_in : (l : Lit) (c : List Lit) → Ascends c → has l c ≡ true → with_lit l c ≡ c
with_lit_in l c a h =
    same_members (with_lit l c) c (Ascends-with_lit l c a) a (λ m. has-with_lit m l c ∙ same_bools (same_lit m l || has m c) (has m c)
    (λ e. elim (or_cases (same_lit m l) (has m c) e) [ inl s ↦ subst (λ x. has x c ≡ true) (sym (same_lit-is m l s)) h | inr r ↦ r ]) (λ r. or_right (same_lit m l) (has m c) r))

no_member : (l m : Lit) (c : List Lit) → (same_lit l m || has l c) ≡ false → (same_lit l m ≡ false) × (has l c ≡ false)
no_member l m c h = both (same_lit l m) (has l c) h
  where
    both : (a b : Bool) → (a || b) ≡ false → (a ≡ false) × (b ≡ false)
    both true b h = absurd (cc)
    both false b h = (refl, h)

room-with_lit : (es : List Entry) (l : Lit) (c : List Lit) → has l c ≡ false → room_of es (with_lit l c) ≡ room_of es c + room_in (value_of es l)
room-with_lit es l [] h = omega (arith, room_cons es l [])
room-with_lit es l (m ∷ ms) h =
    let b = no_member l m ms h in
    elim (cases_Bool (nat_lt (rank_of l) (rank_of m))) [
      | inl t ↦ (let g : room_of es (l ∷ m ∷ ms) ≡ room_of es (m ∷ ms) + room_in (value_of es l) = omega (arith, room_cons es l (m ∷ ms)) in rw t g)
      | inr t ↦ (let g : room_of es (m ∷ with_lit l ms) ≡ room_of es (m ∷ ms) + room_in (value_of es l) = omega (arith, room-with_lit es l ms b.1, room_cons es m ms, room_cons es m (with_lit l ms)) in let s = b.0 in rw (t, s) g)
    ]

has-without : (m p : Lit) (c : List Lit) → has m (without p c) ≡ true → (has m c ≡ true) × (same_lit m p ≡ false)
has-without m p [] h = absurd (cc)
has-without m p (l ∷ ls) h =
    elim (cases_Bool (same_lit l p)) [
      | inl t ↦ (let r = has-without m p ls (rw t at h) in (or_right (same_lit m l) (has m ls) r.0, r.1))
      | inr t ↦ (let h' = rw t at h in elim (or_cases (same_lit m l) (has m (without p ls)) h') [
        | inl s ↦ (or_left (same_lit m l) (has m ls) s, subst (λ x. same_lit x p ≡ false) (sym (same_lit-is m l s)) t)
        | inr r ↦ (let q = has-without m p ls r in (or_right (same_lit m l) (has m ls) q.0, q.1))
      ])
    ]

has-kept : (m p : Lit) (c : List Lit) → has m c ≡ true → same_lit m p ≡ false → has m (without p c) ≡ true
has-kept m p [] h n = absurd (cc)
has-kept m p (l ∷ ls) h n =
    elim (cases_Bool (same_lit l p)) [
      | inl t ↦ rw t (elim (or_cases (same_lit m l) (has m ls) h) [ inl s ↦ absurd (false≢true (sym n ∙ subst (λ x. same_lit x p ≡ true) (sym (same_lit-is m l s)) t)) | inr r ↦ has-kept m p ls r n ])
      | inr t ↦ rw t (elim (or_cases (same_lit m l) (has m ls) h) [ inl s ↦ or_left _ _ s | inr r ↦ or_right _ _ (has-kept m p ls r n) ])
    ]

has_last : (m l : Lit) (k : List Lit) → has m (k ++ l ∷ []) ≡ (has m k || same_lit m l)
has_last m l [] = or_none (same_lit m l)
has_last m l (x ∷ xs) = ap (λ b. same_lit m x || b) (has_last m l xs) ∙ or_assoc (same_lit m x) (has m xs) (same_lit m l)

-- false literals

same_sign : (a b c : Bool) → beq a b ≡ false → beq a c ≡ false → b ≡ c
same_sign true true c h g = absurd (cc)
same_sign true false true h g = absurd (cc)
same_sign true false false h g = refl
same_sign false false c h g = absurd (cc)
same_sign false true false h g = absurd (cc)
same_sign false true true h g = refl

-- two false literals of one variable are the same
pub false_same : (es : List Entry) (l m : Lit) → IsFalseIn es l → IsFalseIn es m → l.var ≡ m.var → same_lit l m ≡ true
false_same es l m f g q = go (entry_of es m.var) (subst (λ v. under (entry_of es v) l.positive ≡ Some false) q f) g
  where
    go : (o : Option Entry) → under o l.positive ≡ Some false → under o m.positive ≡ Some false → same_lit l m ≡ true
    go None f g = absurd (cc)
    go (Some e) f g =
        let s : l.positive ≡ m.positive = same_sign e.lit.positive l.positive m.positive (some_same _ _ f) (some_same _ _ g) in
        grind arith

-- the newest entry's literal, negated, is false
not_same : (a : Bool) → beq a (not a) ≡ false
not_same true = refl
not_same false = refl

pub false_newest : (e : Entry) (es : List Entry) → IsFalseIn (e ∷ es) (negated e.lit)
false_newest e es = let t : eqb e.lit.var e.lit.var ≡ true = grind arith in rw t (ap Some (not_same e.lit.positive))

-- what is false before an entry is false with it
pub false_after : (e : Entry) (es : List Entry) (l : Lit) → entry_of es e.lit.var ≡ None → IsFalseIn es l → IsFalseIn (e ∷ es) l
false_after e es l n f =
    elim (cases_eq e.lit.var l.var) [
      | inl g ↦ absurd (let q : entry_of es l.var ≡ None = subst (λ (v : ℕ). entry_of es v ≡ None) g n in let z = sym (ap (λ (o : Option Entry). under o l.positive) q) ∙ f in cc)
      | inr g ↦ (let t : eqb e.lit.var l.var ≡ false = grind arith in rw t f)
    ]

-- the newest entry's variable has no false literal before it
pub not_before : (e : Entry) (es : List Entry) (l : Lit) → entry_of es e.lit.var ≡ None → IsFalseIn es l → e.lit.var ≢ l.var
not_before e es l n f g = let q : entry_of es l.var ≡ None = subst (λ (v : ℕ). entry_of es v ≡ None) g n in let z = sym (ap (λ (o : Option Entry). under o l.positive) q) ∙ f in cc

same_var : (l m : Lit) → same_lit l m ≡ true → l.var ≡ m.var
same_var l m h = ap (λ (x : Lit). x.var) (same_lit-is l m h)

-- marks

mark_same : (m : List Bool) (v w : ℕ) (b : Bool) → v ≡ w → v < length m → mark_of (set m v b) w ≡ b
mark_same m v w b q h = subst (λ x. mark_of (set m v b) x ≡ b) q (get_or-set_same m v b false h)

mark_other : (m : List Bool) (v w : ℕ) (b : Bool) → v ≢ w → mark_of (set m v b) w ≡ mark_of m w
mark_other m v w b n = get_or-set_other m v w b false (λ q. n (sym q))

-- a literal that is false and was not marked is marked; it is kept, or the walk comes to it
mark_marks : (all low rest : List Entry) (m : List Bool) (k c : List Lit) (l : Lit) → IsHeld all low rest m k c → IsFalseIn all l → l.var < length m →
    (x : Lit) → IsFalseIn all x → mark_of (set m l.var true) x.var ≡ has x (with_lit l c)
mark_marks all low rest m k c l h f lt x fx =
    elim (cases_eq l.var x.var) [
      | inl q ↦ mark_same m l.var x.var true q lt ∙ sym (has-with_lit x l c ∙ or_left (same_lit x l) (has x c) (false_same all x l fx f (sym q)))
      | inr n ↦ (let s : same_lit x l ≡ false = other x l n in
          mark_other m l.var x.var true n ∙ h.marks x fx ∙ sym (has-with_lit x l c ∙ ap (λ b. b || has x c) s))
    ]
  where
    other : (x l : Lit) → l.var ≢ x.var → same_lit x l ≡ false
    other x l n = elim (cases_Bool (same_lit x l)) [ inl t ↦ absurd (n (sym (same_var x l t))) | inr t ↦ t ]

mark_valued : (all : List Entry) (m : List Bool) (l : Lit) → ((v : ℕ) → mark_of m v ≡ true → (x : Lit) × (x.var ≡ v) × IsFalseIn all x) → IsFalseIn all l → (v : ℕ) → mark_of (set m l.var true) v ≡ true → (x : Lit) × (x.var ≡ v) × IsFalseIn all x
mark_valued all m l h f v t =
    elim (cases_eq l.var v) [
      | inl q ↦ (l, q, f)
      | inr n ↦ h v (sym (mark_other m l.var v true n) ∙ t)
    ]

pub held_waits : (all low rest : List Entry) (m : List Bool) (k c : List Lit) (l : Lit) → IsHeld all low rest m k c → IsFalseIn rest l → (IsFalseIn low l → ⊥) → l.var < length m → IsHeld all low rest (set m l.var true) k (with_lit l c)
held_waits all low rest m k c l h f n lt = record {
  within = h.within;
  marks = mark_marks all low rest m k c l h (h.within l f) lt;
  valued = mark_valued all m l h.valued (h.within l f);
  kept = λ x i. (has-with_lit x l c ∙ or_right (same_lit x l) (has x c) (h.kept x i).0, (h.kept x i).1);
  waits = λ x i. elim (or_cases (same_lit x l) (has x c) (sym (has-with_lit x l c) ∙ i)) [
    | inl s ↦ inr (subst (λ (y : Lit). IsFalseIn rest y) (sym (same_lit-is x l s)) f, subst (λ (y : Lit). IsFalseIn low y → ⊥) (sym (same_lit-is x l s)) n)
    | inr r ↦ h.waits x r
  ];
}

-- what is kept holds a clause with one more literal
kept_more : (rest low : List Entry) (k c : List Lit) (l : Lit) → ((x : Lit) → has x k ≡ true → (has x c ≡ true) × (IsFalseIn rest x → IsFalseIn low x)) → (IsFalseIn rest l → IsFalseIn low l) →
    (x : Lit) → has x (k ++ l ∷ []) ≡ true → (has x (with_lit l c) ≡ true) × (IsFalseIn rest x → IsFalseIn low x)
kept_more rest low k c l h f x i =
    elim (or_cases (has x k) (same_lit x l) (sym (has_last x l k) ∙ i)) [
      | inl r ↦ (has-with_lit x l c ∙ or_right (same_lit x l) (has x c) (h x r).0, (h x r).1)
      | inr s ↦ (has-with_lit x l c ∙ or_left (same_lit x l) (has x c) s, subst (λ (y : Lit). IsFalseIn rest y → IsFalseIn low y) (sym (same_lit-is x l s)) f)
    ]

waits_kept : (rest low : List Entry) (k c : List Lit) (l : Lit) → ((x : Lit) → has x c ≡ true → (has x k ≡ true) ⊎ (IsFalseIn rest x × (IsFalseIn low x → ⊥))) →
    (x : Lit) → has x (with_lit l c) ≡ true → (has x (k ++ l ∷ []) ≡ true) ⊎ (IsFalseIn rest x × (IsFalseIn low x → ⊥))
waits_kept rest low k c l h x i =
    elim (or_cases (same_lit x l) (has x c) (sym (has-with_lit x l c) ∙ i)) [
      | inl s ↦ inl (has_last x l k ∙ or_right (has x k) (same_lit x l) s)
      | inr r ↦ elim (h x r) [ inl y ↦ inl (has_last x l k ∙ or_left (has x k) (same_lit x l) y) | inr y ↦ inr y ]
    ]

pub held_low : (all low rest : List Entry) (m : List Bool) (k c : List Lit) (l : Lit) → IsHeld all low rest m k c → IsFalseIn rest l → IsFalseIn low l → l.var < length m → IsHeld all low rest (set m l.var true) (k ++ l ∷ []) (with_lit l c)
held_low all low rest m k c l h f n lt = record {
  within = h.within;
  marks = mark_marks all low rest m k c l h (h.within l f) lt;
  valued = mark_valued all m l h.valued (h.within l f);
  kept = kept_more rest low k c l h.kept (λ q. n);
  waits = waits_kept rest low k c l h.waits;
}

-- a literal that is not false is kept
pub held_true : (all low rest : List Entry) (m : List Bool) (k c : List Lit) (l : Lit) → IsHeld all low rest m k c → (IsFalseIn all l → ⊥) → IsHeld all low rest m (k ++ l ∷ []) (with_lit l c)
held_true all low rest m k c l h n = record {
  within = h.within;
  marks = λ x f. h.marks x f ∙ sym (has-with_lit x l c ∙ ap (λ b. b || has x c) (other x f));
  valued = h.valued;
  kept = kept_more rest low k c l h.kept (λ q. absurd (n (h.within l q)));
  waits = waits_kept rest low k c l h.waits;
}
  where
    other : (x : Lit) → IsFalseIn all x → same_lit x l ≡ false
    other x f = elim (cases_Bool (same_lit x l)) [ inl t ↦ absurd (n (subst (IsFalseIn all) (same_lit-is x l t) f)) | inr t ↦ t ]

-- the walk passes an entry

-- its variable is not marked
pub held_skip : (all low rest : List Entry) (m : List Bool) (k c : List Lit) (e : Entry) → IsHeld all low (e ∷ rest) m k c → entry_of rest e.lit.var ≡ None → mark_of m e.lit.var ≡ false → (has (negated e.lit) c ≡ false) × IsHeld all low rest m k c
held_skip all low rest m k c e h n u =
    let q : has (negated e.lit) c ≡ false = sym (h.marks (negated e.lit) (h.within (negated e.lit) (false_newest e rest))) ∙ u in (
      q,
      record {
        within = λ l f. h.within l (false_after e rest l n f);
        marks = h.marks;
        valued = h.valued;
        kept = λ l i. ((h.kept l i).0, λ f. (h.kept l i).1 (false_after e rest l n f));
        waits = λ l i. elim (h.waits l i) [
          | inl y ↦ inl y
          | inr y ↦ inr (false_before rest e l y.0 (elim (cases_Bool (same_lit l (negated e.lit))) [ inl t ↦ absurd (false≢true (sym q ∙ subst (λ x. has x c ≡ true) (same_lit-is l (negated e.lit) t) i)) | inr t ↦ t ]), y.1)
        ];
      },
    )

-- its variable is marked
pub held_has : (all low rest : List Entry) (m : List Bool) (k c : List Lit) (e : Entry) → IsHeld all low (e ∷ rest) m k c → mark_of m e.lit.var ≡ true → has (negated e.lit) c ≡ true
held_has all low rest m k c e h u = sym (h.marks (negated e.lit) (h.within (negated e.lit) (false_newest e rest))) ∙ u

-- its literal is taken from the clause
pub held_off : (all low rest : List Entry) (m : List Bool) (k c : List Lit) (e : Entry) → IsHeld all low (e ∷ rest) m k c → entry_of rest e.lit.var ≡ None → (IsFalseIn low (negated e.lit) → ⊥) → e.lit.var < length m → IsHeld all low rest (set m e.lit.var false) k (without (negated e.lit) c)
held_off all low rest m k c e h n up lt =
    let p : Lit = negated e.lit in
    let fp : IsFalseIn all p = h.within p (false_newest e rest) in record {
      within = λ l f. h.within l (false_after e rest l n f);
      marks = λ l f. elim (cases_eq e.lit.var l.var) [
        | inl q ↦ mark_same m e.lit.var l.var false q lt ∙ sym (lacks l (false_same all l p f fp (sym q)))
        | inr q ↦ mark_other m e.lit.var l.var false q ∙ h.marks l f ∙ same_bools (has l c) (has l (without p c)) (λ i. has-kept l p c i (apart l q)) (λ i. (has-without l p c i).0)
      ];
      valued = λ v t. elim (cases_eq e.lit.var v) [
        | inl q ↦ absurd (false≢true (sym (mark_same m e.lit.var v false q lt) ∙ t))
        | inr q ↦ h.valued v (sym (mark_other m e.lit.var v false q) ∙ t)
      ];
      kept = λ l i. (
        has-kept l p c (h.kept l i).0 (elim (cases_Bool (same_lit l p)) [ inl t ↦ absurd (up (subst (IsFalseIn low) (same_lit-is l p t) ((h.kept l i).1 (subst (IsFalseIn (e ∷ rest)) (sym (same_lit-is l p t)) (false_newest e rest))))) | inr t ↦ t ]),
        λ f. (h.kept l i).1 (false_after e rest l n f),
      );
      waits = λ l i. elim (h.waits l (has-without l p c i).0) [ inl y ↦ inl y | inr y ↦ inr (false_before rest e l y.0 (has-without l p c i).1, y.1) ];
    }
  where
    lacks : (l : Lit) → same_lit l (negated e.lit) ≡ true → has l (without (negated e.lit) c) ≡ false
    lacks l t = elim (cases_Bool (has l (without (negated e.lit) c))) [ inl i ↦ absurd (false≢true (sym (has-without l (negated e.lit) c i).1 ∙ t)) | inr i ↦ i ]

    apart : (l : Lit) → e.lit.var ≢ l.var → same_lit l (negated e.lit) ≡ false
    apart l q = elim (cases_Bool (same_lit l (negated e.lit))) [ inl t ↦ absurd (q (sym (same_var l (negated e.lit) t))) | inr t ↦ t ]

-- its literal stays in the clause for good
pub held_stays : (all low rest : List Entry) (m : List Bool) (k c : List Lit) (e : Entry) → IsHeld all low (e ∷ rest) m k c → entry_of rest e.lit.var ≡ None → has (negated e.lit) c ≡ true → IsHeld all low rest m (k ++ negated e.lit ∷ []) c
held_stays all low rest m k c e h n i = record {
  within = λ l f. h.within l (false_after e rest l n f);
  marks = h.marks;
  valued = h.valued;
  kept = λ l j. elim (or_cases (has l k) (same_lit l (negated e.lit)) (sym (has_last l (negated e.lit) k) ∙ j)) [
    | inl r ↦ ((h.kept l r).0, λ f. (h.kept l r).1 (false_after e rest l n f))
    | inr s ↦ (subst (λ x. has x c ≡ true) (sym (same_lit-is l (negated e.lit) s)) i, λ f. absurd (not_before e rest l n f (sym (same_var l (negated e.lit) s))))
  ];
  waits = λ l j. elim (cases_Bool (same_lit l (negated e.lit))) [
    | inl t ↦ inl (has_last l (negated e.lit) k ∙ or_right (has l k) (same_lit l (negated e.lit)) t)
    | inr t ↦ elim (h.waits l j) [ inl y ↦ inl (has_last l (negated e.lit) k ∙ or_left (has l k) (same_lit l (negated e.lit)) y) | inr y ↦ inr (false_before rest e l y.0 t, y.1) ]
  ];
}

-- nothing is held at first
pub held_none : (all low : List Entry) (m : List Bool) (vars : ℕ) (k : List Lit) → AreClear vars m k → IsHeld all low all m k []
held_none all low m vars k a = record {
  within = λ l f. f;
  marks = λ l f. a.marks l.var;
  valued = λ v t. absurd (false≢true (sym (a.marks v) ∙ t));
  kept = λ l i. absurd (let q = sym (ap (has l) a.kept) ∙ i in cc);
  waits = λ l i. absurd (cc);
}

-- at the walk's end
pub held_all : (all low rest : List Entry) (m : List Bool) (k c : List Lit) → Ascends c → IsHeld all low rest m k c → ((l : Lit) → IsFalseIn rest l → has l c ≡ true → IsFalseIn low l) → sorted_clause k ≡ c
held_all all low rest m k c a h n =
    sorted_is k c a (λ l. same_bools (has l k) (has l c) (λ i. (h.kept l i).0) (λ i. elim (h.waits l i) [ inl y ↦ y | inr y ↦ absurd (y.1 (n l y.0 i)) ]))

pub held_known : (all low rest : List Entry) (m : List Bool) (k c : List Lit) → IsHeld all low rest m k c → sorted_clause k ≡ c → (v : ℕ) → mark_of m v ≡ true → (l : Lit) × (l.var ≡ v) × (has l k ≡ true)
held_known all low rest m k c h q v t =
    let x = h.valued v t in
    let i : has x.0 c ≡ true = sym (h.marks x.0 x.2) ∙ ap (mark_of m) x.1 ∙ t in
    (x.0, x.1, sym (has-sorted_onto x.0 [] k ∙ or_none (has x.0 k)) ∙ ap (has x.0) q ∙ i)

-- adding a literal

pub mark_again : (all low : List Entry) (m : List Bool) (k : List Lit) (l : Lit) → IsFalseIn all l → mark_of m l.var ≡ true → IsAdded all low m k m k (l ∷ []) 0
mark_again all low m k l f t rest c a g h =
    let q : with_lit l c ≡ c = with_lit_in l c a (sym (h.marks l f) ∙ t) in
    (subst (IsHeld all low rest m k) (sym q) h, λ z. omega (arith, ap (room_of low) q))

-- how much a false literal leaves open under the levels below one
pub room_above : (level lv : ℕ) (es : List Entry) (l : Lit) → ((n : ℕ) → room_in (value_of (upto n es) l) ≡ cond (nat_lt n lv) 1 0) → level ≤ lv → room_in (value_of (lower level es) l) ≡ 1
room_above zero lv es l r h = refl
room_above (suc n) lv es l r h = let t : nat_lt n lv ≡ true = grind arith in r n ∙ ap (λ b. cond {A = ℕ} b 1 0) t

pub room_below : (level lv : ℕ) (es : List Entry) (l : Lit) → ((n : ℕ) → room_in (value_of (upto n es) l) ≡ cond (nat_lt n lv) 1 0) → lv < level → room_in (value_of (lower level es) l) ≡ 0
room_below zero lv es l r h = absurd (omega arith)
room_below (suc n) lv es l r h = let t : nat_lt n lv ≡ false = grind arith in r n ∙ ap (λ b. cond {A = ℕ} b 1 0) t

pub open_not : (es : List Entry) (l : Lit) → room_in (value_of es l) ≡ 1 → IsFalseIn es l → ⊥
open_not es l h f = omega (arith, h, ap room_in f)

pub mark_waits : (all low : List Entry) (m : List Bool) (k : List Lit) (l : Lit) → IsFalseIn all l → l.var < length m → mark_of m l.var ≡ false → room_in (value_of low l) ≡ 1 → IsAdded all low m k (set m l.var true) k (l ∷ []) 1
mark_waits all low m k l f lt t o rest c a g h =
    (held_waits all low rest m k c l h (g.0 f) (open_not low l o) lt, λ z. omega (arith, room-with_lit low l c (sym (h.marks l f) ∙ t), o))

pub mark_low : (all low : List Entry) (m : List Bool) (k : List Lit) (l : Lit) → IsFalseIn all l → l.var < length m → mark_of m l.var ≡ false → room_in (value_of low l) ≡ 0 → IsAdded all low m k (set m l.var true) (k ++ l ∷ []) (l ∷ []) 0
mark_low all low m k l f lt t o rest c a g h =
    (held_low all low rest m k c l h (g.0 f) (room_zero (value_of low l) o) lt, λ z. omega (arith, room-with_lit low l c (sym (h.marks l f) ∙ t), o))

pub keep_true : (all low : List Entry) (m : List Bool) (k : List Lit) (l : Lit) (n : ℕ) → (IsFalseIn all l → ⊥) → IsAdded all low m k m (k ++ l ∷ []) (l ∷ []) n
keep_true all low m k l n f rest c a g h = (held_true all low rest m k c l h f, λ z. absurd (f z.0))

-- adding literals, one after another
onto_more : (c xs ys : List Lit) → sorted_onto c (xs ++ ys) ≡ sorted_onto (sorted_onto c xs) ys
onto_more c [] ys = refl
onto_more c (x ∷ xs) ys = onto_more (with_lit x c) xs ys

each_left : (P : Lit → Type 0) (xs ys : List Lit) → AllByRecursion P (xs ++ ys) → AllByRecursion P xs
each_left P [] ys h = tt
each_left P (x ∷ xs) ys h = (h.0, each_left P xs ys h.1)

each_right : (P : Lit → Type 0) (xs ys : List Lit) → AllByRecursion P (xs ++ ys) → AllByRecursion P ys
each_right P [] ys h = h
each_right P (x ∷ xs) ys h = each_right P xs ys h.1

pub added_then : (all low : List Entry) (m m' m'' : List Bool) (k k' k'' xs ys : List Lit) (a b : ℕ) → IsAdded all low m k m' k' xs a → IsAdded all low m' k' m'' k'' ys b → IsAdded all low m k m'' k'' (xs ++ ys) (a + b)
added_then all low m m' m'' k k' k'' xs ys a b f g rest c s e h =
    let one = f rest c s (each_left (λ l. IsFalseIn all l → IsFalseIn rest l) xs ys e) h in
    let two = g rest (sorted_onto c xs) (Ascends-sorted_onto c xs s) (each_right (λ l. IsFalseIn all l → IsFalseIn rest l) xs ys e) one.0 in
    let q = onto_more c xs ys in (
      subst (IsHeld all low rest m'' k'') (sym q) two.0,
      λ z. omega (arith, ap (room_of low) q, one.1 (each_left (IsFalseIn all) xs ys z), two.1 (each_right (IsFalseIn all) xs ys z)),
    )

pub others_more : (but : Option Lit) (i : ℕ) (ls : List Lit) (d : Lit) → i < length ls → is_but but (get_or ls i d) ≡ false → others but (take (i + 1) ls) ≡ others but (take i ls) ++ get_or ls i d ∷ []
others_more but i ls d h n = ap (others but) (take_more ls i d h) ∙ others_append but (take i ls) (get_or ls i d) n
  where
    others_append : (but : Option Lit) (xs : List Lit) (x : Lit) → is_but but x ≡ false → others but (xs ++ x ∷ []) ≡ others but xs ++ x ∷ []
    others_append but [] x n = rw n refl
    others_append but (y ∷ ys) x n = elim (cases_Bool (is_but but y)) [ inl t ↦ rw t (others_append but ys x n) | inr t ↦ rw t (ap (λ (zs : List Lit). y ∷ zs) (others_append but ys x n)) ]

pub others_same : (but : Option Lit) (i : ℕ) (ls : List Lit) (d : Lit) → i < length ls → is_but but (get_or ls i d) ≡ true → others but (take (i + 1) ls) ≡ others but (take i ls)
others_same but i ls d h n = ap (others but) (take_more ls i d h) ∙ others_append but (take i ls) (get_or ls i d) n
  where
    others_append : (but : Option Lit) (xs : List Lit) (x : Lit) → is_but but x ≡ true → others but (xs ++ x ∷ []) ≡ others but xs
    others_append but [] x n = rw n refl
    others_append but (y ∷ ys) x n = elim (cases_Bool (is_but but y)) [ inl t ↦ rw t (others_append but ys x n) | inr t ↦ rw t (ap (λ (zs : List Lit). y ∷ zs) (others_append but ys x n)) ]

pub others_none : (ls : List Lit) → others None ls ≡ ls
others_none [] = refl
others_none (l ∷ ls) = ap (λ (zs : List Lit). l ∷ zs) (others_none ls)

pub others_some : (p : Lit) (ls : List Lit) → others (Some p) ls ≡ without p ls
others_some p [] = refl
others_some p (l ∷ ls) = elim (cases_Bool (same_lit l p)) [ inl t ↦ rw t (others_some p ls) | inr t ↦ rw t (ap (λ (zs : List Lit). l ∷ zs) (others_some p ls)) ]

-- values

pub not_open : (o : Option Bool) → unwrap_or o true ≡ true → o ≡ Some false → ⊥
not_open o h q = absurd (let z = ap (λ (x : Option Bool). unwrap_or x true) (sym q) ∙ h in cc)

pub is_open : (o : Option Bool) → unwrap_or o true ≡ false → o ≡ Some false
is_open None h = absurd (cc)
is_open (Some true) h = absurd (cc)
is_open (Some false) h = refl

-- two literals of a clause
pub room_apart : (es : List Entry) (p l : Lit) (c : List Lit) → has p c ≡ true → has l c ≡ true → same_lit l p ≡ false → room_in (value_of es p) + room_in (value_of es l) ≤ room_of es c
room_apart es p l c i j n = omega (arith, room_without es p c i, room_without es l (without p c) (has-kept l p c j n))
