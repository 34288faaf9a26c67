-- The walk back along the trail, over the clause that marks hold.
use Rattle.std.proofs.Common.{◌≡◌, ℕ, ◌+◌, ◌-◌, ◌<◌, ◌≤◌, Bool, true, false, List, [], ◌∷◌, ◌++◌, length, refl, ap, sym, ◌∙◌, arith, cond, inl, inr, subst, zero, suc, Some, None, Option, set}
use Rattle.std.specs.Prelude.{slice_get, nat_lt}
use Rattle.std.specs.List.{AllByRecursion}
use Rattle.std.proofs.lemmas.Bool.{cases_Bool}
use Rattle.clause_store.specs.declared.lit.Lit.{Lit}
use Rattle.clause_store.specs.Lits.{negated, same_lit, without, resolvent, sorted_onto, sorted_clause, Ascends, InRange, has}
use Rattle.clause_store.proofs.Lits.{negated-twice, Ascends-without}
use Rattle.derivation_log.specs.declared.step.Link.{Link}
use Rattle.watch_lists.specs.declared.entry.Entry.{Entry}
use Rattle.watch_lists.specs.Trace.{Attached, Trace, value_of, entry_of, under, room_in, room_of, upto, AreApart, StandIn, IsComplete, IsTrace}
use Rattle.solver_laws.specs.Ready.{IsFalseIn, IsLesson, Tops}
use Rattle.solver_laws.proofs.Rooms.{each_map, each_without, false_before, room_at, room_once, room_without, same_lit-is, tops_lacks}
use Rattle.solver_laws.proofs.Steps.{IsWalked, walk_step, walk_skip, reason_at}
use Rattle.cdcl_core.specs.Marked.{mark_of, AreClear, lower, others, IsHeld, IsAdded}
use Rattle.cdcl_core.proofs.Claims.{IsClaiming, claim_skip, claim_decided, claim_step}
use Rattle.cdcl_core.proofs.Holding.{held_none, held_skip, held_has, held_off, held_stays, held_all, held_known, false_after, false_newest, open_not, others_none, others_some, sorted_onto_none, resolvent_is, room_apart}

-- adding the first clause
each_same : (all : List Entry) (ls : List Lit) → AllByRecursion (λ l. IsFalseIn all l → IsFalseIn all l) ls
each_same all [] = tt
each_same all (l ∷ ls) = ((λ f. f), each_same all ls)

pub added_first : (all low : List Entry) (vars : ℕ) (m m' : List Bool) (k k' d : List Lit) (n : ℕ) → AreClear vars m k → Ascends d → IsAdded all low m k m' k' (others None d) n →
    IsHeld all low all m' k' d × (AllByRecursion (IsFalseIn all) d → room_of low d ≡ n)
added_first all low vars m m' k k' d n clear a add =
    let q : others None d ≡ d = others_none d in
    let o : sorted_onto [] d ≡ d = sorted_onto_none d a in
    let r = subst (λ (zs : List Lit). IsAdded all low m k m' k' zs n) q add all [] tt (each_same all d) (held_none all low m vars k clear) in
    (subst (IsHeld all low all m' k') o r.0, λ z. omega (arith, ap (room_of low) o, r.1 z))

-- resolving with the reason of the newest entry
pub resolved : (all low rest : List Entry) (m m' : List Bool) (k k' : List Lit) (e : Entry) (c d : List Lit) (n : ℕ) → IsHeld all low (e ∷ rest) m k c → Ascends c → Ascends d → entry_of rest e.lit.var ≡ None → mark_of m e.lit.var ≡ true →
    room_in (value_of low (negated e.lit)) ≡ 1 → e.lit.var < length m → AllByRecursion (IsFalseIn rest) (without e.lit d) → IsAdded all low (set m e.lit.var false) k m' k' (others (Some e.lit) d) n →
    IsHeld all low rest m' k' (resolvent (negated e.lit) c d) × (room_of low (resolvent (negated e.lit) c d) + 1 ≡ room_of low c + n)
resolved all low rest m m' k k' e c d n h a b free t o lt f add =
    let p : Lit = negated e.lit in
    let off = held_off all low rest m k c e h free (open_not low p o) lt in
    let q : others (Some e.lit) d ≡ without (negated p) d = others_some e.lit d ∙ ap (λ (x : Lit). without x d) (sym (negated-twice e.lit)) in
    let f' : AllByRecursion (IsFalseIn rest) (without (negated p) d) = subst (λ (x : Lit). AllByRecursion (IsFalseIn rest) (without x d)) (sym (negated-twice e.lit)) f in
    let add' = subst (λ (zs : List Lit). IsAdded all low (set m e.lit.var false) k m' k' zs n) q add in
    let r = add' rest (without p c) (Ascends-without p c a) (each_map (IsFalseIn rest) (λ l. IsFalseIn all l → IsFalseIn rest l) (without (negated p) d) (λ l x y. x) f') off in
    let i = held_has all low rest m k c e h t in
    let s = resolvent_is p c d a b in
    let z = r.1 (each_map (IsFalseIn rest) (IsFalseIn all) (without (negated p) d) (λ l x. off.within l x) f') in (
      subst (IsHeld all low rest m' k') s r.0,
      omega (arith, z, ap (room_of low) s, room_once low p c a, room_without low p c i, o),
    )

-- the walk to the first unique implication point

-- the clause that is held while the walk goes on
pub record Here (known : List (List Lit)) (watched : List Attached) (vars : ℕ) (low rest all : List Entry) (first : ℕ) (chain : List Link) (m : List Bool) (k : List Lit) (count : ℕ) : Type 0 where
  pub clause : List Lit
  pub walked : IsWalked known watched vars low rest all first chain clause
  pub held : IsHeld all low rest m k clause
  pub counted : count ≡ room_of low clause

pub lower_is : (n : ℕ) (es : List Entry) → 1 ≤ n → lower n es ≡ upto (n - 1) es
lower_is zero es h = absurd (omega arith)
lower_is (suc n) es h = let e : n ≡ suc n - 1 = omega arith in ap (λ (k : ℕ). upto k es) e

open_below : (low rest : List Entry) (e : Entry) → Tops low (e ∷ rest) → entry_of rest e.lit.var ≡ None → room_in (value_of low (negated e.lit)) ≡ 1
open_below low rest e t n =
    let q : entry_of low e.lit.var ≡ None = elim t [ inl d ↦ subst (λ (zs : List Entry). entry_of zs e.lit.var ≡ None) d.1 n | inr i ↦ tops_lacks e.lit.var low rest i.1 n ] in
    ap (λ (o : Option Entry). room_in (under o (negated e.lit).positive)) q

pub here_skip : (known : List (List Lit)) (watched : List Attached) (vars : ℕ) (low rest all : List Entry) (first : ℕ) (chain : List Link) (m : List Bool) (k : List Lit) (count : ℕ) (e : Entry) →
    Here known watched vars low (e ∷ rest) all first chain m k count → mark_of m e.lit.var ≡ false → Here known watched vars low rest all first chain m k count
here_skip known watched vars low rest all first chain m k count e h t =
    let s = held_skip all low rest m k h.clause e h.held h.walked.apart.0 t in record {
      clause = h.clause;
      walked = walk_skip known watched vars first low rest all e chain h.clause (negated e.lit) refl h.walked s.0;
      held = s.1;
      counted = h.counted;
    }

pub here_step : (known : List (List Lit)) (watched : List Attached) (vars : ℕ) (low rest all : List Entry) (first : ℕ) (chain : List Link) (m m' : List Bool) (k k' : List Lit) (count : ℕ) (e : Entry) (d : List Lit) (number n : ℕ) → StandIn known watched → IsComplete watched low →
    Here known watched vars low (e ∷ rest) all first chain m k count → mark_of m e.lit.var ≡ true → e.reason ≡ Some number → slice_get known number ≡ Some d → Ascends d → InRange vars d → e.lit.var < length m →
    IsAdded all low (set m e.lit.var false) k m' k' (others (Some e.lit) d) n →
    Here known watched vars low rest all first (chain ++ record { pivot = negated e.lit; number = number } ∷ []) m' k' (count - 1 + n)
here_step known watched vars low rest all first chain m m' k k' count e d number n st comp h t r g a ra lt add =
    let w = h.walked in
    let c : List Lit = h.clause in
    let p : Lit = negated e.lit in
    let j = reason_at watched known rest e number d st w.justified.0 r g in
    let i = held_has all low rest m k c e h.held t in
    let o = open_below low rest e w.tops w.apart.0 in
    let one = resolved all low rest m m' k k' e c d n h.held w.lesson.ascends a w.apart.0 t o lt j.others add in record {
      clause = resolvent p c d;
      walked = walk_step known watched vars first low rest all e chain c d p number st comp refl w r g a ra i (λ z f. each_map (IsFalseIn rest) (IsFalseIn all) z (λ l x. one.0.within l x) f);
      held = one.0;
      counted = omega (arith, h.counted, w.one, one.1);
    }

-- the clause at the end of a walk
pub record Ended (known : List (List Lit)) (vars first : ℕ) (chain : List Link) (m : List Bool) (k : List Lit) (clause : List Lit) : Type 0 where
  pub is : sorted_clause k ≡ clause
  pub lesson : IsLesson known vars first chain clause
  pub marks : (v : ℕ) → mark_of m v ≡ true → (l : Lit) × (l.var ≡ v) × (has l k ≡ true)

-- one literal alone is open under the lower levels
one_open : (low : List Entry) (p l : Lit) (c : List Lit) → has p c ≡ true → has l c ≡ true → room_in (value_of low p) ≡ 1 → room_of low c ≡ 1 → same_lit l p ≡ false → IsFalseIn low l
one_open low p l c i j o r n =
    let two = room_apart low p l c i j n in
    closed (value_of low l) (omega (arith, two, o, r))
  where
    closed : (o : Option Bool) → room_in o ≡ 0 → o ≡ Some false
    closed None h = absurd (omega arith)
    closed (Some true) h = absurd (omega arith)
    closed (Some false) h = refl

pub here_end : (known : List (List Lit)) (watched : List Attached) (vars : ℕ) (low rest all : List Entry) (first : ℕ) (chain : List Link) (m : List Bool) (k : List Lit) (count : ℕ) (e : Entry) →
    (h : Here known watched vars low (e ∷ rest) all first chain m k count) → mark_of m e.lit.var ≡ true → count ≡ 1 → Ended known vars first chain m (k ++ negated e.lit ∷ []) h.clause
here_end known watched vars low rest all first chain m k count e h t q =
    let w = h.walked in
    let c : List Lit = h.clause in
    let p : Lit = negated e.lit in
    let i = held_has all low rest m k c e h.held t in
    let o = open_below low rest e w.tops w.apart.0 in
    let s = held_stays all low rest m k c e h.held w.apart.0 i in
    let is : sorted_clause (k ++ p ∷ []) ≡ c = held_all all low rest m (k ++ p ∷ []) c w.lesson.ascends s (λ l f j. one_open low p l c i j o (omega (arith, h.counted, q)) (apart l f)) in record {
      is = is;
      lesson = w.lesson;
      marks = held_known all low rest m (k ++ p ∷ []) c s is;
    }
  where
    apart : (l : Lit) → IsFalseIn rest l → same_lit l (negated e.lit) ≡ false
    apart l f = elim (cases_Bool (same_lit l (negated e.lit))) [
      | inl t ↦ absurd (let v : e.lit.var ≡ l.var = sym (ap (λ (x : Lit). x.var) (same_lit-is l (negated e.lit) t)) in let y = subst (λ (z : ℕ). entry_of rest z ≡ None) v h.walked.apart.0 in let z = sym (ap (λ (o : Option Entry). under o l.positive) y) ∙ f in cc)
      | inr t ↦ t
    ]

-- the walk of a claim

pub record There (known : List (List Lit)) (watched : List Attached) (vars : ℕ) (asked : List Lit) (rest all : List Entry) (first : ℕ) (chain : List Link) (m : List Bool) (k : List Lit) : Type 0 where
  pub clause : List Lit
  pub claiming : IsClaiming known watched vars asked rest first chain clause
  pub held : IsHeld all [] rest m k clause
  pub apart : AreApart vars rest

pub there_skip : (known : List (List Lit)) (watched : List Attached) (vars : ℕ) (asked : List Lit) (rest all : List Entry) (first : ℕ) (chain : List Link) (m : List Bool) (k : List Lit) (e : Entry) →
    There known watched vars asked (e ∷ rest) all first chain m k → mark_of m e.lit.var ≡ false → There known watched vars asked rest all first chain m k
there_skip known watched vars asked rest all first chain m k e h t =
    let s = held_skip all [] rest m k h.clause e h.held h.apart.0 t in record {
      clause = h.clause;
      claiming = claim_skip known watched vars first asked rest e chain h.clause (negated e.lit) refl h.claiming s.0;
      held = s.1;
      apart = h.apart.3;
    }

pub there_stays : (known : List (List Lit)) (watched : List Attached) (vars : ℕ) (asked : List Lit) (rest all : List Entry) (first : ℕ) (chain : List Link) (m : List Bool) (k : List Lit) (e : Entry) →
    There known watched vars asked (e ∷ rest) all first chain m k → mark_of m e.lit.var ≡ true → e.reason ≡ None → There known watched vars asked rest all first chain m (k ++ negated e.lit ∷ [])
there_stays known watched vars asked rest all first chain m k e h t r =
    record {
      clause = h.clause;
      claiming = claim_decided known watched vars first asked rest e chain h.clause h.claiming r;
      held = held_stays all [] rest m k h.clause e h.held h.apart.0 (held_has all [] rest m k h.clause e h.held t);
      apart = h.apart.3;
    }

pub there_step : (known : List (List Lit)) (watched : List Attached) (vars : ℕ) (asked : List Lit) (rest all : List Entry) (first : ℕ) (chain : List Link) (m m' : List Bool) (k k' : List Lit) (e : Entry) (d : List Lit) (number n : ℕ) → StandIn known watched →
    There known watched vars asked (e ∷ rest) all first chain m k → mark_of m e.lit.var ≡ true → e.reason ≡ Some number → slice_get known number ≡ Some d → Ascends d → InRange vars d → e.lit.var < length m →
    IsAdded all [] (set m e.lit.var false) k m' k' (others (Some e.lit) d) n →
    There known watched vars asked rest all first (chain ++ record { pivot = negated e.lit; number = number } ∷ []) m' k'
there_step known watched vars asked rest all first chain m m' k k' e d number n st h t r g a ra lt add =
    let w = h.claiming in
    let c : List Lit = h.clause in
    let p : Lit = negated e.lit in
    let j = reason_at watched known rest e number d st w.justified.0 r g in
    let i = held_has all [] rest m k c e h.held t in
    let one = resolved all [] rest m m' k k' e c d n h.held w.lesson.ascends a h.apart.0 t refl lt j.others add in record {
      clause = resolvent p c d;
      claiming = claim_step known watched vars first asked rest e chain c d p number st refl w r g a ra i;
      held = one.0;
      apart = h.apart.3;
    }

pub there_end : (known : List (List Lit)) (watched : List Attached) (vars : ℕ) (asked : List Lit) (all : List Entry) (first : ℕ) (chain : List Link) (m : List Bool) (k : List Lit) →
    (h : There known watched vars asked [] all first chain m k) → Ended known vars first chain m k h.clause
there_end known watched vars asked all first chain m k h =
    let is : sorted_clause k ≡ h.clause = held_all all [] [] m k h.clause h.claiming.lesson.ascends h.held (λ l f j. f) in record {
      is = is;
      lesson = h.claiming.lesson;
      marks = held_known all [] [] m k h.clause h.held is;
    }

-- a clause that is false leaves open at most as many literals as the trail has entries
pub rooms_few : (low es : List Entry) (vars : ℕ) (c : List Lit) → AreApart vars es → ((l : Lit) → IsFalseIn es l → room_in (value_of low l) ≤ 1) → Ascends c → AllByRecursion (IsFalseIn es) c → room_of low c ≤ length es
rooms_few low [] vars [] a h s g = omega arith
rooms_few low [] vars (l ∷ ls) a h s g = absurd (let z = g.0 in cc)
rooms_few low (e ∷ es) vars c a h s g =
    let p : Lit = negated e.lit in
    let r = rooms_few low es vars (without p c) a.3 (λ l f. h l (false_after e es l a.0 f)) (Ascends-without p c s) (each_without (IsFalseIn (e ∷ es)) (IsFalseIn es) p c (λ l f t. false_before es e l f t) g) in
    omega (arith, r, room_once low p c s, h p (false_newest e es))

pub room_low : (t : Trace) (k : ℕ) (l : Lit) → IsTrace t → IsFalseIn t.entries l → room_in (value_of (upto k t.entries) l) ≤ 1
room_low t k l tr f = go (entry_of t.entries l.var) refl
  where
    small : (b : Bool) → cond {A = ℕ} b 1 0 ≤ 1
    small true = omega arith
    small false = omega arith

    go : (o : Option Entry) → entry_of t.entries l.var ≡ o → room_in (value_of (upto k t.entries) l) ≤ 1
    go None q = absurd (cc)
    go (Some e) q = omega (arith, room_at t.vars t.level k t.entries l e tr.apart tr.stacked f q, small (nat_lt k e.level))
