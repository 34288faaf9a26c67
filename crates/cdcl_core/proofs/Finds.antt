-- Lemmas on answers.
use Rattle.std.proofs.Common.{◌≡◌, ◌≢◌, ℕ, ◌+◌, ◌-◌, ◌<◌, ◌≤◌, Bool, true, false, not, List, [], ◌∷◌, ◌++◌, length, refl, ap, sym, ◌∙◌, arith, cond, eqb, inl, inr, subst, suc, Some, None, Option, get_or, map, append_assoc, length-append}
use Rattle.std.specs.Prelude.{All, Contains, AllPairs, ◌⊎◌, slice_get, unwrap_or}
use Rattle.std.proofs.lemmas.Bool.{cases_lt, cases_eq, cases_Bool}
use Rattle.std.proofs.Math.Bool.{beq}
use Rattle.std.proofs.lemmas.Option.{slice_get_within}
use Rattle.std.proofs.lemmas.List.{get_or_default, append-nil}
use Rattle.clause_store.specs.declared.lit.Lit.{Lit}
use Rattle.clause_store.specs.Lits.{negated, same_lit, without, InRange, has, AreInRange}
use Rattle.watch_lists.specs.declared.entry.Entry.{Entry}
use Rattle.watch_lists.specs.Trace.{Trace, Attached, value_of, entry_of, under, room_in, room_of, AreApart, IsStacked, IsComplete, IsFalsified, StandIn}
use Rattle.clause_store.specs.Clauses.{clause_at}
use Rattle.derivation_log.specs.Logs.{Log, known_of, is_learned}
use Rattle.derivation_log.specs.declared.step.Step.{Step}
use Rattle.solver_laws.specs.Ready.{IsFalseIn, IsReason, IsJustified, DecidesOnly, IsBarred, AreAttached, IsLog}
use Rattle.std.specs.List.{AllByRecursion}
use Rattle.watch_lists.proofs.Parts.{room_cons}
use Rattle.solver_laws.proofs.Rooms.{room_false, each_map, same_lit-is, contains_has}
use Rattle.solver_laws.proofs.Steps.{drop_false}
use Rattle.solver_laws.proofs.Turns.{attached_all}
use Rattle.watch_lists.proofs.Traces.{entry_of-var}
use Rattle.watch_lists.proofs.Scans.{contains_all}
use Rattle.clause_store.specs.Truth.{clause_true, lit_true, values_of, AreTrue}
use Rattle.clause_store.proofs.Truths.{each_satisfies, or_left, or_right}
use Rattle.clause_store.proofs.Each.{each_index, each_of_index}
use Rattle.clause_store.proofs.Lits.{negated-twice}
use Rattle.std.proofs.Math.ListN.{set, length-set}
use Rattle.std.proofs.Common.{get_or-set_other, get_or-set_same}
use Rattle.cdcl_core.specs.Choices.{HasValues}
use Rattle.cdcl_core.specs.Replies.{AllLearned, IsGrown}
use Rattle.cdcl_core.specs.Turns.{IsKept, IsLearned}

-- a falsified clause
pub falsified_within : (known : List (List Lit)) (w : List Attached) (es : List Entry) (n : ℕ) → StandIn known w → IsFalsified w es n → n < length known
falsified_within known w es n st f = slice_get_within known n f.0 (contains_all (λ (a : Attached). slice_get known a.number ≡ Some a.clause) w (record { number = n; clause = f.0 }) st f.1)

pub falsified_barred : (asked : List Lit) (known : List (List Lit)) (w : List Attached) (es : List Entry) (n : ℕ) → StandIn known w → IsFalsified w es n → AllByRecursion (IsBarred asked es) (clause_at known n)
falsified_barred asked known w es n st f =
    let q = contains_all (λ (a : Attached). slice_get known a.number ≡ Some a.clause) w (record { number = n; clause = f.0 }) st f.1 in
    let e : clause_at known n ≡ f.0 = ap (λ (o : Option (List Lit)). unwrap_or o []) q in
    subst (AllByRecursion (IsBarred asked es)) (sym e) (each_map (IsFalseIn es) (IsBarred asked es) f.0 (λ l h. inr h) (room_false es f.0 f.2))

-- values
sign_cases : (o : Option Entry) (p : Bool) → under o p ≡ Some true → under o true ≡ Some p
sign_cases None p h = absurd (cc)
sign_cases (Some e) p h = go e.lit.positive p h
  where
    go : (s p : Bool) → (let x : Option Bool = Some (beq s p) in x ≡ Some true) → (let y : Option Bool = Some (beq s true) in y ≡ Some p)
    go true true h = refl
    go false false h = refl
    go true false h = absurd (cc)
    go false true h = absurd (cc)

lit_found : (t : Trace) (values : List Bool) (l : Lit) → HasValues t values → 1 ≤ l.var → l.var ≤ t.vars → value_of t.entries l ≡ Some true → lit_true (values_of values) l ≡ true
lit_found t values l h a b v =
    let k : l.var - 1 + 1 ≡ l.var = omega arith in
    let s : under (entry_of t.entries l.var) true ≡ Some l.positive = sign_cases (entry_of t.entries l.var) l.positive v in
    let q : get_or values (l.var - 1) false ≡ l.positive = h.each (l.var - 1) (omega arith) ∙ ap (λ (n : ℕ). unwrap_or (under (entry_of t.entries n) true) false) k ∙ ap (λ (o : Option Bool). unwrap_or o false) s in
    go l.positive (get_or values (l.var - 1) false) q
  where
    go : (p x : Bool) → x ≡ p → cond p x (not x) ≡ true
    go true x e = e
    go false x e = ap not e

some_value : (o : Option Bool) → (o ≡ None → ⊥) → (o ≡ Some true) ⊎ (o ≡ Some false)
some_value None h = absurd (h refl)
some_value (Some true) h = inl refl
some_value (Some false) h = inr refl

under_none : (o : Option Entry) (p q : Bool) → under o p ≡ None → under o q ≡ None
under_none None p q h = refl
under_none (Some e) p q h = absurd (cc)

clause_found : (t : Trace) (values : List Bool) (c : List Lit) → HasValues t values → ((v : ℕ) → 1 ≤ v → v ≤ t.vars → value_of t.entries (record { var = v; positive = false }) ≢ None) → InRange t.vars c → 2 ≤ room_of t.entries c → clause_true (values_of values) c ≡ true
clause_found t values [] h full r two = absurd (omega arith)
clause_found t values (l ∷ ls) h full r two =
    let rl = r.0 in
    elim (some_value (value_of t.entries l) (λ n. full l.var rl.0 rl.1 (under_none (entry_of t.entries l.var) l.positive false n))) [
      | inl v ↦ or_left (lit_true (values_of values) l) (clause_true (values_of values) ls) (lit_found t values l h rl.0 rl.1 v)
      | inr v ↦ or_right (lit_true (values_of values) l) (clause_true (values_of values) ls) (clause_found t values ls h full r.1 (omega (arith, room_cons t.entries l ls, ap room_in v)))
    ]

each_front : (P : List Lit → Type 0) (xs ys : List (List Lit)) → AllByRecursion P (xs ++ ys) → AllByRecursion P xs
each_front P [] ys h = tt
each_front P (x ∷ xs) ys h = (h.0, each_front P xs ys h.1)

pub main_found : (t : Trace) (values : List Bool) (main learned : List (List Lit)) (w : List Attached) → HasValues t values → ((v : ℕ) → 1 ≤ v → v ≤ t.vars → value_of t.entries (record { var = v; positive = false }) ≢ None) → AreInRange t.vars main → AreAttached w (main ++ learned) → IsComplete w t.entries → AreTrue main (values_of values)
main_found t values main learned w h full r e c =
    let P : List Lit → Type 0 = λ x. 2 ≤ room_of t.entries x in
    let two : AllByRecursion P main = each_front P main learned (attached_all P w (main ++ learned) c e) in
    each_satisfies (values_of values) main (each_of_index (λ (x : List Lit). clause_true (values_of values) x ≡ true) main (λ k d lt.
    clause_found t values (get_or main k d) h full (each_index (InRange t.vars) main r k d lt) (each_index P main two k d lt)))

pub main_range : (g : Log) (vars : ℕ) → AreInRange vars (known_of g) → AreInRange vars g.main
main_range g vars h = each_front (InRange vars) g.main (map (λ (s : Step). s.clause) g.steps) h

pub asked_found : (t : Trace) (values : List Bool) (asked : List Lit) → HasValues t values → InRange t.vars asked → All (λ (l : Lit). value_of t.entries l ≡ Some true) asked → AllByRecursion (λ l. lit_true (values_of values) l ≡ true) asked
asked_found t values [] h r v = tt
asked_found t values (l ∷ ls) h r v = (lit_found t values l h r.0.0 r.0.1 (v 0 l (omega arith)), asked_found t values ls h r.1 (λ k d lt. v (suc k) d (omega arith)))

-- one more value
pub values_step : (t : Trace) (values more : List Bool) (i : ℕ) (b : Bool) → length values ≡ t.vars → i < t.vars →
    ((v : ℕ) → v < i → get_or values v false ≡ unwrap_or (value_of t.entries (record { var = v + 1; positive = true })) false) →
    more ≡ set values (i + 1 - 1) b → b ≡ unwrap_or (value_of t.entries (record { var = i + 1; positive = true })) false →
    (length more ≡ t.vars) × ((v : ℕ) → v < i + 1 → get_or more v false ≡ unwrap_or (value_of t.entries (record { var = v + 1; positive = true })) false)
values_step t values more i b n h each e q =
    let k : i + 1 - 1 ≡ i = omega arith in
    let m : more ≡ set values i b = e ∙ ap (λ (j : ℕ). set values j b) k in
    let lt : i < length values = omega arith in (
      ap (λ (bs : List Bool). length bs) m ∙ length-set values i b ∙ n,
      λ v w. ap (λ (bs : List Bool). get_or bs v false) m ∙ elim (cases_eq v i) [
        | inl g ↦ ap (λ (j : ℕ). get_or (set values i b) j false) g ∙ (rw get_or-set_same refl) ∙ q ∙ ap (λ (j : ℕ). unwrap_or (value_of t.entries (record { var = j + 1; positive = true })) false) (sym g)
        | inr g ↦ get_or-set_other values i v b false g ∙ each v (omega arith)
      ],
    )

-- growth
pub grown_none : (g : Log) → IsLog g → IsGrown g g 0
grown_none g l = record { log = l; main = refl; vars = refl; steps = ([], sym (append-nil g.steps), tt, refl) }

all_learned_push : (ss : List Step) (s : Step) → AllLearned ss → (is_learned s.kind) ≡ true → AllLearned (ss ++ s ∷ [])
all_learned_push [] s a t = (t, tt)
all_learned_push (x ∷ xs) s a t = (a.0, all_learned_push xs s a.1 t)

pub grown_more : (g h k : Log) (n : ℕ) → IsGrown g h n → IsKept h k → IsLearned h k → IsGrown g k (n + 1)
grown_more g h k n a b c = record {
  log = b.log;
  main = b.main ∙ a.main;
  vars = b.vars ∙ a.vars;
  steps = (a.steps.0 ++ c.0 ∷ [], c.2 ∙ ap (λ (ss : List Step). ss ++ c.0 ∷ []) a.steps.1 ∙ append_assoc g.steps a.steps.0 (c.0 ∷ []), all_learned_push a.steps.0 c.0 a.steps.2 c.1, omega (arith, length-append a.steps.0 (c.0 ∷ []), a.steps.3));
}

-- at no level there are no decisions
pub decides_none : (asked : List Lit) (k : ℕ) (es : List Entry) → IsStacked 0 es → DecidesOnly asked k es
decides_none asked k [] s = tt
decides_none asked k (e ∷ es) s = elim s.1 [ inl d ↦ absurd (omega (arith, d.1.1)) | inr i ↦ ((λ r _. absurd (i.0 r)), decides_none asked k es i.1) ]

-- the entry that makes a literal false
pub record Against (es : List Entry) (l : Lit) : Type 0 where
  pub entry : Entry
  pub at : entry_of es l.var ≡ Some entry
  pub lit : entry.lit ≡ negated l

pub against : (es : List Entry) (l : Lit) → value_of es l ≡ Some false → Against es l
against es l h = go (entry_of es l.var) refl h
  where
    flip : (v w : ℕ) (s p : Bool) → v ≡ w → (let x : Option Bool = Some (beq s p) in x ≡ Some false) → (let a : Lit = record { var = v; positive = s } in let b : Lit = record { var = w; positive = not p } in a ≡ b)
    flip v w true true e h = absurd (cc)
    flip v w false false e h = absurd (cc)
    flip v w true false e h = ap (λ (n : ℕ). record { var = n; positive = true }) e
    flip v w false true e h = ap (λ (n : ℕ). record { var = n; positive = false }) e

    go : (o : Option Entry) → entry_of es l.var ≡ o → under o l.positive ≡ Some false → Against es l
    go None q h = absurd (cc)
    go (Some e) q h = record { entry = e; at = q; lit = flip e.lit.var l.var e.lit.positive l.positive (entry_of-var es l.var e q) h }

-- the reason of an entry anywhere in the trail
pub reason_of_entry : (w : List Attached) (vars v : ℕ) (es : List Entry) (e : Entry) (n : ℕ) → IsJustified w es → AreApart vars es → entry_of es v ≡ Some e → e.reason ≡ Some n → (c : List Lit) × Contains w (record { number = n; clause = c }) × (has e.lit c ≡ true) × AllByRecursion (IsFalseIn es) (without e.lit c)
reason_of_entry w vars v [] e n j a h r = absurd (cc)
reason_of_entry w vars v (x ∷ xs) e n j a h r =
    elim (cases_eq x.lit.var v) [
      | inl g ↦ (let t : eqb x.lit.var v ≡ true = grind arith in let h' = rw t at h in let q : x ≡ e = cc in
          let one = subst (λ (o : Option ℕ). IsReason w xs x.lit o) (ap (λ (y : Entry). y.reason) q ∙ r) j.0 in
          let l : x.lit ≡ e.lit = ap (λ (y : Entry). y.lit) q in
          (one.0, one.1, subst (λ (y : Lit). has y one.0 ≡ true) l one.2, subst (λ (y : Lit). AllByRecursion (IsFalseIn (x ∷ xs)) (without y one.0)) l (each_map (IsFalseIn xs) (IsFalseIn (x ∷ xs)) (without x.lit one.0) (λ y f. drop_false vars 1 (x ∷ xs) y a f) one.3)))
      | inr g ↦ (let t : eqb x.lit.var v ≡ false = grind arith in
          let s = reason_of_entry w vars v xs e n j.1 a.3 (rw t at h) r in
          (s.0, s.1, s.2, each_map (IsFalseIn xs) (IsFalseIn (x ∷ xs)) (without e.lit s.0) (λ y f. drop_false vars 1 (x ∷ xs) y a f) s.3))
    ]

each_back : (P R : Lit → Type 0) (p : Lit) (c : List Lit) → ((l : Lit) → P l → R l) → R p → AllByRecursion P (without p c) → AllByRecursion R c
each_back P R p [] f r e = tt
each_back P R p (l ∷ ls) f r e =
    elim (cases_Bool (same_lit l p)) [
      | inl t ↦ (subst R (sym (same_lit-is l p t)) r, each_back P R p ls f r (rw t at e))
      | inr t ↦ (let e' = rw t at e in (f l e'.0, each_back P R p ls f r e'.1))
    ]

pub contrary_barred : (asked : List Lit) (es : List Entry) (l p : Lit) (c : List Lit) → p ≡ negated l → Contains asked l → AllByRecursion (IsFalseIn es) (without p c) → AllByRecursion (IsBarred asked es) c
contrary_barred asked es l p c q h e =
    let n : negated p ≡ l = ap negated q ∙ negated-twice l in
    let r : IsBarred asked es p = inl (subst (λ (x : Lit). has x asked ≡ true) (sym n) (contains_has asked l h)) in
    each_back (IsFalseIn es) (IsBarred asked es) p c (λ x f. inr f) r e

-- a decision against an assumption would be an assumption on the same variable
has_contains : (l : Lit) (asked : List Lit) → has l asked ≡ true → Contains asked l
has_contains l [] h = absurd (cc)
has_contains l (m ∷ ms) h =
    elim (cases_Bool (same_lit l m)) [
      | inl t ↦ (0, omega arith, sym (same_lit-is l m t))
      | inr t ↦ (let r = has_contains l ms (rw t at h) in (suc r.0, omega (arith, r.1), r.2))
    ]

not_self : (b : Bool) → not b ≡ b → ⊥
not_self true h = cc
not_self false h = cc

pub no_opposite : (asked : List Lit) (l : Lit) → AllPairs (λ (a b : Lit). a.var ≢ b.var) asked → Contains asked l → has (negated l) asked ≡ true → ⊥
no_opposite asked l d a h =
    let b = has_contains (negated l) asked h in
    let ea : get_or asked a.0 l ≡ l = a.2 in
    let eb : get_or asked b.0 (negated l) ≡ negated l = b.2 in
    elim (cases_eq a.0 b.0) [
      | inl q ↦ (let x : l ≡ negated l = sym ea ∙ ap (λ (n : ℕ). get_or asked n l) q ∙ get_or_default asked b.0 l (negated l) b.1 ∙ eb in not_self l.positive (sym (ap (λ (y : Lit). y.positive) x)))
      | inr n ↦ elim (cases_lt a.0 b.0) [
        | inl lt ↦ d a.0 b.0 l lt b.1 (ap (λ (y : Lit). y.var) ea ∙ sym (ap (λ (y : Lit). y.var) (get_or_default asked b.0 l (negated l) b.1 ∙ eb)))
        | inr ge ↦ d b.0 a.0 l (omega arith) a.1 (ap (λ (y : Lit). y.var) (get_or_default asked b.0 l (negated l) b.1 ∙ eb) ∙ sym (ap (λ (y : Lit). y.var) ea))
      ]
    ]
