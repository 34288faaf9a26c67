-- What propagation, decisions, going back and learning keep.
use Rattle.std.proofs.Common.{◌≡◌, ℕ, ◌+◌, ◌-◌, ◌<◌, ◌≤◌, true, false, List, [], ◌∷◌, ◌++◌, length, refl, ap, sym, ◌∙◌, arith, cond, inl, inr, subst, zero, suc, Some, None, Option, map, get_or, append_assoc, length-append}
use Rattle.std.specs.Prelude.{nat_lt, nat_le, All, Contains, slice_get}
use Rattle.std.proofs.lemmas.Bool.{cases_lt, false≢true}
use Rattle.std.proofs.lemmas.List.{append_cancel_right, get_or_default}
use Rattle.std.proofs.lemmas.List.Elements.{All-push}
use Rattle.clause_store.specs.declared.lit.Lit.{Lit}
use Rattle.clause_store.specs.Lits.{without, Ascends, has, Includes}
use Rattle.watch_lists.specs.declared.entry.Entry.{Entry}
use Rattle.watch_lists.specs.Trace.{Trace, Attached, value_of, room_in, room_of, upto, IsStacked, Implies, Grows, Same, More, IsComplete, StandIn, Place, places_of, shorter, ExtendsAt, Extends}
use Rattle.derivation_log.specs.Logs.{Log, known_of, learned_of, Follows, is_learned}
use Rattle.derivation_log.specs.declared.step.Step.{Step}
use Rattle.derivation_log.proofs.Steps.{sound_push, new_push, learned_push, known_front}
use Rattle.solver_laws.specs.Ready.{IsFalseIn, IsReason, IsJustified, DecidesOnly, AreAttached, IsReady, IsLog, AllFit}
use Rattle.std.specs.List.{AllByRecursion}
use Rattle.solver_laws.specs.Digits.{IsFit}
use Rattle.watch_lists.proofs.Parts.{upto_whole, upto_upto}
use Rattle.solver_laws.proofs.Rooms.{room_false, room_without, contains_has, room_le, upto_extends}
use Rattle.clause_store.proofs.Each.{each_append, each_at, each_of_index}
use Rattle.watch_lists.proofs.Scans.{contains_all}
use Rattle.watch_lists.proofs.Fresh.{grows_low}
use Rattle.watch_lists.proofs.Places.{extends_at}
use Rattle.clause_store.proofs.Numbered.{get_front, get_seam}

implied_reason : (es : List Entry) (c : List Lit) (l : Lit) → Implies es c l → (has l c ≡ true) × AllByRecursion (IsFalseIn es) (without l c)
implied_reason es c l i =
    let h = contains_has c l i.within in
    let n : room_in (value_of es l) ≡ 1 = ap room_in i.free in
    (h, room_false es (without l c) (omega (arith, room_without es l c h, i.room, n)))

grows_justified : (w : List Attached) (level : ℕ) (es fs : List Entry) → Grows w level es fs → IsJustified w es → IsJustified w fs
grows_justified w level es _ (Same fs) j = j
grows_justified w level es _ (More fs gs n c l q at i) j =
    let r = implied_reason gs c l i in
    ((c, at, r.0, r.1), grows_justified w level es gs q j)

all_cons : (P : Place → Type 0) (x : Place) (xs : List Place) → P x → All P xs → All P (x ∷ xs)
all_cons P x xs p a zero d lt = p
all_cons P x xs p a (suc k) d lt = a k d (omega arith)

all_front : (P : Place → Type 0) (xs ys : List Place) → All P (xs ++ ys) → All P xs
all_front P [] ys h k d lt = absurd (omega arith)
all_front P (x ∷ xs) ys h zero d lt = h 0 d (omega arith)
all_front P (x ∷ xs) ys h (suc k) d lt = all_front P xs ys (λ j e l. h (suc j) e (omega arith)) k d (omega arith)

between : (level : ℕ) (f f' fs : List Place) → ExtendsAt level f fs → Extends f f' → Extends f' fs → ExtendsAt level f' fs
between level f f' fs a b c =
    let q : a.0 ++ f ≡ (c.0 ++ b.0) ++ f = sym a.1 ∙ c.1 ∙ ap (λ (zs : List Place). c.0 ++ zs) b.1 ∙ sym (append_assoc c.0 b.0 f) in
    let s : a.0 ≡ c.0 ++ b.0 = append_cancel_right a.0 (c.0 ++ b.0) f q in
    (c.0, c.1, all_front (λ (z : Place). z.level ≡ level) c.0 b.0 (subst (All (λ (z : Place). z.level ≡ level)) s a.2))

pub ready_settled : (g : Log) (w : List Attached) (f f' : List Place) (n : ℕ) (t t' : Trace) → IsReady g w f n t → Grows w t.level t.entries t'.entries → t'.level ≡ t.level → t'.vars ≡ t.vars → Extends f f' → Extends f' (places_of t'.entries) → IsReady g w f' n t'
ready_settled g w f f' n t t' r q l v a b =
    record {
      log = r.log;
      attached = r.attached;
      stand = r.stand;
      vars = r.vars;
      trail_vars = v ∙ r.trail_vars;
      justified = grows_justified w t.level t.entries t'.entries q r.justified;
      followed = subst (λ (k : ℕ). ExtendsAt k f' (places_of t'.entries)) (sym l) (between t.level f f' (places_of t'.entries) (extends_at w t.level f t.entries t'.entries q r.followed) a b);
      below = λ k lt. (let h : k < t.level = omega arith in subst (IsComplete w) (sym (grows_low w t.level k t.entries t'.entries q h)) (r.below k h));
    }

pub ready_opened : (g : Log) (w : List Attached) (f : List Place) (n : ℕ) (t : Trace) (l : Lit) → IsReady g w f n t → IsComplete w t.entries → f ≡ places_of t.entries → IsStacked t.level t.entries →
    IsReady g w f n (record { vars = t.vars; level = t.level + 1; entries = record { lit = l; level = t.level + 1; reason = None } ∷ t.entries })
ready_opened g w f n t l r c q s =
    let e : Entry = record { lit = l; level = t.level + 1; reason = None } in
    let p : Place = record { lit = l; level = t.level + 1 } in
    record {
      log = r.log;
      attached = r.attached;
      stand = r.stand;
      vars = r.vars;
      trail_vars = r.trail_vars;
      justified = (tt, r.justified);
      followed = (p ∷ [], ap (λ (zs : List Place). p ∷ zs) (sym q), all_cons (λ (z : Place). z.level ≡ t.level + 1) p [] refl (λ k d lt. absurd (omega arith)));
      below = λ k lt. (let u : nat_le (t.level + 1) k ≡ false = grind arith in
          let st : upto k (e ∷ t.entries) ≡ upto k t.entries = rw u refl in
          elim (cases_lt k t.level) [
            | inl h ↦ subst (IsComplete w) (sym st) (r.below k h)
            | inr h ↦ (let m : t.level ≡ k = omega arith in subst (IsComplete w) (sym (st ∙ upto_whole k t.entries (subst (λ (v : ℕ). IsStacked v t.entries) m s))) c)
          ]);
    }

justified_upto : (w : List Attached) (k : ℕ) (es : List Entry) → IsJustified w es → IsJustified w (upto k es)
justified_upto w k [] j = tt
justified_upto w k (e ∷ es) j =
    elim (cases_lt k e.level) [
      | inl h ↦ (let u : nat_le e.level k ≡ false = grind arith in rw u (justified_upto w k es j.1))
      | inr h ↦ (let u : nat_le e.level k ≡ true = grind arith in rw u j)
    ]

-- what undoing asks for
undo_newer : (level k : ℕ) (newer f : List Place) (es : List Entry) → places_of es ≡ newer ++ f → All (λ (p : Place). p.level ≡ level) newer → k < level → Extends (places_of (upto k es)) f
undo_newer level k [] f es q a h = subst (Extends (places_of (upto k es))) q (upto_extends k es)
undo_newer level k (p ∷ ps) f [] q a h = absurd (cc)
undo_newer level k (p ∷ ps) f (e ∷ es) q a h =
    let first : (let x : Place = record { lit = e.lit; level = e.level } in x ≡ p) = cc in
    let rest : places_of es ≡ ps ++ f = cc in
    let lv : e.level ≡ level = ap (λ (x : Place). x.level) first ∙ a 0 p (omega arith) in
    let t : nat_le e.level k ≡ false = grind arith in
    rw t (undo_newer level k ps f es rest (λ i d lt. a (suc i) d (omega arith)) h)

pub undo_extends : (level k : ℕ) (f : List Place) (es : List Entry) → ExtendsAt level f (places_of es) → k < level → Extends (places_of (upto k es)) f
undo_extends level k f es x h = undo_newer level k x.0 f es x.1 x.2 h

-- the shorter of two lists of which the first is a part of the second
pub shorter_first : (ps qs : List Place) → Extends ps qs → shorter ps qs ≡ ps
shorter_first ps qs x =
    elim (cases_lt (length ps) (length qs)) [
      | inl h ↦ (let t : nat_lt (length ps) (length qs) ≡ true = grind arith in rw t refl)
      | inr h ↦ (let t : nat_lt (length ps) (length qs) ≡ false = grind arith in rw t (same x.0 ps qs x.1 h))
    ]
  where
    same : (newer ps qs : List Place) → qs ≡ newer ++ ps → length qs ≤ length ps → qs ≡ ps
    same [] ps qs e h = e
    same (n ∷ ns) ps qs e h = absurd (omega (arith, ap (λ (zs : List Place). length zs) e, length-append ns ps, h))

pub ready_back : (g : Log) (w : List Attached) (f : List Place) (n : ℕ) (t : Trace) (k : ℕ) → IsReady g w f n t → k < t.level → IsReady g w (places_of (upto k t.entries)) n (record { vars = t.vars; level = k; entries = upto k t.entries })
ready_back g w f n t k r h =
    record {
      log = r.log;
      attached = r.attached;
      stand = r.stand;
      vars = r.vars;
      trail_vars = r.trail_vars;
      justified = justified_upto w k t.entries r.justified;
      followed = ([], refl, λ j d lt. absurd (omega arith));
      below = λ j lt. (let m : j ≤ k = omega arith in subst (IsComplete w) (sym (upto_upto j k t.entries m)) (r.below j (omega arith)));
    }

pub known_push : (g : Log) (s : Step) → known_of (record g { steps = g.steps ++ s ∷ [] }) ≡ known_of g ++ s.clause ∷ []
known_push g s = known_front g (record g { steps = g.steps ++ s ∷ [] }) (s ∷ []) refl refl

pub stand_more : (g : Log) (w : List Attached) (s : Step) → StandIn (known_of g) w → StandIn (known_of (record g { steps = g.steps ++ s ∷ [] })) w
stand_more g w s st k d lt = subst (λ (zs : List (List Lit)). slice_get zs (get_or w k d).number ≡ Some (get_or w k d).clause) (sym (known_push g s)) (get_front (known_of g) (s.clause ∷ []) (get_or w k d).number (get_or w k d).clause (st k d lt))

pub push_get : (g : Log) (s : Step) → slice_get (known_of (record g { steps = g.steps ++ s ∷ [] })) (length (known_of g)) ≡ Some s.clause
push_get g s = subst (λ (zs : List (List Lit)). slice_get zs (length (known_of g)) ≡ Some s.clause) (sym (known_push g s)) (get_seam (known_of g) s.clause)

fit_push : (V : ℕ) (ss : List Step) (s : Step) → AllFit V ss → ((is_learned s.kind) ≡ true → IsFit V s.clause) → AllFit V (ss ++ s ∷ [])
fit_push V [] s a f = (f, tt)
fit_push V (x ∷ xs) s a f = (a.0, fit_push V xs s a.1 f)

pub log_more : (g : Log) (s : Step) → IsLog g → Follows (known_of g) s → ((is_learned s.kind) ≡ true → AllByRecursion (λ c. Includes s.clause c → ⊥) (g.main ++ learned_of g.steps)) → ((is_learned s.kind) ≡ true → IsFit g.vars s.clause) → IsLog (record g { steps = g.steps ++ s ∷ [] })
log_more g s l f n t = record { sound = sound_push g.main g.steps s l.sound f; new = new_push g.main g.steps s l.new n; fit = fit_push g.vars g.steps s l.fit t }

-- a step that is not learned
learned_same : (steps : List Step) (s : Step) → (is_learned s.kind) ≡ false → learned_of (steps ++ s ∷ []) ≡ learned_of steps
learned_same [] s t = rw t refl
learned_same (x ∷ xs) s t = elim (is_learned x.kind) as (λ b. cond b (x.clause ∷ learned_of (xs ++ s ∷ [])) (learned_of (xs ++ s ∷ [])) ≡ cond b (x.clause ∷ learned_of xs) (learned_of xs)) [ true ↦ ap (λ (ds : List (List Lit)). x.clause ∷ ds) (learned_same xs s t) | false ↦ learned_same xs s t ]

pub ready_claimed : (g : Log) (w : List Attached) (f : List Place) (n : ℕ) (t : Trace) (s : Step) → IsReady g w f n t → (is_learned s.kind) ≡ false → Follows (known_of g) s → IsReady (record g { steps = g.steps ++ s ∷ [] }) w f n t
ready_claimed g w f n t s r u fl =
    record {
      log = log_more g s r.log fl (λ e. absurd (false≢true (sym u ∙ e))) (λ e. absurd (false≢true (sym u ∙ e)));
      attached = subst (λ (zs : List (List Lit)). AreAttached w (g.main ++ zs)) (sym (learned_same g.steps s u)) r.attached;
      stand = stand_more g w s r.stand;
      vars = r.vars;
      trail_vars = r.trail_vars;
      justified = r.justified;
      followed = r.followed;
      below = r.below;
    }

-- what holds of each attached clause
all_map : (P : List Lit → Type 0) (w : List Attached) → All (λ (a : Attached). P a.clause) w → All P (map (λ (a : Attached). a.clause) w)
all_map P [] h k d lt = absurd (omega arith)
all_map P (a ∷ w) h zero d lt = h 0 a (omega arith)
all_map P (a ∷ w) h (suc k) d lt = all_map P w (λ j e l. h (suc j) e (omega arith)) k d (omega arith)

pub attached_all : (P : List Lit → Type 0) (w : List Attached) (cs : List (List Lit)) → All (λ (a : Attached). P a.clause) w → AreAttached w cs → AllByRecursion P cs
attached_all P w [] h a = tt
attached_all P w (c ∷ cs) h a = (contains_all P (map (λ (x : Attached). x.clause) w) c (all_map P w h) a.0, attached_all P w cs h a.1)

-- no clause that left two open is in one that leaves one open
pub is_new : (g : Log) (w : List Attached) (f : List Place) (n : ℕ) (t : Trace) (low : List Entry) (c : List Lit) → IsReady g w f n t → IsComplete w low → AllByRecursion Ascends (known_of g) → room_of low c ≡ 1 → AllByRecursion (λ d. Includes c d → ⊥) (g.main ++ learned_of g.steps)
is_new g w f n t low c r comp asc one =
    attached_all (λ d. Includes c d → ⊥) w (g.main ++ learned_of g.steps) (λ k d lt i. (let a : Ascends (get_or w k d).clause = each_at Ascends (known_of g) (get_or w k d).number (get_or w k d).clause asc (r.stand k d lt) in
    omega (arith, room_le low (get_or w k d).clause c a i, one, comp k d lt))) r.attached

pub attached_push : (w : List Attached) (a : Attached) → map (λ (x : Attached). x.clause) (w ++ a ∷ []) ≡ map (λ (x : Attached). x.clause) w ++ a.clause ∷ []
attached_push [] a = refl
attached_push (x ∷ w) a = ap (λ (zs : List (List Lit)). x.clause ∷ zs) (attached_push w a)

contains_more : {A : Type 0} (w v : List A) (a : A) → Contains w a → Contains (w ++ v) a
contains_more [] v a h = absurd (omega (arith, h.1))
contains_more (x ∷ w) v a h = go h.0 h.1 h.2 (λ i lt e. contains_more w v a (i, lt, e))
  where
    go : (i : ℕ) → i < length (x ∷ w) → get_or (x ∷ w) i a ≡ a → ((j : ℕ) → j < length w → get_or w j a ≡ a → Contains (w ++ v) a) → Contains ((x ∷ w) ++ v) a
    go zero lt e k = (0, omega arith, e)
    go (suc i) lt e k = let r = k i (omega arith) e in (suc r.0, omega (arith, r.1), r.2)

pub contains_last : {A : Type 0} (xs : List A) (x : A) → Contains (xs ++ x ∷ []) x
contains_last [] x = (0, omega arith, refl)
contains_last (y ∷ ys) x = let r = contains_last ys x in (suc r.0, omega (arith, r.1), r.2)

-- clauses that are attached stay so when one more is
attached_more : (w : List Attached) (a : Attached) (cs : List (List Lit)) → AreAttached w cs → AreAttached (w ++ a ∷ []) cs
attached_more w a [] h = tt
attached_more w a (c ∷ cs) h =
    (subst (λ (zs : List (List Lit)). Contains zs c) (sym (attached_push w a)) (contains_more (map (λ (x : Attached). x.clause) w) (a.clause ∷ []) c h.0), attached_more w a cs h.1)

attached_last : (w : List Attached) (a : Attached) → AreAttached (w ++ a ∷ []) (a.clause ∷ [])
attached_last w a = (subst (λ (zs : List (List Lit)). Contains zs a.clause) (sym (attached_push w a)) (contains_last (map (λ (x : Attached). x.clause) w) a.clause), tt)

-- the main clauses, at the beginning
pub attached_main : (w : List Attached) (cs : List (List Lit)) → map (λ (a : Attached). a.clause) w ≡ cs → AreAttached w cs
attached_main w cs e = each_of_index (λ (c : List Lit). Contains (map (λ (a : Attached). a.clause) w) c) cs (subst (λ (zs : List (List Lit)). All (λ (c : List Lit). Contains zs c) cs) (sym e) (λ k d lt. (k, lt, get_or_default cs k (get_or cs k d) d lt)))

reason_more : (w v : List Attached) (es : List Entry) (l : Lit) (o : Option ℕ) → IsReason w es l o → IsReason (w ++ v) es l o
reason_more w v es l None j = tt
reason_more w v es l (Some n) j = (j.0, contains_more w v (record { number = n; clause = j.0 }) j.1, j.2, j.3)

justified_more : (w v : List Attached) (es : List Entry) → IsJustified w es → IsJustified (w ++ v) es
justified_more w v [] j = tt
justified_more w v (e ∷ es) j = (reason_more w v es e.lit e.reason j.0, justified_more w v es j.1)

pub ready_learned : (g : Log) (w : List Attached) (f : List Place) (n : ℕ) (t : Trace) (s : Step) → IsReady g w f n t → (is_learned s.kind) ≡ true → IsLog (record g { steps = g.steps ++ s ∷ [] }) → ((k : ℕ) → k < t.level → 2 ≤ room_of (upto k t.entries) s.clause) →
    IsReady (record g { steps = g.steps ++ s ∷ [] }) (w ++ record { number = length (known_of g); clause = s.clause } ∷ []) f n t
ready_learned g w f n t s r u lg room =
    let a : Attached = record { number = length (known_of g); clause = s.clause } in
    let g' : Log = record g { steps = g.steps ++ s ∷ [] } in
    record {
      log = lg;
      attached = subst (AreAttached (w ++ a ∷ [])) (append_assoc g.main (learned_of g.steps) (s.clause ∷ []) ∙ ap (λ (zs : List (List Lit)). g.main ++ zs) (sym (learned_push g.steps s u)))
          (each_append (λ (c : List Lit). Contains (map (λ (x : Attached). x.clause) (w ++ a ∷ [])) c) (g.main ++ learned_of g.steps) (s.clause ∷ []) (attached_more w a (g.main ++ learned_of g.steps) r.attached) (attached_last w a));
      stand = All-push (λ (x : Attached). slice_get (known_of g') x.number ≡ Some x.clause) w a (stand_more g w s r.stand) (push_get g s);
      vars = r.vars;
      trail_vars = r.trail_vars;
      justified = justified_more w (a ∷ []) t.entries r.justified;
      followed = r.followed;
      below = λ k lt. All-push (λ (x : Attached). 2 ≤ room_of (upto k t.entries) x.clause) w a (r.below k lt) (room k lt);
    }

-- one more known clause is attached where there are no decisions
pub ready_watched : (g : Log) (w w' : List Attached) (f : List Place) (n : ℕ) (t : Trace) (a : Attached) → IsReady g w f n t → t.level ≡ 0 → StandIn (known_of g) w' → w' ≡ w ++ a ∷ [] → IsReady g w' f n t
ready_watched g w w' f n t a r z st e =
    record {
      log = r.log;
      attached = subst (λ (v : List Attached). AreAttached v (g.main ++ learned_of g.steps)) (sym e) (attached_more w a (g.main ++ learned_of g.steps) r.attached);
      stand = st;
      vars = r.vars;
      trail_vars = r.trail_vars;
      justified = subst (λ (v : List Attached). IsJustified v t.entries) (sym e) (justified_more w (a ∷ []) t.entries r.justified);
      followed = r.followed;
      below = λ k lt. absurd (omega (arith, z));
    }

-- decisions
pub decides_grows : (w : List Attached) (asked : List Lit) (k level : ℕ) (es fs : List Entry) → Grows w level es fs → DecidesOnly asked k es → DecidesOnly asked k fs
decides_grows w asked k level es _ (Same fs) d = d
decides_grows w asked k level es _ (More fs gs n c l q at i) d = ((λ h. absurd (cc)), decides_grows w asked k level es gs q d)

pub decides_upto : (asked : List Lit) (k j : ℕ) (es : List Entry) → DecidesOnly asked k es → DecidesOnly asked k (upto j es)
decides_upto asked k j [] d = tt
decides_upto asked k j (e ∷ es) d =
    elim (cases_lt j e.level) [
      | inl h ↦ (let u : nat_le e.level j ≡ false = grind arith in rw u (decides_upto asked k j es d.1))
      | inr h ↦ (let u : nat_le e.level j ≡ true = grind arith in rw u d)
    ]

pub decides_less : (asked : List Lit) (j k : ℕ) (es : List Entry) → j ≤ k → DecidesOnly asked k es → DecidesOnly asked j es
decides_less asked j k [] h d = tt
decides_less asked j k (e ∷ es) h d = ((λ r l. d.0 r (omega arith)), decides_less asked j k es h d.1)

pub ready_same : (g g' : Log) (w w' : List Attached) (f f' : List Place) (n n' : ℕ) (t t' : Trace) → IsReady g w f n t → g ≡ g' → w ≡ w' → f ≡ f' → n ≡ n' → t ≡ t' → IsReady g' w' f' n' t'
ready_same g g' w w' f f' n n' t t' r a b c d e =
    subst (λ (x : Trace). IsReady g' w' f' n' x) e (subst (λ (x : ℕ). IsReady g' w' f' x t) d (subst (λ (x : List Place). IsReady g' w' x n t) c (subst (λ (x : List Attached). IsReady g' x f n t) b (subst (λ (x : Log). IsReady x w f n t) a r))))

-- what a learned clause leaves open below the level that is gone back to
pub back_two : (t t' : Trace) (b : ℕ) (c d : List Lit) → (let u : Trace = record { vars = t.vars; level = b; entries = upto b t.entries } in t' ≡ u) → c ≡ d → room_of (upto (t.level - 1) t.entries) d ≡ 1 →
    ((k : ℕ) → k < b → room_of (upto (t.level - 1) t.entries) c + 1 ≤ room_of (upto k t.entries) c) → (k : ℕ) → k < t'.level → 2 ≤ room_of (upto k t'.entries) d
back_two t t' b c d e q one room k lt =
    let kb : k < b = subst (λ (x : Trace). k < x.level) e lt in
    let le : k ≤ b = omega arith in
    let h = subst (λ (x : List Lit). room_of (upto (t.level - 1) t.entries) x + 1 ≤ room_of (upto k t.entries) x) q (room k kb) in
    let es : upto k t'.entries ≡ upto k t.entries = ap (λ (x : Trace). upto k x.entries) e ∙ upto_upto k b t.entries le in
    subst (λ (zs : List Entry). 2 ≤ room_of zs d) (sym es) (omega (arith, h, one))
