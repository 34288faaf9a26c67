-- What the watches keep when literals are taken back, and where levels end.
use Rattle.std.proofs.Common.{◌≡◌, ◌≢◌, ℕ, ◌+◌, ◌-◌, ◌<◌, ◌≤◌, true, false, List, [], ◌∷◌, ◌++◌, length, refl, ap, sym, ◌∙◌, arith, get_or, zero, suc, inl, inr, subst, length-append, drop}
use Rattle.std.proofs.lemmas.List.{drop-append-le, length-replicate, get_or-replicate}
use Rattle.std.proofs.Common.{replicate, get_or-set_other, get_or-set_same}
use Rattle.std.proofs.Math.ListN.{set, length-set}
use Rattle.std.proofs.lemmas.Bool.{cases_lt}
use Rattle.std.specs.Prelude.{◌⊎◌, nat_le, All}
use Rattle.clause_store.specs.Clauses.{Clauses}
use Rattle.watch_lists.specs.declared.entry.Entry.{Entry}
use Rattle.watch_lists.specs.Trace.{Trace, IsTrace, IsStacked, upto, oldest, Place, places_of, Extends, ExtendsAt}
use Rattle.watch_lists.specs.Watches.{IsWatching, IsAtRest, IsBack, HasEnds}
use Rattle.watch_lists.proofs.Traces.{oldest_cons, stacked_upto}
use Rattle.watch_lists.proofs.Guards.{stacked_ordered, stacked_part, oldest_all, oldest_part, upto_all, IsOrdered}
use Rattle.watch_lists.proofs.Complete.{watching_undo}
use Rattle.watch_lists.proofs.Places.{upto_places, head_place, heads, top_le, oldest_prefix, upto_prefix, same_length, prefix_length, length_places}
use Rattle.watch_lists.proofs.Rests.{watching_places, watching_prefix}

places_drop : (n : ℕ) (es : List Entry) → places_of (drop n es) ≡ drop n (places_of es)
places_drop zero es = refl
places_drop (suc n) [] = refl
places_drop (suc n) (e ∷ es) = places_drop n es

-- what was worked off, where it has more than is left
cut_places : (newer : List Place) (head : ℕ) (f es : List Entry) →
    places_of f ≡ newer ++ places_of es → length es < head → (ns : List Place)
    × (places_of (oldest head f) ≡ ns ++ places_of es)
cut_places newer head f es h lt =
    let l = ap {B = ℕ} (λ (ps : List Place). length ps) h in
    let n : length f - head ≤ length newer = omega (
      arith,
      lt,
      l,
      length-append newer
          (places_of es),
      length_places f,
      length_places es,
    ) in (
      drop (length f - head) newer,
      places_drop (length f - head) f ∙ ap (drop (length f - head)) h ∙
          drop-append-le (length f - head) newer (places_of es) n,
    )

oldest_upto : (k : ℕ) (es : List Entry) → (length (upto k es) ≤ length es)
    × (oldest (length (upto k es)) es ≡ upto k es)
oldest_upto k [] = (omega arith, refl)
oldest_upto k (e ∷ es) =
    elim (cases_lt k e.level) [
      | inl lt ↦ (
          let t : nat_le e.level k ≡ false = grind arith in
          let u : upto k (e ∷ es) ≡ upto k es = rw t refl in
          let r = oldest_upto k es in
          let n = ap {B = ℕ} (λ (zs : List Entry). length zs) u in (
            omega (arith, n, r.0),
            ap (λ (m : ℕ). oldest m (e ∷ es)) n ∙
                oldest_cons (length (upto k es)) e es r.0 ∙ r.1 ∙ sym u,
          ))
      | inr ge ↦ (
          let t : nat_le e.level k ≡ true = grind arith in
          let u : upto k (e ∷ es) ≡ e ∷ es = rw t refl in
          let n = ap {B = ℕ} (λ (zs : List Entry). length zs) u in (
            omega (arith, n),
            oldest_all (length (upto k (e ∷ es))) (e ∷ es) (omega (arith, n)) ∙
                sym u,
          ))
    ]

upto_oldest : (k n : ℕ) (es : List Entry) → length (upto k es) ≤ n →
    upto k (oldest n es) ≡ upto k es
upto_oldest k n [] h = ap (upto k) (oldest_all n [] (omega arith))
upto_oldest k n (e ∷ es) h =
    elim (cases_lt n (length (e ∷ es))) [
      | inr ge ↦ ap (upto k) (oldest_all n (e ∷ es) ge)
      | inl l ↦ elim (cases_lt k e.level) [
        | inl lt ↦ (
            let t : nat_le e.level k ≡ false = grind arith in
            let u : upto k (e ∷ es) ≡ upto k es = rw t refl in
            let m = ap {B = ℕ} (λ (zs : List Entry). length zs) u in
            ap (upto k) (oldest_cons n e es (omega (arith, l))) ∙
            upto_oldest k n es (omega (arith, h, m)) ∙ sym u)
        | inr ge ↦ (
            let t : nat_le e.level k ≡ true = grind arith in
            let u : upto k (e ∷ es) ≡ e ∷ es = rw t refl in
            let m = ap {B = ℕ} (λ (zs : List Entry). length zs) u in
            absurd (omega (arith, h, m, l)))
      ]
    ]

-- the entries of lower levels are those of a prefix that has all of them
upto_below : (newer : List Place) (level k : ℕ) (es fs : List Entry) →
    places_of fs ≡ newer ++ places_of es → All (λ (p : Place). p.level ≡ level) newer → k < level →
    places_of (upto k fs) ≡ places_of (upto k es)
upto_below [] level k es fs h a lt = upto_places k fs es h
upto_below (p ∷ newer) level k es [] h a lt = absurd (cc)
upto_below (p ∷ newer) level k es (f ∷ fs) h a lt =
    let q = head_place f fs p (newer ++ places_of es) h in
    let l : p.level ≡ level = a 0 p (omega arith) in
    let t : nat_le f.level k ≡ false = grind (arith, q.0, l) in
    rw t (upto_below newer level k es fs q.1 (λ i d j. a (suc i) d (omega arith)) lt)

stacked_places : (a b : ℕ) (us fs : List Entry) → places_of us ≡ places_of fs → IsStacked a us →
    IsStacked b fs → a ≡ b
stacked_places a b [] [] h s t = s ∙ sym t
stacked_places a b [] (f ∷ fs) h s t = absurd (omega (arith, same_length [] (f ∷ fs) h))
stacked_places a b (u ∷ us) [] h s t = absurd (omega (arith, same_length (u ∷ us) [] h))
stacked_places a b (u ∷ us) (f ∷ fs) h s t = sym s.0 ∙ (heads u f us fs h).level ∙ t.0

-- the rows by level after all is worked off
pub ends_none : (ends : List ℕ) (n vars level : ℕ) (f t : Trace) → HasEnds ends f vars → IsTrace f →
    IsTrace t → t.level ≡ level → level ≤ vars → n ≡ length t.entries →
    ExtendsAt level (places_of f.entries) (places_of t.entries) → HasEnds (set ends level n) t vars
ends_none ends n vars level f t h fi ti tl le en x = record {
  room = length-set ends level n ∙ h.room;
  at = λ k lk. elim (cases_lt k level) [
    | inl lt ↦ (
        let p = upto_below x.0 level k f.entries t.entries x.1 x.2 lt in
        let kf : k ≤ f.level = elim (cases_lt f.level k) [
          | inl lo ↦ (
              let all = upto_all f.level k f.entries (stacked_ordered f.level f.entries fi.stacked)
              (omega arith) in
              let q : places_of (upto k t.entries) ≡ places_of f.entries = p ∙ ap places_of all in
              let e = stacked_places k f.level (upto k t.entries) f.entries q
              (stacked_upto t.level k t.entries ti.stacked lk) fi.stacked in omega (arith, e))
          | inr hi ↦ hi
        ] in
        let ne : k ≢ level = omega arith in
        get_or-set_other ends level k n 0 ne ∙ h.at k kf ∙
        sym (same_length (upto k t.entries) (upto k f.entries) p))
    | inr ge ↦ (
        let e : k ≡ level = omega (arith, lk, tl) in
        let b : level < length ends = omega (arith, h.room) in
        let one : get_or (set ends level n) level 0 ≡ n = rw get_or-set_same in
        let w : upto k t.entries ≡ t.entries = upto_all t.level k t.entries
        (stacked_ordered t.level t.entries ti.stacked) (omega (arith, tl)) in
        ap (λ (j : ℕ). get_or (set ends level n) j 0) e ∙ one ∙ en ∙
        sym (ap {B = ℕ} (λ (zs : List Entry). length zs) w))
  ];
}

-- the level of a prefix is no higher than that of the whole
prefix_level : (newer : List Place) (f t : Trace) → IsTrace f → IsTrace t →
    places_of f.entries ≡ newer ++ places_of t.entries → t.level ≤ f.level
prefix_level newer f t fi ti h = go t.entries h ti.stacked
  where
    go : (es : List Entry) → places_of f.entries ≡ newer ++ places_of es → IsStacked t.level es →
        t.level ≤ f.level
    go [] q s = omega (arith, s)
    go (e ∷ es) q s = top_le newer t.level f.level e es f.entries q s.0
        (stacked_ordered f.level f.entries fi.stacked)

-- the rows by level after literals are taken off
pub ends_undo : (ends : List ℕ) (n vars level done : ℕ) (f t : Trace) → HasEnds ends f vars →
    IsTrace f → IsTrace t → level ≡ t.level → level ≤ vars → n ≡ length t.entries →
    done ≡ length f.entries → length t.entries < done →
    Extends (places_of t.entries) (places_of f.entries) ⊎ Extends (places_of f.entries)
    (places_of t.entries) → HasEnds (set ends level n) t vars
ends_undo ends n vars level done f t h fi ti tl le en tied lt (inr x) =
    absurd (omega (arith, lt, tied, prefix_length x.0 f.entries t.entries x.1))
ends_undo ends n vars level done f t h fi ti tl le en tied lt (inl x) = record {
  room = length-set ends level n ∙ h.room;
  at = λ k lk. elim (cases_lt k level) [
    | inl l ↦ (
        let ne : k ≢ level = omega arith in
        let pl = prefix_level x.0 f t fi ti x.1 in
        get_or-set_other ends level k n 0 ne ∙ h.at k (omega (arith, lk, pl)) ∙
        lows k (omega (arith, l, tl)))
    | inr ge ↦ (
        let e : k ≡ level = omega (arith, lk, tl) in
        let b : level < length ends = omega (arith, h.room) in
        let one : get_or (set ends level n) level 0 ≡ n = rw get_or-set_same in
        let w : upto k t.entries ≡ t.entries = upto_all t.level k t.entries
        (stacked_ordered t.level t.entries ti.stacked) (omega (arith, tl)) in
        ap (λ (j : ℕ). get_or (set ends level n) j 0) e ∙ one ∙ en ∙
        sym (ap {B = ℕ} (λ (zs : List Entry). length zs) w))
  ];
}
  where
    go : (k : ℕ) (es : List Entry) → places_of f.entries ≡ x.0 ++ places_of es →
        IsStacked t.level es → k < t.level → length (upto k f.entries) ≡ length (upto k es)
    go k [] q s l = absurd (omega (arith, s, l))
    go k (e ∷ es) q s l = same_length (upto k f.entries) (upto k (e ∷ es))
        (upto_prefix x.0 t.level f.level k e es f.entries q s.0
        (stacked_ordered f.level f.entries fi.stacked) l)

    lows : (k : ℕ) → k < t.level → length (upto k f.entries) ≡ length (upto k t.entries)
    lows k l = go k t.entries x.1 ti.stacked l

pub ends_new : (ends : List ℕ) (vars : ℕ) (t : Trace) → ends ≡ replicate (vars + 1) 0 →
    t ≡ record { vars = 0; level = 0; entries = [] } → HasEnds ends t vars
ends_new ends vars t e et = record {
  room = ap {B = ℕ} (λ (xs : List ℕ). length xs) e ∙ length-replicate (vars + 1) 0;
  at = λ k le.
      let z : t.level ≡ 0 = ap (λ (x : Trace). x.level) et in
      ap (λ (xs : List ℕ). get_or xs k 0) e ∙ get_or-replicate (vars + 1) k 0 0
      (omega (arith, le, z)) ∙ sym (ap {B = ℕ} (λ (x : Trace). length (upto k x.entries)) et);
}

-- the trail ends where its level ended
whole_level : (newer : List Place) (ends : List ℕ) (vars end : ℕ) (f t : Trace) →
    HasEnds ends f vars → IsTrace f → IsTrace t → places_of f.entries ≡ newer ++ places_of
    t.entries → end ≡ get_or ends t.level 0 → end ≡ length t.entries →
    (length (upto t.level f.entries) ≡ length t.entries)
    × (places_of (upto t.level f.entries) ≡ places_of t.entries)
whole_level newer ends vars end f t h fi ti x ee el =
    let n : length (upto t.level f.entries) ≡ length t.entries =
    sym (h.at t.level (prefix_level newer f t fi ti x)) ∙ sym ee ∙ el in
    let o = oldest_upto t.level f.entries in
    let p = oldest_prefix newer (length t.entries) t.entries f.entries x (omega arith) in (
      n,
      sym (ap places_of (sym (ap (λ (m : ℕ). oldest m f.entries) n) ∙ o.1)) ∙ p ∙
          ap places_of (oldest_all (length t.entries) t.entries (omega arith)),
    )

pub finish_undo : (heads next : List ℕ) (watched : List ℕ) (numbers small : List ℕ)
    (looked head at done done' vars : ℕ) (known : Clauses) (f t : Trace) (ends : List ℕ) →
    IsAtRest heads next watched numbers small looked head done vars known f → IsTrace t →
    Extends (places_of t.entries) (places_of f.entries) ⊎ Extends (places_of f.entries)
    (places_of t.entries) → length t.entries < done → (end : ℕ) → IsBack t head end at →
    (end ≡ get_or ends t.level 0) → HasEnds ends f vars → done' ≡ length t.entries →
    IsAtRest heads next watched numbers small looked at done' vars known t
finish_undo heads next watched numbers small looked head at done done' vars known f t ends r tr
    (inr x) lt end b ee he tied = absurd (omega (
      arith,
      lt,
      r.tied,
      prefix_length x.0 f.entries
          t.entries x.1,
    ))
finish_undo heads next watched numbers small looked head at done done' vars known f t ends r tr
    (inl x) lt end (inl b) ee he tied =
    let q : places_of (oldest head f.entries) ≡ places_of (oldest at t.entries) =
    subst (λ (k : ℕ). places_of (oldest head f.entries) ≡ places_of (oldest k t.entries))
    (sym b.0) (oldest_prefix x.0 head t.entries f.entries x.1 b.1) in
    record {
      fit = r.fit;
      watching = watching_places heads next watched known.list numbers looked
          (oldest head f.entries) (oldest at t.entries) q r.watching;
      small_are = r.small_are;
      small_of = r.small_of;
      head_part = omega (arith, b.0, b.1, tied);
      tied = tied;
      trace = tr;
    }
finish_undo heads next watched numbers small looked head at done done' vars known f t ends r tr
    (inl x) lt end (inr (b, inr st)) ee he tied =
    let s = cut_places x.0 head f.entries t.entries x.1 b in
    let old = oldest_part head f.entries in
    let o = stacked_part f.level old.0 (oldest head f.entries)
    (subst (IsOrdered f.level) old.1 (stacked_ordered f.level f.entries r.trace.stacked)) in
    record {
      fit = r.fit;
      watching = watching_prefix heads next watched known.list numbers looked at s.0
          (oldest head f.entries) f.level t o tr s.1 r.watching st.below st.none;
      small_are = r.small_are;
      small_of = r.small_of;
      head_part = omega (arith, st.within, tied);
      tied = tied;
      trace = tr;
    }
finish_undo heads next watched numbers small looked head at done done' vars known f t ends r tr
    (inl x) lt end (inr (b, inl m)) ee he tied =
    let wl = whole_level x.0 ends vars end f t he r.trace tr x.1 ee m.0 in
    let u = upto_oldest t.level head f.entries (omega (arith, wl.0, b)) in
    let w = watching_undo heads next watched known.list numbers looked t.level
    (oldest head f.entries) r.watching in
    let w2 = subst (λ (zs : List Entry). IsWatching heads next watched known.list numbers looked zs
    zs) u w in
    let w3 = watching_places heads next watched known.list numbers looked (upto t.level f.entries)
    t.entries wl.1 w2 in
    let a = oldest_all at t.entries (omega (arith, m.1)) in
    record {
      fit = r.fit;
      watching = subst (λ (zs : List Entry). IsWatching heads next watched known.list numbers looked
          zs zs) (sym a) w3;
      small_are = r.small_are;
      small_of = r.small_of;
      head_part = omega (arith, m.1, tied);
      tied = tied;
      trace = tr;
    }
