-- Lemmas on watches at seats.
use Rattle.std.proofs.Common.{◌≡◌, ◌≢◌, ℕ, ◌<◌, ◌≤◌, ◌%◌, List, [], ◌∷◌, ◌++◌, length, map, refl, ap, sym, ◌∙◌, subst, arith, get_or, get_or-set_other, get_or-set_same, inl, inr}
use Rattle.std.proofs.Math.ListN.{set, length-set, get_or-eq_default, take}
use Rattle.std.proofs.lemmas.Bool.{cases_eq}
use Rattle.std.proofs.lemmas.List.{ext_get_or, get_or-map, length-map, get_or_default, set-get_or, map-set}
use Rattle.std.specs.Prelude.{Contains}
use Rattle.clause_store.specs.declared.lit.Lit.{Lit}
use Rattle.watch_lists.specs.Chains.{Chain, AreChains, list_at, IsApart}
use Rattle.watch_lists.proofs.Linked.{push_chains, Chain-set}
use Rattle.watch_lists.proofs.Walks.{mate_mate}
use Rattle.watch_lists.specs.declared.lists.Watch.{Watch}
use Rattle.watch_lists.specs.Watches.{mate, lit_of, lit_at, IsFit}
use Rattle.watch_lists.specs.Seats.{Seated, slot_at, no_watch, heads_of, next_of, others_of, AreSeats, AreNone, AreSeated, IsSized}

pub transport : (P : List ℕ → List ℕ → ℕ → Type 0) {h h' n n' : List ℕ} {k k' : ℕ} → h ≡ h' →
    n ≡ n' → k ≡ k' → P h n k → P h' n' k'
transport P {h} {h'} {n} {n'} {k} {k'} a b e p = subst (P h' n') e
    (subst (λ (ns : List ℕ). P h' ns k) b (subst (λ (hs : List ℕ). P hs n k) a p))

pub slot_in : (slots : List ℕ) (seat : ℕ) → seat < length slots →
    slot_at slots seat ≡ get_or slots seat 0
slot_in slots seat h = get_or_default slots seat 4294967295 0 h

pub slot_out : (slots : List ℕ) (seat : ℕ) → length slots ≤ seat → slot_at slots seat ≡ 4294967295
slot_out slots seat h = get_or-eq_default slots 4294967295 h

-- what is read of a watch by its slot
pub read_row : (f : Watch → ℕ) (seats slots : List ℕ) (row : List Watch) (seat : ℕ) →
    AreSeats seats slots → seat < length seats →
    get_or (map (λ k. f (get_or row k no_watch)) seats) (slot_at slots seat) 0 ≡
    f (get_or row seat no_watch)
read_row f seats slots row seat h lt =
    let e = slot_in slots seat (omega (arith, lt, h.room)) in
    ap (λ (j : ℕ). get_or (map (λ k. f (get_or row k no_watch)) seats) j 0) e ∙
    get_or-map (λ k. f (get_or row k no_watch)) seats (get_or slots seat 0) 0 0
    (h.slots_within seat lt) ∙ ap (λ (k : ℕ). f (get_or row k no_watch)) (h.back seat lt)

-- a change at a seat is one of its watch
pub set_row : (f : Watch → ℕ) (seats slots : List ℕ) (row : List Watch) (seat : ℕ) (w : Watch) →
    AreSeats seats slots → length row ≡ length seats → seat < length seats →
    map (λ k. f (get_or (set row seat w) k no_watch)) seats ≡
    set (map (λ k. f (get_or row k no_watch)) seats) (slot_at slots seat) (f w)
set_row f seats slots row seat w h lr lt =
    let old = map (λ k. f (get_or row k no_watch)) seats in
    let new = map (λ k. f (get_or (set row seat w) k no_watch)) seats in
    let lo : length old ≡ length seats = length-map seats (λ k. f (get_or row k no_watch)) in
    let ln : length new ≡ length seats =
    length-map seats (λ k. f (get_or (set row seat w) k no_watch)) in
    let slot = slot_at slots seat in
    let e = slot_in slots seat (omega (arith, lt, h.room)) in
    let ls : slot < length seats = omega (arith, e, h.slots_within seat lt) in
    ext_get_or 0 new (set old slot (f w)) (ln ∙ sym lo ∙ sym (length-set old slot (f w)))
    (λ s l. let m : s < length seats = omega (arith, l, ln) in
    let a = get_or-map (λ k. f (get_or (set row seat w) k no_watch)) seats s 0 0 m in
    elim (cases_eq s slot) [
      | inl q ↦ (let b : get_or seats s 0 ≡ seat = ap (λ (j : ℕ). get_or seats j 0) (q ∙ e) ∙
          h.back seat lt in
          a ∙ ap (λ (k : ℕ). f (get_or (set row seat w) k no_watch)) b ∙
          ap f (get_or-set_same row seat w no_watch (omega (arith, lt, lr))) ∙
          sym (ap (λ (j : ℕ). get_or (set old slot (f w)) j 0) q ∙
          get_or-set_same old slot (f w) 0 (omega (arith, ls, lo))))
      | inr n ↦ (let b : get_or seats s 0 ≢ seat = λ q. n (sym (h.there s m) ∙
          ap (λ (k : ℕ). get_or slots k 0) q ∙ sym e) in
          a ∙ ap f (get_or-set_other row seat (get_or seats s 0) w no_watch b) ∙
          sym (get_or-set_other old slot s (f w) 0 n ∙
          get_or-map (λ k. f (get_or row k no_watch)) seats s 0 0 m))
    ])

-- what a change at a seat leaves as it was
pub same_row : (f : Watch → ℕ) (seats slots : List ℕ) (row : List Watch) (seat : ℕ) (w : Watch) →
    AreSeats seats slots → length row ≡ length seats → seat < length seats →
    f w ≡ f (get_or row seat no_watch) →
    map (λ k. f (get_or (set row seat w) k no_watch)) seats ≡
    map (λ k. f (get_or row k no_watch)) seats
same_row f seats slots row seat w h lr lt e =
    let old = map (λ k. f (get_or row k no_watch)) seats in
    set_row f seats slots row seat w h lr lt ∙
    ap (set old (slot_at slots seat)) (e ∙ sym (read_row f seats slots row seat h lt)) ∙
    set-get_or old (slot_at slots seat) 0

-- the seats have as many places as there are watches
pub next_room : (seats slots : List ℕ) (row : List Watch) (next : List ℕ) →
    next_of slots seats row ≡ next → length next ≡ length seats
next_room seats slots row next e = ap {B = ℕ} (λ (xs : List ℕ). length xs) (sym e) ∙
    length-map seats (λ k. slot_at slots (get_or row k no_watch).next)

-- the other literal that stands at a seat is that of the mate
pub other_is : (seats slots : List ℕ) (row : List Watch) (seat : ℕ) → AreSeats seats slots →
    seat < length seats →
    lit_of (get_or row seat no_watch).other ≡
    lit_at (others_of seats row) (mate (slot_at slots seat))
other_is seats slots row seat h lt =
    ap lit_of (sym (read_row (λ w. w.other) seats slots row seat h lt)) ∙
    ap (λ (j : ℕ). lit_of (get_or (others_of seats row) j 0))
    (sym (mate_mate (slot_at slots seat)))

-- a watch is put in front of a list by its seat
push_next : (heads : List ℕ) (row : List Watch) (seats slots : List ℕ) (at seat : ℕ)
    (w : Watch) → AreSeated heads row seats slots → at < length heads → seat < length seats →
    w.next ≡ get_or heads at 0 →
    next_of slots seats (set row seat w) ≡ set (next_of slots seats row) (slot_at slots seat)
    (get_or (heads_of slots heads) at 0)
push_next heads row seats slots at seat w h la ls e =
    set_row (λ w. slot_at slots w.next) seats slots row seat w h.seats_are h.room ls ∙
    ap (set (next_of slots seats row) (slot_at slots seat)) (ap (slot_at slots) e ∙
    sym (get_or-map (slot_at slots) heads at 0 0 la))

pub slot_lt : (slots seats : List ℕ) (seat : ℕ) → AreSeats seats slots → seat < length seats →
    slot_at slots seat < length seats
slot_lt slots seats seat h lt =
    let e = slot_in slots seat (omega (arith, lt, h.room)) in
    let b = h.slots_within seat lt in omega (arith, e, b)

pub push_seat : (heads : List ℕ) (row : List Watch) (seats slots : List ℕ) (at seat : ℕ)
    (w : Watch) (lists : List (List ℕ)) → AreSeated heads row seats slots → at < length heads →
    seat < length seats → w.next ≡ get_or heads at 0 →
    AreChains (heads_of slots heads) (next_of slots seats row) lists →
    IsApart (slot_at slots seat) lists →
    AreChains (heads_of slots (set heads at seat)) (next_of slots seats (set row seat w))
    (set lists at (slot_at slots seat ∷ list_at lists at))
push_seat heads row seats slots at seat w lists h la ls e c a =
    let slot = slot_at slots seat in
    let lh : at < length (heads_of slots heads) = omega (
      arith,
      la,
      length-map heads (slot_at slots),
    ) in
    let ln : slot < length (next_of slots seats row) = omega (
      arith,
      slot_lt slots seats seat h.seats_are ls,
      next_room seats slots row (next_of slots seats row)
          refl,
    ) in
    subst (λ (hs : List ℕ). AreChains hs (next_of slots seats (set row seat w))
    (set lists at (slot ∷ list_at lists at))) (sym (map-set (slot_at slots) heads at seat))
    (subst (λ (ns : List ℕ). AreChains (set (heads_of slots heads) at slot) ns
    (set lists at (slot ∷ list_at lists at)))
    (sym (push_next heads row seats slots at seat w h la ls e))
    (push_chains (heads_of slots heads) (next_of slots seats row) lists at slot lh ln c a))

pub loose_seat : (heads : List ℕ) (row : List Watch) (seats slots : List ℕ) (at seat : ℕ)
    (w : Watch) (first : ℕ) (xs : List ℕ) → AreSeated heads row seats slots → at < length heads →
    seat < length seats → w.next ≡ get_or heads at 0 → Chain (next_of slots seats row) first xs →
    (Contains xs (slot_at slots seat) → ⊥) →
    Chain (next_of slots seats (set row seat w)) first xs
loose_seat heads row seats slots at seat w first xs h la ls e c a =
    subst (λ (ns : List ℕ). Chain ns first xs)
    (sym (push_next heads row seats slots at seat w h la ls e))
    (Chain-set (next_of slots seats row) first xs (slot_at slots seat)
    (get_or (heads_of slots heads) at 0) a c)

pub sized_on : (a b c : Seated) → IsSized a b → IsSized b c → IsSized a c
sized_on a b c h k = record {
  heads = k.heads ∙ h.heads;
  next = k.next ∙ h.next;
  watched = k.watched ∙ h.watched;
}

pub sized_same : (a : Seated) → IsSized a a
sized_same a = record {
  heads = refl;
  next = refl;
  watched = refl;
}

pub mate_lt : (s n : ℕ) → n % 2 ≡ 0 → s < n → mate s < n
mate_lt s n e h = omega arith

mate_other : (s t : ℕ) → (t ≡ s → ⊥) → mate t ≡ mate s → ⊥
mate_other s t n e = n (sym (mate_mate t) ∙ ap mate e ∙ mate_mate s)

-- the seat of the other watch of a seat's clause
pub mate_seat : (seats slots : List ℕ) (seat : ℕ) → AreSeats seats slots →
    length seats % 2 ≡ 0 → seat < length seats →
    (get_or seats (mate (slot_at slots seat)) 0 < length seats)
    × (slot_at slots (get_or seats (mate (slot_at slots seat)) 0) ≡ mate (slot_at slots seat))
mate_seat seats slots seat h even lt =
    let m = mate_lt (slot_at slots seat) (length seats) even (slot_lt slots seats seat h lt) in
    let b = h.seats_within (mate (slot_at slots seat)) m in (
      b,
      slot_in slots (get_or seats (mate (slot_at slots seat)) 0) (omega (arith, b, h.room)) ∙
          h.there (mate (slot_at slots seat)) m,
    )

-- a watch gets another literal, which stands at the seat of its mate
pub changed_is : (seats slots : List ℕ) (row : List Watch) (seat : ℕ) (w : Watch) (l : Lit) →
    AreSeats seats slots → length row ≡ length seats → length seats % 2 ≡ 0 →
    seat < length seats → lit_of w.other ≡ l →
    lit_at (others_of seats (set row (get_or seats (mate (slot_at slots seat)) 0) w))
    (slot_at slots seat) ≡ l
changed_is seats slots row seat w l h room even lt e =
    let m = mate_seat seats slots seat h even lt in
    let s = slot_at slots seat in
    let lm = mate_lt s (length seats) even (slot_lt slots seats seat h lt) in
    let lo : mate s < length (others_of seats row) = omega (
      arith,
      lm,
      length-map seats (λ k. (get_or row k no_watch).other),
    ) in
    ap (λ (xs : List ℕ). lit_of (get_or xs (mate s) 0))
    (set_row (λ w. w.other) seats slots row (get_or seats (mate s) 0) w h room m.0) ∙
    ap (λ (j : ℕ). lit_of (get_or (set (others_of seats row) j w.other) (mate s) 0)) m.1 ∙
    ap lit_of (get_or-set_same (others_of seats row) (mate s) w.other 0 lo) ∙ e

pub changed_others : (seats slots : List ℕ) (row : List Watch) (seat : ℕ) (w : Watch) (t : ℕ) →
    AreSeats seats slots → length row ≡ length seats → length seats % 2 ≡ 0 →
    seat < length seats → (t ≡ slot_at slots seat → ⊥) →
    lit_at (others_of seats (set row (get_or seats (mate (slot_at slots seat)) 0) w)) t ≡
    lit_at (others_of seats row) t
changed_others seats slots row seat w t h room even lt n =
    let m = mate_seat seats slots seat h even lt in
    let s = slot_at slots seat in
    ap (λ (xs : List ℕ). lit_of (get_or xs (mate t) 0))
    (set_row (λ w. w.other) seats slots row (get_or seats (mate s) 0) w h room m.0) ∙
    ap (λ (j : ℕ). lit_of (get_or (set (others_of seats row) j w.other) (mate t) 0)) m.1 ∙
    ap lit_of (get_or-set_other (others_of seats row) (mate s) (mate t) w.other 0
    (mate_other s t n))

pub fits : (a b : Seated) (numbers : List ℕ) (looked vars : ℕ) → IsSized a b →
    IsFit a.heads a.next a.watched numbers looked vars →
    IsFit b.heads b.next b.watched numbers looked vars
fits a b numbers looked vars s f = record {
  all_heads = s.heads ∙ f.all_heads;
  all_next = s.next ∙ f.all_next;
  all_watched = s.watched ∙ f.all_watched;
  looked_part = f.looked_part;
}

-- lists that are empty by seats are empty
pub none_heads : (slots heads : List ℕ) → length slots ≤ 4294967295 → AreNone heads →
    AreNone (heads_of slots heads)
none_heads slots heads few h i lt =
    let l : i < length heads = omega (arith, lt, length-map heads (slot_at slots)) in
    get_or-map (slot_at slots) heads i 0 0 l ∙ ap (slot_at slots) (h i l) ∙
    slot_out slots 4294967295 few

take_seam : {X : Type 0} (new rest : List X) → take (length new) (new ++ rest) ≡ new
take_seam [] rest = refl
take_seam {X = X} (x ∷ new) rest = ap (λ (zs : List X). x ∷ zs) (take_seam new rest)

-- a row after all of it was lent
pub wrote : {X : Type 0} (n : ℕ) (new rest : List X) → length new ≡ n → new ≡ take n (new ++ rest)
wrote {X = X} n new rest e = sym (subst (λ (k : ℕ). take k (new ++ rest) ≡ new) e
    (take_seam new rest))
