-- Lemmas on rows that got two more watches.
use Rattle.std.proofs.Common.{◌≡◌, ℕ, ◌+◌, ◌<◌, List, [], ◌∷◌, ◌++◌, length, refl, ap, sym, ◌∙◌, subst, arith, get_or, zero, suc, inl, inr}
use Rattle.std.proofs.lemmas.Bool.{cases_eq, cases_lt}
use Rattle.std.proofs.lemmas.List.{ext_get_or, get_or-map, length-map, length-append}
use Rattle.std.specs.Prelude.{◌⊎◌}
use Rattle.watch_lists.specs.declared.lists.Watch.{Watch}
use Rattle.watch_lists.specs.Seats.{slot_at, no_watch, heads_of, next_of, others_of, IsLink, AreSeated, IsGrown}
use Rattle.watch_lists.proofs.Seats.{slot_out}

abbrev pub two : {X : Type 0} → List X → X → X → List X
two xs a b = (xs ++ a ∷ []) ++ b ∷ []

pub two_room : {X : Type 0} (xs : List X) (a b : X) → length (two xs a b) ≡ length xs + 2
two_room xs a b = omega (arith, length-append (xs ++ a ∷ []) (b ∷ []), length-append xs (a ∷ []))

two_old : {X : Type 0} (xs : List X) (a b : X) (i : ℕ) (d : X) → i < length xs →
    get_or (two xs a b) i d ≡ get_or xs i d
two_old [] a b i d h = absurd (omega (arith, h))
two_old (x ∷ xs) a b zero d h = refl
two_old (x ∷ xs) a b (suc i) d h = two_old xs a b i d (omega (arith, h))

two_first : {X : Type 0} (xs : List X) (a b d : X) → get_or (two xs a b) (length xs) d ≡ a
two_first [] a b d = refl
two_first (x ∷ xs) a b d = two_first xs a b d

two_second : {X : Type 0} (xs : List X) (a b d : X) → get_or (two xs a b) (suc (length xs)) d ≡ b
two_second [] a b d = refl
two_second (x ∷ xs) a b d = two_second xs a b d

-- a place of the longer row is an old one or one of the two new ones
place_case : (s n : ℕ) → s < n + 2 → (s < n) ⊎ ((s ≡ n) ⊎ (s ≡ suc n))
place_case s n h = elim (cases_lt s n) [
  | inl l ↦ inl l
  | inr g ↦ elim (cases_eq s n) [ inl e ↦ inr (inl e) | inr m ↦ inr (inr (omega (arith, g, m, h))) ]
]

two_at : (xs : List ℕ) (n s : ℕ) → length xs ≡ n → (s ≡ n) ⊎ (s ≡ suc n) →
    get_or (two xs n (n + 1)) s 0 ≡ s
two_at xs n s l (inl e) = ap (λ (k : ℕ). get_or (two xs n (n + 1)) k 0) (e ∙ sym l) ∙
    two_first xs n (n + 1) 0 ∙ sym e
two_at xs n s l (inr e) = ap (λ (k : ℕ). get_or (two xs n (n + 1)) k 0) (e ∙ sym (ap suc l)) ∙
    two_second xs n (n + 1) 0 ∙ omega (arith, e)

two_within : (xs : List ℕ) (n : ℕ) → length xs ≡ n →
    ((s : ℕ) → s < n → get_or xs s 0 < n) → (s : ℕ) → s < n + 2 →
    get_or (two xs n (n + 1)) s 0 < n + 2
two_within xs n l h s lt = elim (place_case s n lt) [
  | inl b ↦ (let e = two_old xs n (n + 1) s 0 (omega (arith, b, l)) in let f = h s b in
      omega (arith, e, f))
  | inr c ↦ (let e = two_at xs n s l c in omega (arith, e, lt))
]

two_there : (xs ys : List ℕ) (n : ℕ) → length xs ≡ n → length ys ≡ n →
    ((s : ℕ) → s < n → get_or xs s 0 < n) →
    ((s : ℕ) → s < n → get_or ys (get_or xs s 0) 0 ≡ s) → (s : ℕ) → s < n + 2 →
    get_or (two ys n (n + 1)) (get_or (two xs n (n + 1)) s 0) 0 ≡ s
two_there xs ys n lx ly w h s lt = elim (place_case s n lt) [
  | inl b ↦ (let e = two_old xs n (n + 1) s 0 (omega (arith, b, lx)) in let f = w s b in
      ap (λ (k : ℕ). get_or (two ys n (n + 1)) k 0) e ∙
      two_old ys n (n + 1) (get_or xs s 0) 0 (omega (arith, f, ly)) ∙ h s b)
  | inr c ↦ ap (λ (k : ℕ). get_or (two ys n (n + 1)) k 0) (two_at xs n s lx c) ∙ two_at ys n s ly c
]

pub grown_seats : (heads : List ℕ) (row : List Watch) (seats slots : List ℕ) (n : ℕ)
    (w : Watch) → AreSeated heads row seats slots → length seats ≡ n → n < 4294967293 →
    w.next ≡ 4294967295 →
    AreSeated heads (two row w w) (two seats n (n + 1)) (two slots n (n + 1))
grown_seats heads row seats slots n w h l few wn =
    let s = h.seats_are in
    let ls : length slots ≡ n = s.room ∙ l in
    let ra = two_room seats n (n + 1) in
    let rb = two_room slots n (n + 1) in
    let rr = two_room row w w in
    let more : (x : ℕ) → IsLink (length seats) x → IsLink (length (two seats n (n + 1))) x =
    λ x k. elim k [ inl e ↦ inl e | inr b ↦ inr (omega (arith, b, ra)) ] in
    record {
      seats_are = record {
        room = omega (arith, ra, rb, s.room);
        seats_within = λ k lt. let b = two_within seats n l
            (λ j m. let q = s.seats_within j (omega (arith, m, l)) in omega (arith, q, l)) k
            (omega (arith, lt, ra, l)) in omega (arith, b, ra, l);
        slots_within = λ k lt. let b = two_within slots n ls
            (λ j m. let q = s.slots_within j (omega (arith, m, l)) in omega (arith, q, l)) k
            (omega (arith, lt, ra, l)) in omega (arith, b, ra, l);
        there = λ k lt. two_there seats slots n l ls
            (λ j m. let q = s.seats_within j (omega (arith, m, l)) in omega (arith, q, l))
            (λ j m. s.there j (omega (arith, m, l))) k (omega (arith, lt, ra, l));
        back = λ k lt. two_there slots seats n ls l
            (λ j m. let q = s.slots_within j (omega (arith, m, l)) in omega (arith, q, l))
            (λ j m. s.back j (omega (arith, m, l))) k (omega (arith, lt, ra, l));
      };
      room = omega (arith, rr, ra, h.room);
      firsts = λ i lt. more (get_or heads i 0) (h.firsts i lt);
      nexts = λ i lt. elim (place_case i (length row) (omega (arith, lt, rr))) [
        | inl b ↦ subst (λ (v : Watch). IsLink (length (two seats n (n + 1))) v.next)
            (sym (two_old row w w i no_watch b)) (more (get_or row i no_watch).next (h.nexts i b))
        | inr c ↦ elim c [
          | inl e ↦ inl (ap (λ (k : ℕ). (get_or (two row w w) k no_watch).next) e ∙
              ap (λ (v : Watch). v.next) (two_first row w w no_watch) ∙ wn)
          | inr e ↦ inl (ap (λ (k : ℕ). (get_or (two row w w) k no_watch).next) e ∙
              ap (λ (v : Watch). v.next) (two_second row w w no_watch) ∙ wn)
        ]
      ];
      even = omega (arith, ra, h.even);
      few = omega (arith, ra, l, few);
    }

-- a link leads to the same watch
two_link : (slots : List ℕ) (a b x : ℕ) → length slots < 4294967293 → IsLink (length slots) x →
    slot_at (two slots a b) x ≡ slot_at slots x
two_link slots a b x few (inl e) =
    ap (slot_at (two slots a b)) e ∙
    slot_out (two slots a b) 4294967295 (omega (arith, few, two_room slots a b)) ∙
    sym (ap (slot_at slots) e ∙ slot_out slots 4294967295 (omega (arith, few)))
two_link slots a b x few (inr lt) = two_old slots a b x 4294967295 lt

pub grown_is : (heads : List ℕ) (row : List Watch) (seats slots : List ℕ) (n : ℕ) (w : Watch) →
    AreSeated heads row seats slots → length seats ≡ n → n < 4294967293 →
    IsGrown (record {
      heads = heads_of slots heads;
      next = next_of slots seats row;
      watched = others_of seats row;
      slots = slots;
    }) (record {
      heads = heads_of (two slots n (n + 1)) heads;
      next = next_of (two slots n (n + 1)) (two seats n (n + 1)) (two row w w);
      watched = others_of (two seats n (n + 1)) (two row w w);
      slots = two slots n (n + 1);
    })
grown_is heads row seats slots n w h l few =
    let s = h.seats_are in
    let slots' = two slots n (n + 1) in
    let seats' = two seats n (n + 1) in
    let row' = two row w w in
    let ls : length slots < 4294967293 = omega (arith, s.room, l, few) in
    let link : (x : ℕ) → IsLink (length seats) x → slot_at slots' x ≡ slot_at slots x =
    λ x k. two_link slots n (n + 1) x ls (subst (λ (m : ℕ). IsLink m x) (sym s.room) k) in
    let f' = λ (k : ℕ). slot_at slots' (get_or row' k no_watch).next in
    let f = λ (k : ℕ). slot_at slots (get_or row k no_watch).next in
    let g' = λ (k : ℕ). (get_or row' k no_watch).other in
    let g = λ (k : ℕ). (get_or row k no_watch).other in
    record {
      heads = ext_get_or 0 (heads_of slots' heads) (heads_of slots heads)
          (length-map heads (slot_at slots') ∙ sym (length-map heads (slot_at slots)))
          (λ i lt. let b : i < length heads = omega (arith, lt, length-map heads (slot_at slots'))
          in get_or-map (slot_at slots') heads i 0 0 b ∙ link (get_or heads i 0) (h.firsts i b) ∙
          sym (get_or-map (slot_at slots) heads i 0 0 b));
      next_room = omega (
        arith,
        length-map seats' f',
        length-map seats f,
        two_room seats n (n + 1),
      );
      watched_room = omega (
        arith,
        length-map seats' g',
        length-map seats g,
        two_room seats n (n + 1),
      );
      next = λ t lt. let b : t < length seats = omega (arith, lt, length-map seats f) in
          let k = get_or seats t 0 in
          let lk : k < length row = omega (arith, s.seats_within t b, h.room) in
          get_or-map f' seats' t 0 0 (omega (arith, b, two_room seats n (n + 1))) ∙
          ap f' (two_old seats n (n + 1) t 0 b) ∙
          ap (λ (v : Watch). slot_at slots' v.next) (two_old row w w k no_watch lk) ∙
          link (get_or row k no_watch).next (h.nexts k lk) ∙ sym (get_or-map f seats t 0 0 b);
      watched = λ t lt. let b : t < length seats = omega (arith, lt, length-map seats g) in
          let k = get_or seats t 0 in
          let lk : k < length row = omega (arith, s.seats_within t b, h.room) in
          get_or-map g' seats' t 0 0 (omega (arith, b, two_room seats n (n + 1))) ∙
          ap g' (two_old seats n (n + 1) t 0 b) ∙
          ap (λ (v : Watch). v.other) (two_old row w w k no_watch lk) ∙
          sym (get_or-map g seats t 0 0 b);
    }
