use Rattle.std.proofs.Common.{◌≡◌, ◌+◌, ◌++◌, ◌∷◌, [], ℕ, List, length, refl, ap, ◌∙◌, arith}
use Rattle.watch_lists.specs.declared.lists.Watch.{Watch}
use Rattle.watch_lists.specs.Seats.{Seated, no_watch}
use Rattle.watch_lists.proofs.Seats.{next_room}
use Rattle.watch_lists.proofs.Grown.{grown_seats, grown_is}
use Rattle.watch_lists.proofs.lists.Lists.grow.Goals as goal

pub invariant_of-self-2 : goal.invariant_of-self-2
invariant_of-self-2 c =
    let i = c.self.inside in
    let n = c.len-slot.result in
    let row = c.in_ok-push-2.ensures.items ∙ ap (λ (xs : List Watch). xs ++ no_watch ∷ [])
    (c.in_ok-push.ensures.items ∙ ap (λ (xs : List Watch). xs ++ no_watch ∷ [])
    c.in_ok-reserve.ensures.items) in
    let seats = c.in_ok-push-4.ensures.items ∙ ap (λ (xs : List ℕ). xs ++ (n + 1) ∷ [])
    (c.in_ok-push-3.ensures.items ∙ ap (λ (xs : List ℕ). xs ++ n ∷ [])
    c.in_ok-reserve-2.ensures.items) in
    let slots = c.in_ok-push-6.ensures.items ∙ ap (λ (xs : List ℕ). xs ++ (n + 1) ∷ [])
    (c.in_ok-push-5.ensures.items ∙ ap (λ (xs : List ℕ). xs ++ n ∷ [])
    c.in_ok-reserve-3.ensures.items) in
    let room = next_room i.seats.items i.slots.items i.row.items c.args.self.now.next
    (ap (λ (v : Seated). v.next) c.self.view_is) in
    let l : length i.seats.items ≡ n = omega (
      arith,
      c.len-slot.ensures,
      ap {B = ℕ} (λ (xs : List ℕ). length xs) c.in_ok-reserve-3.ensures.items,
      c.self.invariant.seats_are.room,
    ) in
    rw (row, seats, slots) (grown_seats i.heads.items i.row.items i.seats.items i.slots.items n
    no_watch c.self.invariant l (omega (arith, l, room, c.requires)) refl)

pub returns-clause-ok : goal.returns-clause-ok
returns-clause-ok c =
    let i = c.self.inside in
    let n = c.len-slot.result in
    let row = c.in_ok-push-2.ensures.items ∙ ap (λ (xs : List Watch). xs ++ no_watch ∷ [])
    (c.in_ok-push.ensures.items ∙ ap (λ (xs : List Watch). xs ++ no_watch ∷ [])
    c.in_ok-reserve.ensures.items) in
    let seats = c.in_ok-push-4.ensures.items ∙ ap (λ (xs : List ℕ). xs ++ (n + 1) ∷ [])
    (c.in_ok-push-3.ensures.items ∙ ap (λ (xs : List ℕ). xs ++ n ∷ [])
    c.in_ok-reserve-2.ensures.items) in
    let slots = c.in_ok-push-6.ensures.items ∙ ap (λ (xs : List ℕ). xs ++ (n + 1) ∷ [])
    (c.in_ok-push-5.ensures.items ∙ ap (λ (xs : List ℕ). xs ++ n ∷ [])
    c.in_ok-reserve-3.ensures.items) in
    let room = next_room i.seats.items i.slots.items i.row.items c.args.self.now.next
    (ap (λ (v : Seated). v.next) c.self.view_is) in
    let l : length i.seats.items ≡ n = omega (
      arith,
      c.len-slot.ensures,
      ap {B = ℕ} (λ (xs : List ℕ). length xs) c.in_ok-reserve-3.ensures.items,
      c.self.invariant.seats_are.room,
    ) in
    rw (row, seats, slots, ← c.self.view_is) (grown_is i.heads.items i.row.items i.seats.items
    i.slots.items n no_watch c.self.invariant l (omega (arith, l, room, c.requires)))
