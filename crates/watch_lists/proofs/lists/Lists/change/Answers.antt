use Rattle.std.proofs.Common.{◌≡◌, ◌<◌, ℕ, length, ap, sym, ◌∙◌, subst, arith, get_or}
use Rattle.std.proofs.Math.ListN.{set}
use Rattle.std.proofs.lemmas.List.{get_or_default}
use Rattle.std.proofs.lemmas.Grind.{get_or_default_zero}
use Rattle.watch_lists.specs.declared.lists.Watch.{Watch}
use Rattle.watch_lists.specs.Watches.{lit_at, mate}
use Rattle.watch_lists.specs.Seats.{Seated, slot_at, no_watch, others_of}
use Rattle.watch_lists.proofs.Seats.{next_room, mate_lt, slot_lt, changed_is, changed_others, same_row}
use Rattle.watch_lists.proofs.lists.Lists.change.Goals as goal

pub returns-clause-changed : goal.returns-clause-changed
returns-clause-changed c =
    let i = c.self.inside in
    let v = c.self.invariant in
    let room = next_room i.seats.items i.slots.items i.row.items c.args.self.now.next
    (ap (λ (v : Seated). v.next) c.self.view_is) in
    let lt : c.args.seat < length i.seats.items = omega (arith, c.requires.seat, room) in
    let slot : c.index-slot.result.now ≡ slot_at i.slots.items c.args.seat =
    c.index-slot.ensures ∙ get_or_default i.slots.items c.args.seat c.index-slot.result.now
    4294967295 (omega (arith, lt, v.seats_are.room)) in
    let m : mate (slot_at i.slots.items c.args.seat) < length i.seats.items =
    mate_lt (slot_at i.slots.items c.args.seat) (length i.seats.items) v.even
    (slot_lt i.slots.items i.seats.items c.args.seat v.seats_are lt) in
    let at : c.index-mate_seat.result.now ≡
    get_or i.seats.items (mate (slot_at i.slots.items c.args.seat)) 0 =
    c.index-mate_seat.ensures ∙
    ap (λ (s : ℕ). get_or i.seats.items (mate s) c.index-mate_seat.result.now) slot ∙
    get_or_default_zero i.seats.items (mate (slot_at i.slots.items c.args.seat))
    c.index-mate_seat.result.now m in
    let w : Watch = record {
      next = c.index_mut.result.now.next;
      other = c.pack.result;
    } in
    subst (λ (s : ℕ). lit_at (others_of i.seats.items
    (set i.row.items c.index-mate_seat.result.now w)) s ≡ c.args.lit)
    (ap (λ (v : Seated). slot_at v.slots c.args.seat) c.self.view_is)
    (subst (λ (k : ℕ). lit_at (others_of i.seats.items (set i.row.items k w))
    (slot_at i.slots.items c.args.seat) ≡ c.args.lit) (sym at)
    (changed_is i.seats.items i.slots.items i.row.items c.args.seat w c.args.lit v.seats_are
    v.room v.even lt c.pack.ensures))

pub returns-clause-others : goal.returns-clause-others
returns-clause-others c = λ t n.
    let i = c.self.inside in
    let v = c.self.invariant in
    let room = next_room i.seats.items i.slots.items i.row.items c.args.self.now.next
    (ap (λ (v : Seated). v.next) c.self.view_is) in
    let lt : c.args.seat < length i.seats.items = omega (arith, c.requires.seat, room) in
    let slot : c.index-slot.result.now ≡ slot_at i.slots.items c.args.seat =
    c.index-slot.ensures ∙ get_or_default i.slots.items c.args.seat c.index-slot.result.now
    4294967295 (omega (arith, lt, v.seats_are.room)) in
    let m : mate (slot_at i.slots.items c.args.seat) < length i.seats.items =
    mate_lt (slot_at i.slots.items c.args.seat) (length i.seats.items) v.even
    (slot_lt i.slots.items i.seats.items c.args.seat v.seats_are lt) in
    let at : c.index-mate_seat.result.now ≡
    get_or i.seats.items (mate (slot_at i.slots.items c.args.seat)) 0 =
    c.index-mate_seat.ensures ∙
    ap (λ (s : ℕ). get_or i.seats.items (mate s) c.index-mate_seat.result.now) slot ∙
    get_or_default_zero i.seats.items (mate (slot_at i.slots.items c.args.seat))
    c.index-mate_seat.result.now m in
    let w : Watch = record {
      next = c.index_mut.result.now.next;
      other = c.pack.result;
    } in
    subst (λ (k : ℕ). lit_at (others_of i.seats.items (set i.row.items k w)) t ≡
    lit_at c.args.self.now.watched t) (sym at)
    (changed_others i.seats.items i.slots.items i.row.items c.args.seat w t v.seats_are v.room
    v.even lt (λ e. n (e ∙ ap (λ (v : Seated). slot_at v.slots c.args.seat) c.self.view_is)) ∙
    ap (λ (v : Seated). lit_at v.watched t) c.self.view_is)

pub returns-clause-next : goal.returns-clause-next
returns-clause-next c =
    let i = c.self.inside in
    let v = c.self.invariant in
    let room = next_room i.seats.items i.slots.items i.row.items c.args.self.now.next
    (ap (λ (v : Seated). v.next) c.self.view_is) in
    let lt : c.args.seat < length i.seats.items = omega (arith, c.requires.seat, room) in
    let slot : c.index-slot.result.now ≡ slot_at i.slots.items c.args.seat =
    c.index-slot.ensures ∙ get_or_default i.slots.items c.args.seat c.index-slot.result.now
    4294967295 (omega (arith, lt, v.seats_are.room)) in
    let m : mate (slot_at i.slots.items c.args.seat) < length i.seats.items =
    mate_lt (slot_at i.slots.items c.args.seat) (length i.seats.items) v.even
    (slot_lt i.slots.items i.seats.items c.args.seat v.seats_are lt) in
    let at : c.index-mate_seat.result.now ≡
    get_or i.seats.items (mate (slot_at i.slots.items c.args.seat)) 0 =
    c.index-mate_seat.ensures ∙
    ap (λ (s : ℕ). get_or i.seats.items (mate s) c.index-mate_seat.result.now) slot ∙
    get_or_default_zero i.seats.items (mate (slot_at i.slots.items c.args.seat))
    c.index-mate_seat.result.now m in
    let inside : c.index-mate_seat.result.now < length i.seats.items =
    let b = v.seats_are.seats_within (mate (slot_at i.slots.items c.args.seat)) m in
    omega (arith, at, b) in
    let w : Watch = record {
      next = c.index_mut.result.now.next;
      other = c.pack.result;
    } in
    same_row (λ w. slot_at i.slots.items w.next) i.seats.items i.slots.items i.row.items
    c.index-mate_seat.result.now w v.seats_are v.room inside
    (ap (λ (w : Watch). slot_at i.slots.items w.next) (c.index_mut.ensures.value ∙
    get_or_default i.row.items c.index-mate_seat.result.now c.index_mut.result.now no_watch
    (omega (arith, inside, v.room)))) ∙ ap (λ (v : Seated). v.next) c.self.view_is
