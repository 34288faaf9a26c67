use Rattle.std.proofs.Common.{◌<◌, ◌∷◌, ℕ, List, length, ap, ◌∙◌, subst, arith}
use Rattle.std.proofs.Math.ListN.{set}
use Rattle.std.proofs.lemmas.List.{get_or_default, length-map}
use Rattle.std.proofs.lemmas.Grind.{get_or_default_zero}
use Rattle.std.specs.Prelude.{Contains}
use Rattle.watch_lists.specs.declared.lists.Watch.{Watch}
use Rattle.watch_lists.specs.Chains.{AreChains, Chain, list_at, IsApart}
use Rattle.watch_lists.specs.Seats.{Seated, slot_at, no_watch, heads_of, next_of}
use Rattle.watch_lists.proofs.Seats.{next_room, push_seat, loose_seat, same_row}
use Rattle.watch_lists.proofs.lists.Lists.push.Goals as goal

pub returns-clause-chains : goal.returns-clause-chains
returns-clause-chains c =
    let i = c.self.inside in
    let room = next_room i.seats.items i.slots.items i.row.items c.args.self.now.next
    (ap (λ (v : Seated). v.next) c.self.view_is) in
    let lt : c.args.seat < length i.seats.items = omega (arith, c.requires.seat, room) in
    let la : c.args.at < length i.heads.items = omega (
      arith,
      c.requires.at,
      ap {B = ℕ} (λ (v : Seated). length v.heads) c.self.view_is,
      length-map i.heads.items (slot_at i.slots.items),
    ) in
    let w : Watch = record {
      next = c.index-seat_after.result.now;
      other = c.index_mut.result.now.other;
    } in
    subst (λ (v : Seated). (lists : List (List ℕ)) → AreChains v.heads v.next lists →
    IsApart (slot_at v.slots c.args.seat) lists →
    AreChains (heads_of i.slots.items (set i.heads.items c.args.at c.args.seat))
    (next_of i.slots.items i.seats.items (set i.row.items c.args.seat w))
    (set lists c.args.at (slot_at v.slots c.args.seat ∷ list_at lists c.args.at))) c.self.view_is
    (λ lists h a. push_seat i.heads.items i.row.items i.seats.items i.slots.items c.args.at
    c.args.seat w lists c.self.invariant la lt (c.index-seat_after.ensures ∙
    get_or_default_zero i.heads.items c.args.at c.index-seat_after.result.now la) h a)

pub returns-clause-loose : goal.returns-clause-loose
returns-clause-loose c =
    let i = c.self.inside in
    let room = next_room i.seats.items i.slots.items i.row.items c.args.self.now.next
    (ap (λ (v : Seated). v.next) c.self.view_is) in
    let lt : c.args.seat < length i.seats.items = omega (arith, c.requires.seat, room) in
    let la : c.args.at < length i.heads.items = omega (
      arith,
      c.requires.at,
      ap {B = ℕ} (λ (v : Seated). length v.heads) c.self.view_is,
      length-map i.heads.items (slot_at i.slots.items),
    ) in
    let w : Watch = record {
      next = c.index-seat_after.result.now;
      other = c.index_mut.result.now.other;
    } in
    subst (λ (v : Seated). (first : ℕ) (slots : List ℕ) → Chain v.next first slots →
    (Contains slots (slot_at v.slots c.args.seat) → ⊥) →
    Chain (next_of i.slots.items i.seats.items (set i.row.items c.args.seat w)) first slots)
    c.self.view_is
    (λ first slots h a. loose_seat i.heads.items i.row.items i.seats.items i.slots.items c.args.at
    c.args.seat w first slots c.self.invariant la lt (c.index-seat_after.ensures ∙
    get_or_default_zero i.heads.items c.args.at c.index-seat_after.result.now la) h a)

pub returns-clause-watched : goal.returns-clause-watched
returns-clause-watched c =
    let i = c.self.inside in
    let room = next_room i.seats.items i.slots.items i.row.items c.args.self.now.next
    (ap (λ (v : Seated). v.next) c.self.view_is) in
    let lt : c.args.seat < length i.seats.items = omega (arith, c.requires.seat, room) in
    let w : Watch = record {
      next = c.index-seat_after.result.now;
      other = c.index_mut.result.now.other;
    } in
    same_row (λ w. w.other) i.seats.items i.slots.items i.row.items c.args.seat w
    c.self.invariant.seats_are c.self.invariant.room lt
    (ap (λ (w : Watch). w.other) (c.index_mut.ensures.value ∙ get_or_default i.row.items c.args.seat
    c.index_mut.result.now no_watch (omega (arith, lt, c.self.invariant.room)))) ∙
    ap (λ (v : Seated). v.watched) c.self.view_is
