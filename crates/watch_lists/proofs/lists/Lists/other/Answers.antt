use Rattle.std.proofs.Common.{◌≡◌, ◌<◌, length, ap, ◌∙◌, subst, arith}
use Rattle.std.proofs.lemmas.List.{get_or_default}
use Rattle.watch_lists.specs.declared.lists.Watch.{Watch}
use Rattle.watch_lists.specs.Watches.{lit_of, lit_at, mate}
use Rattle.watch_lists.specs.Seats.{Seated, slot_at, no_watch}
use Rattle.watch_lists.proofs.Seats.{next_room, other_is}
use Rattle.watch_lists.proofs.lists.Lists.other.Goals as goal

pub returns : goal.returns
returns c =
    let i = c.self.inside in
    let room = next_room i.seats.items i.slots.items i.row.items c.args.self.now.next
    (ap (λ (v : Seated). v.next) c.self.view_is) in
    let lt : c.args.seat < length i.seats.items = omega (arith, c.requires, room) in
    let read = c.index.ensures ∙ get_or_default i.row.items c.args.seat c.index.result.now no_watch
    (omega (arith, lt, c.self.invariant.room)) in
    subst (λ (v : Seated). c.unpack.result ≡ lit_at v.watched (mate (slot_at v.slots c.args.seat)))
    c.self.view_is (c.unpack.ensures ∙ ap (λ (w : Watch). lit_of w.other) read ∙
    other_is i.seats.items i.slots.items i.row.items c.args.seat c.self.invariant.seats_are lt)
