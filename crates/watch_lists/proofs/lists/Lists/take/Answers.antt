use Rattle.std.proofs.Common.{◌≡◌, ℕ, List, ap, ◌∙◌, arith}
use Rattle.std.proofs.Math.ListN.{set}
use Rattle.std.proofs.lemmas.List.{map-set}
use Rattle.watch_lists.specs.Seats.{Seated, slot_at, heads_of, next_of, others_of}
use Rattle.watch_lists.proofs.Seats.{slot_out}
use Rattle.watch_lists.proofs.lists.Lists.take.Goals as goal

pub returns-clause-after : goal.returns-clause-after
returns-clause-after c =
    let i = c.self.inside in
    let end : slot_at i.slots.items 4294967295 ≡ 4294967295 = slot_out i.slots.items 4294967295
    (omega (arith, c.self.invariant.few, c.self.invariant.seats_are.room)) in
    let e = map-set (slot_at i.slots.items) i.heads.items c.args.at 4294967295 ∙
    ap (set (heads_of i.slots.items i.heads.items) c.args.at) end in
    ap (λ (hs : List ℕ). record {
      heads = hs;
      next = next_of i.slots.items i.seats.items i.row.items;
      watched = others_of i.seats.items i.row.items;
      slots = i.slots.items;
    }) e ∙ ap (λ (v : Seated). record {
      heads = set v.heads c.args.at 4294967295;
      next = v.next;
      watched = v.watched;
      slots = v.slots;
    }) c.self.view_is
