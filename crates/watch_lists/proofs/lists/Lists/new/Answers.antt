use Rattle.std.proofs.Common.{◌≡◌, ◌<◌, ◌+◌, ◌*◌, ℕ, List, length, get_or, ap, ◌∙◌, arith, replicate}
use Rattle.std.proofs.lemmas.List.{get_or-replicate, length-replicate, length-map, get_or-map}
use Rattle.watch_lists.specs.Seats.{slot_at, next_of, others_of}
use Rattle.watch_lists.proofs.Seats.{slot_out}
use Rattle.watch_lists.proofs.lists.Lists.new.Goals as goal

pub returns : goal.returns
returns c =
    let hs = c.in_ok-heads.heads.items in
    let slots = c.new-3.result.items in
    let e : hs ≡ replicate (2 * c.args.count + 2) 4294967295 =
    c.in_ok-heads.ensures.items_if_clones_equal (λ y h. h) in
    let l : length hs ≡ 2 * c.args.count + 2 =
    ap {B = ℕ} (λ (xs : List ℕ). length xs) e ∙ length-replicate (2 * c.args.count + 2) 4294967295
    in
    let n : length slots ≡ 0 = ap {B = ℕ} (λ (xs : List ℕ). length xs) c.new-3.ensures.items in
    record {
      room = length-map hs (slot_at slots) ∙ l;
      none = λ i h. let lt : i < length hs = omega (arith, h, length-map hs (slot_at slots)) in
          get_or-map (slot_at slots) hs i 0 0 lt ∙
          ap (slot_at slots) (ap (λ (xs : List ℕ). get_or xs i 0) e ∙
          get_or-replicate (2 * c.args.count + 2) i 4294967295 0 (omega (arith, lt, l))) ∙
          slot_out slots 4294967295 (omega (arith, n));
      next = ap (λ (xs : List ℕ). next_of slots xs c.new.result.items) c.new-2.ensures.items;
      watched = ap (λ (xs : List ℕ). others_of xs c.new.result.items) c.new-2.ensures.items;
    }
