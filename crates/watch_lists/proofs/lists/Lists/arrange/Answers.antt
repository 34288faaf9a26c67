use Rattle.std.proofs.Common.{◌≤◌, ◌++◌, ◌∙◌, List, ℕ, length, ap, subst, arith}
use Rattle.std.proofs.Math.ListN.{drop, take}
use Rattle.watch_lists.specs.Seats.{AreNone, heads_of}
use Rattle.watch_lists.proofs.Seats.{none_heads, wrote}
use Rattle.watch_lists.proofs.lists.Lists.arrange.Goals as goal

pub returns-clause-none : goal.returns-clause-none
returns-clause-none c =
    let i = c.self.inside in
    let hs = wrote i.heads.len c.arrange.new.heads
    (drop (length c.arrange.new.heads) i.heads.items)
    (c.arrange.auto.heads ∙ c.deref_mut.ensures.len) in
    let ss = wrote i.slots.len c.arrange.new.slots
    (drop (length c.arrange.new.slots) i.slots.items)
    (c.arrange.auto.slots ∙ c.deref_mut-3.ensures.len) in
    let few : length c.arrange.new.slots ≤ 4294967295 = omega (
      arith,
      c.self.invariant.few,
      c.self.invariant.seats_are.room,
      c.arrange.auto.slots,
      ap {B = ℕ} (λ (xs : List ℕ). length xs) c.deref_mut-3.ensures.value,
    ) in
    subst (λ (xs : List ℕ). AreNone (heads_of xs (take i.heads.len (c.arrange.new.heads ++
    drop (length c.arrange.new.heads) i.heads.items)))) ss
    (subst (λ (xs : List ℕ). AreNone (heads_of c.arrange.new.slots xs)) hs
    (none_heads c.arrange.new.slots c.arrange.new.heads few c.arrange.ensures.none))
