use Rattle.std.proofs.Common.{◌≤◌, ◌∙◌, List, ℕ, length, subst, arith}
use Rattle.std.proofs.Math.ListN.{drop}
use Rattle.watch_lists.specs.Seats.{AreNone, heads_of}
use Rattle.watch_lists.proofs.Seats.{none_heads, wrote}
use Rattle.watch_lists.proofs.lists.Lists.clear.Goals as goal

pub returns-clause-none : goal.returns-clause-none
returns-clause-none c =
    let i = c.self.inside in
    let few : length i.slots.items ≤ 4294967295 =
    omega (arith, c.self.invariant.few, c.self.invariant.seats_are.room) in
    subst (λ (xs : List ℕ). AreNone (heads_of i.slots.items xs)) (wrote i.heads.len c.empty.new.row
    (drop (length c.empty.new.row) i.heads.items) (c.empty.auto.row ∙ c.deref_mut.ensures.len))
    (none_heads i.slots.items c.empty.new.row few c.empty.ensures)
