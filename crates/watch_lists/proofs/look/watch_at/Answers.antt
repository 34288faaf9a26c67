use Rattle.std.proofs.Common.{◌+◌, ◌*◌, ◌∷◌, ℕ, List, ap, sym, ◌∙◌, subst, arith}
use Rattle.std.proofs.Math.ListN.{set}
use Rattle.clause_store.specs.Lits.{rank_of}
use Rattle.watch_lists.specs.Chains.{AreChains, list_at, IsApart}
use Rattle.watch_lists.specs.Watches.{lit_at}
use Rattle.watch_lists.specs.Seats.{slot_at}
use Rattle.watch_lists.proofs.Seats.{transport}
use Rattle.watch_lists.proofs.look.watch_at.Goals as goal

pub returns-clause-pair : goal.returns-clause-pair
returns-clause-pair c =
    let left = c.seat-left.ensures.slot in
    let right = ap (λ (ss : List ℕ). slot_at ss c.seat-right.result) c.change.ensures.slots ∙
    c.seat-right.ensures.slot in
    let row = c.push-2.ensures.watched ∙ c.push.ensures.watched in
    let slots = c.change-2.ensures.slots ∙ c.change.ensures.slots in
    let one = subst (λ (k : ℕ). (ls : List (List ℕ)) →
    AreChains c.args.lists.now.heads c.args.lists.now.next ls → IsApart (2 * c.args.looked) ls →
    AreChains c.push.new.self.heads c.push.new.self.next
    (set ls k ((2 * c.args.looked) ∷ list_at ls k))) c.rank.ensures
    (transport (λ hs ns s. (ls : List (List ℕ)) → AreChains hs ns ls → IsApart s ls →
    AreChains c.push.new.self.heads c.push.new.self.next
    (set ls c.rank.result (s ∷ list_at ls c.rank.result)))
    (c.change-2.ensures.heads ∙ c.change.ensures.heads)
    (c.change-2.ensures.next ∙ c.change.ensures.next)
    (ap (λ (ss : List ℕ). slot_at ss c.seat-left.result) slots ∙ left) c.push.ensures.chains) in
    let two = subst (λ (k : ℕ). (ls : List (List ℕ)) →
    AreChains c.push.new.self.heads c.push.new.self.next ls → IsApart (2 * c.args.looked + 1) ls →
    AreChains c.push-2.new.self.heads c.push-2.new.self.next
    (set ls k ((2 * c.args.looked + 1) ∷ list_at ls k))) c.rank-2.ensures
    (subst (λ (s : ℕ). (ls : List (List ℕ)) →
    AreChains c.push.new.self.heads c.push.new.self.next ls → IsApart s ls →
    AreChains c.push-2.new.self.heads c.push-2.new.self.next
    (set ls c.rank-2.result (s ∷ list_at ls c.rank-2.result)))
    (ap (λ (ss : List ℕ). slot_at ss c.seat-right.result) (c.push.ensures.slots ∙
    c.change-2.ensures.slots) ∙ right) c.push-2.ensures.chains) in
    record {
      first = ap (λ (ws : List ℕ). lit_at ws (2 * c.args.looked)) row ∙
          c.change-2.ensures.others (2 * c.args.looked) (λ e. omega (arith, e, right)) ∙
          ap (lit_at c.change.new.self.watched) (sym left) ∙ c.change.ensures.changed;
      second = ap (λ (ws : List ℕ). lit_at ws (2 * c.args.looked + 1)) row ∙
          ap (lit_at c.change-2.new.self.watched) (sym right) ∙ c.change-2.ensures.changed;
      others = λ t n m. ap (λ (ws : List ℕ). lit_at ws t) row ∙
          c.change-2.ensures.others t (λ e. m (e ∙ right)) ∙
          c.change.ensures.others t (λ e. n (e ∙ left));
      chains = λ lists h x y. two (set lists (rank_of c.args.first)
          ((2 * c.args.looked) ∷ list_at lists (rank_of c.args.first))) (one lists h x) y;
    }
