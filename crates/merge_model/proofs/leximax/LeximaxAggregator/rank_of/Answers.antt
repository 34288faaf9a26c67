use Rattle.std.proofs.Common.{◌∙◌, subst, ℕ, List}
use Rattle.std.specs.List.Sorted.{IsPermutation}
use Rattle.ranks.proofs.Walks.{sorted_down_from}
use Rattle.merge_model.proofs.leximax.LeximaxAggregator.rank_of.Goals as goal

pub returns : goal.returns
returns c =
    c.reverse.ensures.items
    ∙ sorted_down_from c.args.full.now c.sort_unstable.new.self.items
    (subst (λ (u : List ℕ). IsPermutation u c.sort_unstable.new.self.items) (c.in_ok-ranked.ensures.items_if_clones_equal (λ x y h. h)) c.sort_unstable.ensures.permutation)
    c.sort_unstable.ensures.sorted
