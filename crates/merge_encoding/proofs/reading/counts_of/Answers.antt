use Rattle.std.proofs.Common.{length, List, ℕ, sym, ◌∙◌, subst}
use Rattle.totalizer.specs.Counter.{AreVarsWithin}
use Rattle.merge_encoding.proofs.Ranges.{level_at}
use Rattle.merge_encoding.proofs.reading.counts_of.Goals as goal

pub count-requires-clause-within : goal.count-requires-clause-within
count-requires-clause-within c =
    subst (λ (l : List ℕ). AreVarsWithin (length c.args.assignment.now) l) (sym (c.outputs.ensures.value ∙ c.counter-item.is)) (level_at (length c.args.assignment.now) c.args.counters.now c.loop-counter.counter-index _ c.requires c.loop-counter-test.true)
