use Rattle.std.proofs.Common.{◌≡◌, ◌≤◌, ◌∙◌, sym, ap, ℕ, ◌-◌, List, ◌++◌, ◌∷◌, [], arith, append_assoc}
use Rattle.ranks.specs.Ranks.{downs, counts, at_least}
use Rattle.ranks.proofs.Counts.{downs_next}
use Rattle.aggregators.proofs.leximax.values_down.Goals as goal

one_more : (n m : ℕ) (full old new all : List ℕ) → 1 ≤ n → new ≡ old ++ m ∷ [] → m ≡ at_least n full → old ++ counts (downs n) full ≡ all → new ++ counts (downs (n - 1)) full ≡ all
one_more n m full old new all some pushed is before =
    ap (λ x. x ++ counts (downs (n - 1)) full) pushed ∙ append_assoc old (m ∷ []) (counts (downs (n - 1)) full)
    ∙ ap (λ x. old ++ x ∷ counts (downs (n - 1)) full) is
    ∙ ap (λ ks. old ++ counts ks full) (sym (downs_next n some)) ∙ before

pub loop-level-preserved : goal.loop-level-preserved
loop-level-preserved c = one_more c.loop-level.level c.at_least.result c.args.full.now c.loop-level.values.items c.push.new.self.items _ (omega arith) c.in_ok-push.ensures.items c.at_least.ensures c.loop-level.invariant
