use Rattle.std.proofs.Common.{◌≡◌, ℕ, zero, suc, ◌<◌, ◌+◌, List, [], ◌∷◌, ◌++◌, length, map, replicate, drop, get_or, add-one, append_assoc, ap, sym, ◌∙◌, arith}
use Rattle.merge_model.specs.Merging.{repeated}
use Rattle.merge_model.specs.declared.agent.Agent.{Agent}
use Rattle.merge_model.proofs.full.full_vector.Goals as goal

-- one place on
next : (agents : List Agent) (us : List ℕ) (i : ℕ) (a : Agent) → length us ≡ length agents → i < length agents → a ≡ get_or agents i a →
    repeated (drop i (map (λ x. x.times) agents)) (drop i us) ≡ replicate a.times (get_or us i 0) ++ repeated (drop (suc i) (map (λ x. x.times) agents)) (drop (suc i) us)
next [] us i a same h is = absurd (omega arith)
next (x ∷ agents) [] i a same h is = absurd (omega arith)
next (x ∷ agents) (u ∷ us) zero a same h is = ap (λ y. replicate y.times u ++ repeated (map (λ x. x.times) agents) us) (sym is)
next (x ∷ agents) (u ∷ us) (suc i) a same h is = next agents us i a (omega arith) (omega arith) is

one_more : (agents : List Agent) (us full new all : List ℕ) (i : ℕ) (a : Agent) → length us ≡ length agents → i < length agents → a ≡ get_or agents i a →
    new ≡ full ++ replicate a.times (get_or us i 0) → full ++ repeated (drop i (map (λ x. x.times) agents)) (drop i us) ≡ all →
    new ++ repeated (drop (i + 1) (map (λ x. x.times) agents)) (drop (i + 1) us) ≡ all
one_more agents us full new all i a same h is pushed before =
    let rest = repeated (drop (suc i) (map (λ x. x.times) agents)) (drop (suc i) us) in
    rw (add-one i)
    (ap (λ x. x ++ rest) pushed ∙ append_assoc full (replicate a.times (get_or us i 0)) rest ∙ ap (λ x. full ++ x) (sym (next agents us i a same h is)) ∙ before)

pub loop-i-preserved : goal.loop-i-preserved
loop-i-preserved c =
    one_more c.args.agents.now c.args.vector.now c.loop-i.full.items c.push_times.new.full.items _ c.loop-i.i c.index-agents-i.result c.requires c.loop-i-test.true c.index-agents-i.is c.in_ok-push_times.ensures c.loop-i.invariant
