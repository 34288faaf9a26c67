use Rattle.std.proofs.Common.{◌≡◌, ℕ, zero, suc, ◌<◌, ◌+◌, List, [], ◌∷◌, ◌++◌, length, replicate, drop, get_or, add-one, append_assoc, ap, sym, ◌∙◌, arith}
use Rattle.merge_model.specs.Merging.{repeated}
use Rattle.aggregators.proofs.counters.repeated_counters.Goals as goal

-- one place on
next : (counters : List (List ℕ)) (times : List ℕ) (i : ℕ) (c : List ℕ) → length counters ≡ length times → i < length counters → c ≡ get_or counters i c →
    repeated (drop i times) (drop i counters) ≡ replicate (get_or times i 0) c ++ repeated (drop (suc i) times) (drop (suc i) counters)
next [] times i c same h is = absurd (omega arith)
next (x ∷ counters) [] i c same h is = absurd (omega arith)
next (x ∷ counters) (t ∷ times) zero c same h is = ap (λ y. replicate t y ++ repeated times counters) (sym is)
next (x ∷ counters) (t ∷ times) (suc i) c same h is = next counters times i c (omega arith) (omega arith) is

one_more : (counters : List (List ℕ)) (times : List ℕ) (parts new all : List (List ℕ)) (i : ℕ) (c : List ℕ) → length counters ≡ length times → i < length counters → c ≡ get_or counters i c →
    new ≡ parts ++ replicate (get_or times i 0) c → parts ++ repeated (drop i times) (drop i counters) ≡ all →
    new ++ repeated (drop (i + 1) times) (drop (i + 1) counters) ≡ all
one_more counters times parts new all i c same h is pushed before =
    let rest = repeated (drop (suc i) times) (drop (suc i) counters) in
    rw (add-one i)
    (ap (λ x. x ++ rest) pushed ∙ append_assoc parts (replicate (get_or times i 0) c) rest ∙ ap (λ x. parts ++ x) (sym (next counters times i c same h is)) ∙ before)

pub loop-i-preserved : goal.loop-i-preserved
loop-i-preserved c =
    one_more c.args.counters.now c.args.times.now c.loop-i.parts.items c.push_copies.new.parts.items _ c.loop-i.i c.index-counters-i.result c.requires c.loop-i-test.true c.index-counters-i.is c.in_ok-push_copies.ensures c.loop-i.invariant
