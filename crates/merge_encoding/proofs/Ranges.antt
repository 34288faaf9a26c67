-- What a claim assumes is over the frame's variables.
use Rattle.std.proofs.Common.{◌≡◌, ℕ, zero, suc, ◌-◌, ◌<◌, ◌≤◌, Bool, true, false, List, [], ◌∷◌, ◌++◌, length, map, refl, arith}
use Rattle.std.specs.Prelude.{slice_index, slice_index_or, nat_lt, if◌then◌else◌}
use Rattle.std.specs.List.{AllByRecursion}
use Rattle.std.proofs.lemmas.Bool.Decides.{nat_tests}
use Rattle.clause_store.specs.declared.lit.Lit.{Lit}
use Rattle.clause_store.specs.Lits.{positive_lit, negative_lit, negated, IsWithin, InRange}
use Rattle.clause_store.proofs.Each.{each_append, each_place}
use Rattle.totalizer.specs.Counter.{AreVarsWithin, AllVarsWithin}
use Rattle.agent_copies.specs.declared.copy.AgentCopy.{AgentCopy}
use Rattle.aggregators.specs.Levels.{FitLevels}
use Rattle.merge_encoding.specs.declared.frame.Frame.{Frame}
use Rattle.merge_encoding.specs.Frames.{absent_copy, copy_in, roots_in, IsCopyOver, IsFrameOver}
use Rattle.merge_encoding.specs.Claims.{Assertion, NoModelOfConstraint, NoModelOfBase, NoNearer, NoBetter, NoBreaker, NoModelWith}
use Rattle.merge_encoding.specs.Assumptions.{signed, at_most_lits, each_at_most, better_lits, assumed_in, IsProperIn}

signed_in : (v : ℕ) (ls : List Lit) (w : List Bool) → InRange v ls → InRange v (signed ls w)
signed_in v [] w h = tt
signed_in v (l ∷ ls) [] h = tt
signed_in v (l ∷ ls) (x ∷ w) h = (h.0, signed_in v ls w h.1)

limit_in_by : (v : ℕ) (l : List ℕ) (x : ℕ) (t : Bool) → nat_lt x (length l) ≡ t → AreVarsWithin v l → InRange v (if t then negative_lit (slice_index l x) ∷ [] else [])
limit_in_by v l x true e h = let lt : x < length l = grind (arith, nat_tests) in (h x lt, tt)
limit_in_by v l x false e h = tt

limit_in : (v : ℕ) (l : List ℕ) (x : ℕ) → AreVarsWithin v l → InRange v (at_most_lits l x)
limit_in v l x h = limit_in_by v l x (nat_lt x (length l)) refl h

limits_in : (v : ℕ) (ls : List (List ℕ)) (values : List ℕ) → AllVarsWithin v ls → InRange v (each_at_most ls values)
limits_in v [] values h = tt
limits_in v (l ∷ ls) [] h = tt
limits_in v (l ∷ ls) (x ∷ values) h = each_append (IsWithin v) (at_most_lits l x) (each_at_most ls values) (limit_in v l x h.0) (limits_in v ls values h.1)

better_in : (v j : ℕ) (ls : List (List ℕ)) (values : List ℕ) → FitLevels values ls → j < length ls → 1 ≤ slice_index values j → AllVarsWithin v ls → InRange v (better_lits j ls values)
better_in v j [] values f lt lo h = absurd (omega arith)
better_in v j (l ∷ ls) [] f lt lo h = absurd f
better_in v zero (l ∷ ls) (x ∷ values) f lt lo h = (h.0 (x - 1) (let y = f.0 in omega arith), tt)
better_in v (suc j) (l ∷ ls) (x ∷ values) f lt lo h = each_append (IsWithin v) (at_most_lits l x) (better_lits j ls values) (limit_in v l x h.0) (better_in v j ls values f.1 (omega arith) lo h.1)

roots_over : (v n : ℕ) (cs : List AgentCopy) → AllByRecursion (IsCopyOver v n) cs → InRange v (map (λ (c : AgentCopy). c.root) cs)
roots_over v n [] h = tt
roots_over v n (c ∷ cs) h = let o = h.0 in (o.root, roots_over v n cs h.1)

all_roots_over : (v : ℕ) (f : Frame) → IsFrameOver v f → InRange v (roots_in f)
all_roots_over v f o = (o.constraint, roots_over v (length f.shared) f.copies o.copies)

pub assumed_over : (v : ℕ) (f : Frame) (claim : Assertion) → IsProperIn f claim → IsFrameOver v f → InRange v (assumed_in f claim)
assumed_over v f NoModelOfConstraint p o = (o.constraint, tt)
assumed_over v f (NoModelOfBase i) p o = let c = each_place (IsCopyOver v (length f.shared)) f.copies i absent_copy o.copies p in (c.root, tt)
assumed_over v f (NoNearer i u k) p o =
    let c = copy_in f.copies i in
    let oc : IsCopyOver v (length f.shared) c = each_place (IsCopyOver v (length f.shared)) f.copies i absent_copy o.copies p.0 in
    each_append (IsWithin v) (signed f.shared u) (c.root ∷ negative_lit (slice_index c.away (k - 1)) ∷ []) (signed_in v f.shared u o.shared)
    (oc.root, (oc.away (k - 1) (let x = p.2 in let y = p.3 in omega arith), tt))
assumed_over v f (NoBetter j values) p o = each_append (IsWithin v) (roots_in f) (better_lits j f.levels values) (all_roots_over v f o) (better_in v j f.levels values p.1 p.0 p.2 o.levels)
assumed_over v f (NoBreaker q values) p o =
    let ask = negated (slice_index_or f.asks q (positive_lit 0)) in
    each_append (IsWithin v) (roots_in f) (each_at_most f.levels values ++ ask ∷ []) (all_roots_over v f o)
    (each_append (IsWithin v) (each_at_most f.levels values) (ask ∷ []) (limits_in v f.levels values o.levels) (each_place (IsWithin v) f.asks q (positive_lit 0) o.asks p.0, tt))
assumed_over v f (NoModelWith values prefix) p o =
    each_append (IsWithin v) (roots_in f) (each_at_most f.levels values ++ signed f.shared prefix) (all_roots_over v f o)
    (each_append (IsWithin v) (each_at_most f.levels values) (signed f.shared prefix) (limits_in v f.levels values o.levels) (signed_in v f.shared prefix o.shared))

pub level_at : (v : ℕ) (ls : List (List ℕ)) (k : ℕ) (d : List ℕ) → AllVarsWithin v ls → k < length ls → AreVarsWithin v (slice_index_or ls k d)
level_at v [] k d h lt = absurd (omega arith)
level_at v (l ∷ ls) zero d h lt = h.0
level_at v (l ∷ ls) (suc k) d h lt = level_at v ls k d h.1 (omega arith)
