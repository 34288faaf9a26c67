-- What a claim assumes is on distinct variables: how often a variable stands in lists of literals.
use Rattle.std.proofs.Common.{◌≡◌, ◌≢◌, ℕ, zero, suc, ◌+◌, ◌-◌, ◌<◌, ◌≤◌, Bool, true, false, List, [], ◌∷◌, ◌++◌, length, map, refl, sym, ap, ◌∙◌, arith}
use Rattle.std.specs.Prelude.{slice_index, slice_index_or, nat_eq, nat_lt, if◌then◌else◌, AllPairs}
use Rattle.std.specs.List.{concat}
use Rattle.std.proofs.lemmas.Bool.Decides.{nat_tests}
use Rattle.clause_store.specs.declared.lit.Lit.{Lit}
use Rattle.clause_store.specs.Lits.{positive_lit, negative_lit, negated}
use Rattle.clause_store.proofs.Once.{times_in, IsOnce, vars_of, times_append, times_vars, times_place, pairs_apart}
use Rattle.agent_copies.specs.declared.copy.AgentCopy.{AgentCopy}
use Rattle.aggregators.specs.Levels.{FitLevels}
use Rattle.merge_encoding.specs.declared.frame.Frame.{Frame}
use Rattle.merge_encoding.specs.Frames.{copy_in, roots_in, level_lits, distance_lits, FrameIsDistinct}
use Rattle.merge_encoding.specs.Claims.{Assertion, NoModelOfConstraint, NoModelOfBase, NoNearer, NoBetter, NoBreaker, NoModelWith}
use Rattle.merge_encoding.specs.Assumptions.{signed, at_most_lits, each_at_most, better_lits, assumed_in, IsProperIn}

vars-positive : (xs : List ℕ) → vars_of (map positive_lit xs) ≡ xs
vars-positive [] = refl
vars-positive (x ∷ xs) = ap (λ ys. x ∷ ys) (vars-positive xs)

pub times_positive : (z : ℕ) (xs : List ℕ) → times_in z (vars_of (map positive_lit xs)) ≡ times_in z xs
times_positive z xs = ap (times_in z) (vars-positive xs)

-- literals on different variables have each variable once
none_lit_by : (z : ℕ) (l : Lit) (ls : List Lit) (t : Bool) → nat_eq z l.var ≡ t → (z ≡ l.var → ⊥) → times_in z (vars_of ls) ≡ 0 → (if t then 1 else 0) + times_in z (vars_of ls) ≡ 0
none_lit_by z l ls true e h rest = absurd (h (let s : z ≡ l.var = grind (arith, nat_tests) in s))
none_lit_by z l ls false e h rest = omega (arith, rest)

none_lit : (z : ℕ) (ls : List Lit) (d : Lit) → ((k : ℕ) → k < length ls → z ≡ (slice_index_or ls k d).var → ⊥) → times_in z (vars_of ls) ≡ 0
none_lit z [] d h = refl
none_lit z (l ∷ ls) d h = none_lit_by z l ls (nat_eq z l.var) refl (h 0 (omega arith)) (none_lit z ls d (λ k lt e. h (suc k) (omega arith) e))

once_lit_by : (z : ℕ) (l : Lit) (ls : List Lit) (t : Bool) → nat_eq z l.var ≡ t → AllPairs (λ (a b : Lit). a.var ≢ b.var) (l ∷ ls) → times_in z (vars_of ls) ≤ 1 → (if t then 1 else 0) + times_in z (vars_of ls) ≤ 1
once_lit_by z l ls true e h rest =
    let s : z ≡ l.var = grind (arith, nat_tests) in
    let n = none_lit z ls l (λ k lt is. h zero (suc k) l (omega arith) (omega arith) (sym s ∙ is)) in
    omega arith
once_lit_by z l ls false e h rest = omega (arith, rest)

pub once_from : (ls : List Lit) → AllPairs (λ (a b : Lit). a.var ≢ b.var) ls → IsOnce (vars_of ls)
once_from [] h z = omega arith
once_from (l ∷ ls) h z = once_lit_by z l ls (nat_eq z l.var) refl h (once_from ls (λ i j d lt hj. h (suc i) (suc j) d (omega arith) (omega arith)) z)

-- what the parts of an assumption take of the frame's literals
lit_under : (z : ℕ) (ls : List Lit) (k : ℕ) (d : Lit) → k < length ls → times_in z (vars_of (negated (slice_index_or ls k d) ∷ [])) ≤ times_in z (vars_of ls)
lit_under z [] k d lt = absurd (omega arith)
lit_under z (l ∷ ls) zero d lt = omega arith
lit_under z (l ∷ ls) (suc k) d lt = omega (arith, lit_under z ls k d (omega arith))

signed_under : (z : ℕ) (ls : List Lit) (w : List Bool) → times_in z (vars_of (signed ls w)) ≤ times_in z (vars_of ls)
signed_under z [] w = omega arith
signed_under z (l ∷ ls) [] = omega arith
signed_under z (l ∷ ls) (x ∷ w) = omega (arith, signed_under z ls w)

limit_by : (z : ℕ) (l : List ℕ) (x : ℕ) (t : Bool) → nat_lt x (length l) ≡ t → times_in z (vars_of (if t then negative_lit (slice_index l x) ∷ [] else [])) ≤ times_in z l
limit_by z l x true e = let lt : x < length l = grind (arith, nat_tests) in times_place z l x lt
limit_by z l x false e = omega arith

limit_under : (z : ℕ) (l : List ℕ) (x : ℕ) → times_in z (vars_of (at_most_lits l x)) ≤ times_in z l
limit_under z l x = limit_by z l x (nat_lt x (length l)) refl

times_concat : (z : ℕ) (l : List ℕ) (ls : List (List ℕ)) → times_in z (concat (l ∷ ls)) ≡ times_in z l + times_in z (concat ls)
times_concat z l ls = times_append z l (concat ls)

limits_under : (z : ℕ) (ls : List (List ℕ)) (values : List ℕ) → times_in z (vars_of (each_at_most ls values)) ≤ times_in z (concat ls)
limits_under z [] values = omega arith
limits_under z (l ∷ ls) [] = omega arith
limits_under z (l ∷ ls) (x ∷ values) = omega (arith, times_vars z (at_most_lits l x) (each_at_most ls values), limit_under z l x, limits_under z ls values, times_concat z l ls)

better_under : (z j : ℕ) (ls : List (List ℕ)) (values : List ℕ) → FitLevels values ls → j < length ls → 1 ≤ slice_index values j → times_in z (vars_of (better_lits j ls values)) ≤ times_in z (concat ls)
better_under z j [] values f lt lo = absurd (omega arith)
better_under z j (l ∷ ls) [] f lt lo = absurd f
better_under z zero (l ∷ ls) (x ∷ values) f lt lo = omega (arith, times_place z l (x - 1) (let y = f.0 in omega arith), times_concat z l ls)
better_under z (suc j) (l ∷ ls) (x ∷ values) f lt lo = omega (arith, times_vars z (at_most_lits l x) (better_lits j ls values), limit_under z l x, better_under z j ls values f.1 (omega arith) lo, times_concat z l ls)

root_under : (z : ℕ) (cs : List AgentCopy) (i : ℕ) → i < length cs → times_in z (vars_of ((copy_in cs i).root ∷ [])) ≤ times_in z (vars_of (map (λ (c : AgentCopy). c.root) cs))
root_under z [] i lt = absurd (omega arith)
root_under z (c ∷ cs) zero lt = omega arith
root_under z (c ∷ cs) (suc i) lt = omega (arith, root_under z cs i (omega arith))

away_under : (z : ℕ) (cs : List AgentCopy) (i : ℕ) → i < length cs → times_in z (copy_in cs i).away ≤ times_in z (concat (map (λ (c : AgentCopy). c.away) cs))
away_under z [] i lt = absurd (omega arith)
away_under z (c ∷ cs) zero lt = omega (arith, times_concat z c.away (map (λ (x : AgentCopy). x.away) cs))
away_under z (c ∷ cs) (suc i) lt = omega (arith, away_under z cs i (omega arith), times_concat z c.away (map (λ (x : AgentCopy). x.away) cs))

-- the two groups of literals, part by part
pub level_times : (z : ℕ) (f : Frame) → times_in z (vars_of (level_lits f)) ≡ times_in z (vars_of f.shared) + (times_in z (vars_of (roots_in f)) + (times_in z (vars_of f.asks) + times_in z (concat f.levels)))
level_times z f =
    let outputs = map positive_lit (concat f.levels) in
    omega (arith, times_vars z f.shared (roots_in f ++ (f.asks ++ outputs)), times_vars z (roots_in f) (f.asks ++ outputs), times_vars z f.asks outputs, times_positive z (concat f.levels))

pub distance_times : (z : ℕ) (f : Frame) → times_in z (vars_of (distance_lits f)) ≡ times_in z (vars_of f.shared) + (times_in z (vars_of (map (λ (c : AgentCopy). c.root) f.copies)) + times_in z (concat (map (λ (c : AgentCopy). c.away) f.copies)))
distance_times z f =
    let roots = map (λ (c : AgentCopy). c.root) f.copies in
    let outputs = concat (map (λ (c : AgentCopy). c.away) f.copies) in
    omega (arith, times_vars z f.shared (roots ++ map positive_lit outputs), times_vars z roots (map positive_lit outputs), times_positive z outputs)

-- what a claim assumes has each variable at most once
assumed_once : (f : Frame) → FrameIsDistinct f → (claim : Assertion) → IsProperIn f claim → IsOnce (vars_of (assumed_in f claim))
assumed_once f d NoModelOfConstraint p z =
    let a = d.by_levels in
    omega (arith, once_from (level_lits f) a.distinct z, level_times z f)
assumed_once f d (NoModelOfBase i) p z =
    let a = d.by_distances in
    omega (arith, once_from (distance_lits f) a.distinct z, distance_times z f, root_under z f.copies i p)
assumed_once f d (NoNearer i v k) p z =
    let a = d.by_distances in
    let c = copy_in f.copies i in
    omega (arith, once_from (distance_lits f) a.distinct z, distance_times z f, times_vars z (signed f.shared v) (c.root ∷ negative_lit (slice_index c.away (k - 1)) ∷ []), signed_under z f.shared v, root_under z f.copies i p.0, away_under z f.copies i p.0, times_place z c.away (k - 1) (let x = p.2 in let y = p.3 in omega arith))
assumed_once f d (NoBetter j values) p z =
    let a = d.by_levels in
    omega (arith, once_from (level_lits f) a.distinct z, level_times z f, times_vars z (roots_in f) (better_lits j f.levels values), better_under z j f.levels values p.1 p.0 p.2)
assumed_once f d (NoBreaker q values) p z =
    let a = d.by_levels in
    let ask = negated (slice_index_or f.asks q (positive_lit 0)) in
    omega (arith, once_from (level_lits f) a.distinct z, level_times z f, times_vars z (roots_in f) (each_at_most f.levels values ++ ask ∷ []), times_vars z (each_at_most f.levels values) (ask ∷ []), limits_under z f.levels values, lit_under z f.asks q (positive_lit 0) p.0)
assumed_once f d (NoModelWith values prefix) p z =
    let a = d.by_levels in
    omega (arith, once_from (level_lits f) a.distinct z, level_times z f, times_vars z (roots_in f) (each_at_most f.levels values ++ signed f.shared prefix), times_vars z (each_at_most f.levels values) (signed f.shared prefix), limits_under z f.levels values, signed_under z f.shared prefix)

pub assumed_apart : (f : Frame) → FrameIsDistinct f → (claim : Assertion) → IsProperIn f claim → AllPairs (λ (k l : Lit). k.var ≢ l.var) (assumed_in f claim)
assumed_apart f d claim p = pairs_apart (assumed_in f claim) (assumed_once f d claim p)
