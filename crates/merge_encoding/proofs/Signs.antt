-- Steps of the loops that write assumptions.
use Rattle.std.proofs.Common.{◌≡◌, ℕ, zero, suc, ◌+◌, ◌-◌, ◌<◌, ◌≤◌, Bool, false, List, [], ◌∷◌, ◌++◌, length, map, take, drop, refl, sym, ap, ◌∙◌, subst, arith, append_assoc}
use Rattle.std.specs.Prelude.{slice_index, slice_index_or}
use Rattle.std.proofs.lemmas.List.{get_or_default, append-nil, drop_all, drop_more}
use Rattle.clause_store.specs.declared.lit.Lit.{Lit}
use Rattle.clause_store.specs.Lits.{negative_lit, negated, positive_lit}
use Rattle.formulas.specs.Words.{truth_at}
use Rattle.aggregators.specs.Levels.{FitLevels}
use Rattle.agent_copies.specs.declared.copy.AgentCopy.{AgentCopy}
use Rattle.merge_encoding.specs.declared.frame.Frame.{Frame}
use Rattle.merge_encoding.specs.Frames.{roots_in}
use Rattle.merge_encoding.specs.Claims.{Assertion, NoBreaker, NoModelWith}
use Rattle.merge_encoding.specs.Assumptions.{signed, at_most_lits, each_at_most, better_lits, assumed_in, IsProperIn}

signed_none : (ls : List Lit) → signed ls [] ≡ []
signed_none [] = refl
signed_none (l ∷ ls) = refl

pub signed_end : (ls : List Lit) (w : List Bool) (k : ℕ) (now all : List Lit) → length w ≤ k → now ++ signed (drop k ls) (drop k w) ≡ all → now ≡ all
signed_end ls w k now all le h =
    let e : signed (drop k ls) (drop k w) ≡ [] = ap (signed (drop k ls)) (drop_all k w le) ∙ signed_none (drop k ls) in
    sym (append-nil now) ∙ ap (λ x. now ++ x) (sym e) ∙ h

truth_get : (w : List Bool) (k : ℕ) → k < length w → truth_at w k ≡ slice_index_or w k false
truth_get [] k lt = absurd (omega arith)
truth_get (x ∷ w) zero lt = refl
truth_get (x ∷ w) (suc k) lt = truth_get w k (omega arith)

pub signed_push : (ls : List Lit) (w : List Bool) (k : ℕ) (now new all : List Lit) (d : Lit) (x : Bool) → k < length ls → k < length w → x ≡ truth_at w k → new ≡ now ++ record { var = (slice_index_or ls k d).var; positive = x } ∷ [] → now ++ signed (drop k ls) (drop k w) ≡ all → new ++ signed (drop (k + 1) ls) (drop (k + 1) w) ≡ all
signed_push ls w k now new all d x lt lw is pushed h =
    let rest = signed (drop (k + 1) ls) (drop (k + 1) w) in
    let y : Lit = record { var = (slice_index_or ls k d).var; positive = x } in
    let z : Lit = record { var = (slice_index_or ls k d).var; positive = truth_at w k } in
    let e : signed (drop k ls) (drop k w) ≡ z ∷ rest = ap (λ a. signed a (drop k w)) (drop_more ls k d lt) ∙ ap (λ b. signed (slice_index_or ls k d ∷ drop (k + 1) ls) b) (drop_more w k false lw) ∙ ap (λ b. (let r : Lit = record { var = (slice_index_or ls k d).var; positive = b } in r) ∷ rest) (sym (truth_get w k lw)) in
    let same : y ≡ z = ap (λ b. let r : Lit = record { var = (slice_index_or ls k d).var; positive = b } in r) is in
    ap (λ a. a ++ rest) (pushed ∙ ap (λ a. now ++ a ∷ []) same) ∙ append_assoc now (z ∷ []) rest ∙ ap (λ a. now ++ a) (sym e) ∙ h

pub fits_at : (values : List ℕ) (levels : List (List ℕ)) (j e : ℕ) (d : List ℕ) → FitLevels values levels → j < length levels → slice_index_or values j e ≤ length (slice_index_or levels j d)
fits_at [] [] j e d f lt = absurd (omega arith)
fits_at [] (l ∷ ls) j e d f lt = absurd f
fits_at (x ∷ xs) [] j e d f lt = absurd f
fits_at (x ∷ xs) (l ∷ ls) zero e d f lt = f.0
fits_at (x ∷ xs) (l ∷ ls) (suc j) e d f lt = fits_at xs ls j e d f.1 (omega arith)

pub fit_length : (values : List ℕ) (levels : List (List ℕ)) → FitLevels values levels → length values ≡ length levels
fit_length [] [] f = refl
fit_length [] (l ∷ ls) f = absurd f
fit_length (x ∷ xs) [] f = absurd f
fit_length (x ∷ xs) (l ∷ ls) f = omega (arith, fit_length xs ls f.1)

pub better_split : (levels : List (List ℕ)) (values : List ℕ) (j e : ℕ) (d : List ℕ) → FitLevels values levels → j < length levels → each_at_most (take j levels) (take j values) ++ negative_lit (slice_index (slice_index_or levels j d) (slice_index_or values j e - 1)) ∷ [] ≡ better_lits j levels values
better_split [] values j e d f lt = absurd (omega arith)
better_split (l ∷ ls) [] j e d f lt = absurd f
better_split (l ∷ ls) (x ∷ xs) zero e d f lt = refl
better_split (l ∷ ls) (x ∷ xs) (suc j) e d f lt = append_assoc (at_most_lits l x) (each_at_most (take j ls) (take j xs)) (negative_lit (slice_index (slice_index_or ls j d) (slice_index_or xs j e - 1)) ∷ []) ∙ ap (λ y. at_most_lits l x ++ y) (better_split ls xs j e d f.1 (omega arith))

-- the levels before level j, and then level j
pub better_done : (lits mid new : List Lit) (levels : List (List ℕ)) (values : List ℕ) (j : ℕ) (level : List ℕ) (at_value off : Lit) → FitLevels values levels → j < length levels → level ≡ slice_index_or levels j level → at_value ≡ positive_lit (slice_index level (slice_index_or values j 0 - 1)) → off ≡ negated at_value →
    mid ≡ lits ++ each_at_most (take j levels) (take j values) → new ≡ mid ++ off ∷ [] → new ≡ lits ++ better_lits j levels values
better_done lits mid new levels values j level at_value off f lt is at_is off_is mid_is new_is =
    let each = each_at_most (take j levels) (take j values) in
    let e : off ≡ negative_lit (slice_index (slice_index_or levels j level) (slice_index_or values j 0 - 1)) = off_is ∙ ap negated at_is ∙ ap (λ (l : List ℕ). negative_lit (slice_index l (slice_index_or values j 0 - 1))) is in
    new_is ∙ ap (λ x. x ++ off ∷ []) mid_is ∙ append_assoc lits each (off ∷ []) ∙ ap (λ x. lits ++ x) (ap (λ l. each ++ l ∷ []) e ∙ better_split levels values j 0 level f lt)

pub roots_then : (f : Frame) (roots new rest : List Lit) (copies : List AgentCopy) → copies ≡ f.copies → roots ≡ f.constraint ∷ map (λ (c : AgentCopy). c.root) copies → new ≡ roots ++ rest → new ≡ roots_in f ++ rest
roots_then f roots new rest copies ce re ne = ne ∙ ap (λ x. x ++ rest) (re ∙ ap (λ (cs : List AgentCopy). f.constraint ∷ map (λ (c : AgentCopy). c.root) cs) ce)

-- the roots and the limits, and then the query's root negated
pub breaker_done : (f : Frame) (a : Assertion) (q : ℕ) (values limits : List ℕ) (asks lits new : List Lit) (x d : Lit) → a ≡ NoBreaker q values → IsProperIn f a → limits ≡ values → asks ≡ f.asks →
    lits ≡ roots_in f ++ each_at_most f.levels limits → x ≡ negated (slice_index_or asks q d) → new ≡ lits ++ x ∷ [] → new ≡ assumed_in f a
breaker_done f a q values limits asks lits new x d is proper ve ae lits_is x_is new_is =
    let p = subst (λ y. IsProperIn f y) is proper in
    let base : lits ≡ roots_in f ++ each_at_most f.levels values = lits_is ∙ ap (λ y. roots_in f ++ each_at_most f.levels y) ve in
    let off : x ≡ negated (slice_index_or f.asks q (positive_lit 0)) = x_is ∙ ap (λ y. negated (slice_index_or y q d)) ae ∙ ap negated (get_or_default f.asks q d (positive_lit 0) p.0) in
    new_is ∙ ap (λ y. y ++ x ∷ []) base ∙ append_assoc (roots_in f) (each_at_most f.levels values) (x ∷ []) ∙ ap (λ y. roots_in f ++ (each_at_most f.levels values ++ y ∷ [])) off ∙ ap (assumed_in f) (sym is)

-- the roots and the limits, and then the prefix
pub with_done : (f : Frame) (a : Assertion) (values limits : List ℕ) (prefix start : List Bool) (shared lits new : List Lit) → a ≡ NoModelWith values prefix → limits ≡ values → shared ≡ f.shared → start ≡ prefix →
    lits ≡ roots_in f ++ each_at_most f.levels limits → new ≡ lits ++ signed shared start → new ≡ assumed_in f a
with_done f a values limits prefix start shared lits new is ve se pe lits_is new_is =
    let base : lits ≡ roots_in f ++ each_at_most f.levels values = lits_is ∙ ap (λ y. roots_in f ++ each_at_most f.levels y) ve in
    new_is ∙ ap (λ y. y ++ signed shared start) base ∙ append_assoc (roots_in f) (each_at_most f.levels values) (signed shared start) ∙ ap (λ y. roots_in f ++ (each_at_most f.levels values ++ signed y start)) se ∙ ap (λ y. roots_in f ++ (each_at_most f.levels values ++ signed f.shared y)) pe ∙ ap (assumed_in f) (sym is)
