-- Least level values are those of closest valuations.
use Rattle.std.proofs.Common.{◌≡◌, ◌≢◌, ℕ, zero, suc, ◌+◌, ◌≤◌, Bool, true, false, List, [], ◌∷◌, ◌++◌, length, map, take, replicate, All, refl, ap, sym, ◌∙◌, subst, arith}
use Rattle.std.specs.List.{AllZip}
use Rattle.std.specs.Cmp.Lexicographic.{slice_cmp}
use Rattle.std.specs.Ordering.{is_gt, nat_cmp}
use Rattle.std.proofs.lemmas.List.{length-map}
use Rattle.std.proofs.lemmas.List.Elements.{All-cons, All-nil, All-head, All-weaker, length_all_zip}
use Rattle.formulas.specs.declared.formula.Formula.{Formula}
use Rattle.formulas.specs.Formulas.{holds}
use Rattle.ranks.specs.Limits.{distance_limit}
use Rattle.merge_model.specs.Merging.{IsModel, HasModel, away, vector_of, repeated, full_of, IsClosest}
use Rattle.merge_model.proofs.Nearest.{away_least, nearest_copies, have_models}
use Rattle.merge_model.proofs.Fulls.{repeated_small}
use Rattle.aggregators.specs.Levels.{FitLevels}
use Rattle.merge_encoding.specs.Claims.{NoBreaker, NoModelWith, IsCandidate, AreUpTo, ask_at}
use Rattle.distance_search.specs.Setting.{Setting}
use Rattle.distance_search.specs.Laws.{Laws}
use Rattle.distance_search.specs.Replies.{IsTrueIn}
use Rattle.distance_search.specs.LevelValues.{true_values, values_in, IsLeast}
use Rattle.merge_encoding.proofs.ValueOrders.{NotAbove, chained, one_list, up_itself, up_to_lex, no_first_lower, better_is_below}
use Rattle.merge_encoding.proofs.Signs.{fit_length}

-- the copies' distances are no less than the true ones
copies_up : (dist : List Bool → List Bool → ℕ) (n : ℕ) (v : List Bool) → length v ≡ n → (fs : List Formula) (ws : List (List Bool)) → AllZip (IsModel n) fs ws → AreUpTo (map (away dist v) fs) (map (dist v) ws)
copies_up dist n v e [] [] h = tt
copies_up dist n v e [] (w ∷ ws) h = absurd h
copies_up dist n v e (f ∷ fs) [] h = absurd h
copies_up dist n v e (f ∷ fs) (w ∷ ws) h = (away_least dist n v e f w h.0, copies_up dist n v e fs ws h.1)

replicate_up : (t j k : ℕ) (us vs : List ℕ) → j ≤ k → AreUpTo us vs → AreUpTo (replicate t j ++ us) (replicate t k ++ vs)
replicate_up zero j k us vs h r = r
replicate_up (suc t) j k us vs h r = (h, replicate_up t j k us vs h r)

repeated_up : (ts us vs : List ℕ) → AreUpTo us vs → AreUpTo (repeated ts us) (repeated ts vs)
repeated_up [] us vs h = tt
repeated_up (t ∷ ts) [] [] h = tt
repeated_up (t ∷ ts) [] (v ∷ vs) h = absurd h
repeated_up (t ∷ ts) (u ∷ us) [] h = absurd h
repeated_up (t ∷ ts) (u ∷ us) (v ∷ vs) h = replicate_up t u v (repeated ts us) (repeated ts vs) h.0 (repeated_up ts us vs h.1)

dists_within : (s : Setting) → Laws s → (v : List Bool) → length v ≡ s.profile.atoms → (fs : List Formula) (ws : List (List Bool)) → AllZip (IsModel s.profile.atoms) fs ws → All (λ k. k ≤ s.top) (map (s.dist v) ws)
dists_within s law v e [] [] h = All-nil (λ k. k ≤ s.top)
dists_within s law v e [] (w ∷ ws) h = absurd h
dists_within s law v e (f ∷ fs) [] h = absurd h
dists_within s law v e (f ∷ fs) (w ∷ ws) h =
    let m = h.0 in
    All-cons (λ k. k ≤ s.top) (s.dist v w) (map (s.dist v) ws) (law.within v w e m.size) (dists_within s law v e fs ws h.1)

not_empty : (ts us : List ℕ) → 1 ≤ length us → length us ≡ length ts → All (λ t. 1 ≤ t) ts → repeated ts us ≢ []
not_empty [] us some same h bad = omega arith
not_empty (t ∷ ts) [] some same h bad = omega arith
not_empty (zero ∷ ts) (u ∷ us) some same h bad = let x = All-head (λ t. 1 ≤ t) zero ts h in omega arith
not_empty (suc t ∷ ts) (u ∷ us) some same h bad = cc

zip_long : (n : ℕ) (fs : List Formula) (ws : List (List Bool)) → AllZip (IsModel n) fs ws → length fs ≡ length ws
zip_long n [] [] h = refl
zip_long n [] (w ∷ ws) h = absurd h
zip_long n (f ∷ fs) [] h = absurd h
zip_long n (f ∷ fs) (w ∷ ws) h = ap suc (zip_long n fs ws h.1)

-- full lists as the order sees them
pub record AreSeen (s : Setting) (us : List ℕ) : Type 0 where
  pub some : us ≢ []
  pub within : All (λ k. k ≤ s.top) us
  pub small : All (λ k. k ≤ distance_limit) us

pub seen_by : (s : Setting) → Laws s → (us : List ℕ) → length us ≡ length s.profile.bases → All (λ k. k ≤ s.top) us → AreSeen s (repeated s.profile.times us)
seen_by s law us e h =
    let lim = law.limited in
    let w = repeated_small s.top s.profile.times us h in
    let top = law.small in
    record {
      some = not_empty s.profile.times us (omega (arith, e, lim.some_base)) (e ∙ lim.lengths) lim.each_counts;
      within = w;
      small = All-weaker (λ k. k ≤ s.top) (λ k. k ≤ distance_limit) (λ k le. omega arith) (repeated s.profile.times us) w;
    }

copies_long : (s : Setting) (v : List Bool) (ws : List (List Bool)) → AllZip (IsModel s.profile.atoms) s.profile.bases ws → length (map (s.dist v) ws) ≡ length s.profile.bases
copies_long s v ws h = length-map ws (s.dist v) ∙ sym (zip_long s.profile.atoms s.profile.bases ws h)

seen_copies : (s : Setting) → Laws s → (v : List Bool) (ws : List (List Bool)) → length v ≡ s.profile.atoms → AllZip (IsModel s.profile.atoms) s.profile.bases ws → AreSeen s (repeated s.profile.times (map (s.dist v) ws))
seen_copies s law v ws e h = seen_by s law (map (s.dist v) ws) (copies_long s v ws h) (dists_within s law v e s.profile.bases ws h)

seen_truth : (s : Setting) → Laws s → (v : List Bool) → length v ≡ s.profile.atoms → All (HasModel s.profile.atoms) s.profile.bases → AreSeen s (full_of s.dist s.profile v)
seen_truth s law v e have =
    let c = nearest_copies s.dist s.profile.atoms v e s.profile.bases have in
    subst (λ us. AreSeen s (repeated s.profile.times us)) c.2 (seen_copies s law v c.0 e c.1)

-- a model of the constraint with its nearest copies is a candidate with the true level values
pub truth_is_candidate : (s : Setting) → All (HasModel s.profile.atoms) s.profile.bases → (v : List Bool) → IsModel s.profile.atoms s.profile.constraint v → (ws : List (List Bool)) × IsCandidate s.profile v ws × (values_in s v ws ≡ true_values s v)
truth_is_candidate s have v m =
    let c = nearest_copies s.dist s.profile.atoms v m.size s.profile.bases have in
    (c.0, record { model = m; models = c.1 }, ap (λ us. s.values_of (repeated s.profile.times us) s.top) c.2)

-- the level values of a candidate fit the levels
pub values_fit : (s : Setting) → Laws s → (v : List Bool) (ws : List (List Bool)) → IsCandidate s.profile v ws → FitLevels (values_in s v ws) s.main.levels
values_fit s law v ws c =
    let m = c.model in
    let main = law.main in
    main.levels_fit (map (s.dist v) ws) (copies_long s v ws c.models) (dists_within s law v m.size s.profile.bases ws c.models)

values_long : (s : Setting) → Laws s → (v : List Bool) (ws : List (List Bool)) → IsCandidate s.profile v ws → length (values_in s v ws) ≡ length s.main.levels
values_long s law v ws c = fit_length (values_in s v ws) s.main.levels (values_fit s law v ws c)

-- no candidate is lexicographically below the least values
pub least_below : (s : Setting) → Laws s → (values : List ℕ) → IsLeast s values → (v : List Bool) (ws : List (List Bool)) → IsCandidate s.profile v ws → NotAbove values (values_in s v ws)
least_below s law values least v ws c = no_first_lower (values_in s v ws) values (values_long s law v ws c ∙ sym least.0) (λ j lt b. least.1 j lt v ws c b)

full_long : (ts us vs : List ℕ) → length us ≡ length vs → length (repeated ts us) ≡ length (repeated ts vs)
full_long [] us vs e = refl
full_long (t ∷ ts) [] [] e = refl
full_long (t ∷ ts) [] (v ∷ vs) e = absurd (omega arith)
full_long (t ∷ ts) (u ∷ us) [] e = absurd (omega arith)
full_long (t ∷ ts) (u ∷ us) (v ∷ vs) e = more t (full_long ts us vs (omega arith))
  where
    more : (n : ℕ) → length (repeated ts us) ≡ length (repeated ts vs) → length (replicate n u ++ repeated ts us) ≡ length (replicate n v ++ repeated ts vs)
    more zero h = h
    more (suc n) h = ap suc (more n h)

vectors_long : (s : Setting) (v u : List Bool) → length (vector_of s.dist s.profile.bases v) ≡ length (vector_of s.dist s.profile.bases u)
vectors_long s v u = length-map s.profile.bases (away s.dist v) ∙ sym (length-map s.profile.bases (away s.dist u))

-- the order of ranks of two true vectors is that of their level values
pub truths_order : (s : Setting) → Laws s → All (HasModel s.profile.atoms) s.profile.bases → (v u : List Bool) → length v ≡ s.profile.atoms → length u ≡ s.profile.atoms →
    slice_cmp nat_cmp (true_values s v) (true_values s u) ≡ slice_cmp nat_cmp (s.rank (full_of s.dist s.profile v)) (s.rank (full_of s.dist s.profile u))
truths_order s law have v u ev eu =
    let a = seen_truth s law v ev have in
    let b = seen_truth s law u eu have in
    law.order (full_of s.dist s.profile v) (full_of s.dist s.profile u) a.within b.within (full_long s.profile.times (vector_of s.dist s.profile.bases v) (vector_of s.dist s.profile.bases u) (vectors_long s v u))

-- the true level values are no worse than those of any copies
pub truth_no_worse : (s : Setting) → Laws s → (v : List Bool) (ws : List (List Bool)) → IsCandidate s.profile v ws → NotAbove (true_values s v) (values_in s v ws)
truth_no_worse s law v ws c =
    let m = c.model in
    let have = have_models s.profile.atoms s.profile.bases ws c.models in
    let up = repeated_up s.profile.times (vector_of s.dist s.profile.bases v) (map (s.dist v) ws) (copies_up s.dist s.profile.atoms v m.size s.profile.bases ws c.models) in
    let a = seen_truth s law v m.size have in
    let b = seen_copies s law v ws m.size c.models in
    ap is_gt (law.order (full_of s.dist s.profile v) (repeated s.profile.times (map (s.dist v) ws)) a.within b.within (length_all_zip (λ j k. j ≤ k) (full_of s.dist s.profile v) (repeated s.profile.times (map (s.dist v) ws)) up))
    ∙ law.monotone (full_of s.dist s.profile v) (repeated s.profile.times (map (s.dist v) ws)) b.small a.some up

truth_long : (s : Setting) → Laws s → All (HasModel s.profile.atoms) s.profile.bases → (v : List Bool) → IsModel s.profile.atoms s.profile.constraint v → length (true_values s v) ≡ length s.main.levels
truth_long s law have v m =
    let c = truth_is_candidate s have v m in
    ap length (sym c.2) ∙ values_long s law v c.0 c.1

-- closest, from the refuted claims
pub least_closest : (s : Setting) → Laws s → (v : List Bool) (ws : List (List Bool)) (values : List ℕ) → IsLeast s values → IsCandidate s.profile v ws → AreUpTo (values_in s v ws) values → IsClosest s.dist s.rank s.profile v × (true_values s v ≡ values)
least_closest s law v ws values least c up =
    let m = c.model in
    let have = have_models s.profile.atoms s.profile.bases ws c.models in
    let own = truth_is_candidate s have v m in
    let below : NotAbove values (true_values s v) = subst (λ us. NotAbove values us) own.2 (least_below s law values least v own.0 own.1) in
    let above : NotAbove (true_values s v) values = chained (true_values s v) (values_in s v ws) values (truth_no_worse s law v ws c) (up_to_lex (values_in s v ws) values up) in
    let same : true_values s v ≡ values = one_list (true_values s v) values (truth_long s law have v m ∙ sym least.0) above below in (
      record {
        consistent = have;
        model = m;
        best = λ u mu.
            let its = truth_is_candidate s have u mu in
            let lower : NotAbove values (true_values s u) = subst (λ us. NotAbove values us) its.2 (least_below s law values least u its.0 its.1) in
            ap is_gt (sym (truths_order s law have v u m.size mu.size)) ∙ subst (λ us. NotAbove us (true_values s u)) (sym same) lower;
      },
      same,
    )

-- the level values of a closest valuation are least
pub closest_least : (s : Setting) → Laws s → (v : List Bool) → IsClosest s.dist s.rank s.profile v → IsLeast s (true_values s v)
closest_least s law v closest =
    let m = closest.model in (
      truth_long s law closest.consistent v m,
      λ j lt u us c b.
          let mu = c.model in
          let no_worse : NotAbove (true_values s v) (true_values s u) = ap is_gt (truths_order s law closest.consistent v u m.size mu.size) ∙ closest.best u mu in
          better_is_below j (values_in s u us) (true_values s v) b (chained (true_values s v) (true_values s u) (values_in s u us) no_worse (truth_no_worse s law u us c)),
    )

-- all closest valuations have one list of level values
pub closest_values : (s : Setting) → Laws s → (v u : List Bool) → IsClosest s.dist s.rank s.profile v → IsClosest s.dist s.rank s.profile u → true_values s v ≡ true_values s u
closest_values s law v u a b =
    let mv = a.model in
    let mu = b.model in
    one_list (true_values s v) (true_values s u) (truth_long s law a.consistent v mv ∙ sym (truth_long s law b.consistent u mu))
    (ap is_gt (truths_order s law a.consistent v u mv.size mu.size) ∙ a.best u mu)
    (ap is_gt (truths_order s law b.consistent u v mu.size mv.size) ∙ b.best v mv)

-- each closest valuation has copies with exactly the least values
pub closest_candidate : (s : Setting) → (v : List Bool) (values : List ℕ) → IsClosest s.dist s.rank s.profile v → true_values s v ≡ values → (ws : List (List Bool)) × IsCandidate s.profile v ws × AreUpTo (values_in s v ws) values
closest_candidate s v values a e =
    let c = truth_is_candidate s a.consistent v a.model in
    (c.0, c.1, subst (λ us. AreUpTo (values_in s v c.0) us) (c.2 ∙ e) (up_itself (values_in s v c.0)))

unless_false : (b : Bool) → (b ≡ false → ⊥) → b ≡ true
unless_false true h = refl
unless_false false h = absurd (h refl)

-- a query holds at each closest valuation, from a refuted claim
pub entailed_from : (s : Setting) → Laws s → (q : ℕ) (best : List Bool) (values : List ℕ) → IsClosest s.dist s.rank s.profile best → true_values s best ≡ values → IsTrueIn s (NoBreaker q values) → (v : List Bool) → IsClosest s.dist s.rank s.profile v → holds (ask_at s.asks q) v ≡ true
entailed_from s law q best values is e claim v a =
    let c = closest_candidate s v values a (closest_values s law v best a is ∙ e) in
    unless_false (holds (ask_at s.asks q) v) (λ no. claim v c.0 c.1 no c.2)

-- no closest valuation begins so
pub none_with : (s : Setting) → Laws s → (prefix : List Bool) (best : List Bool) (values : List ℕ) → IsClosest s.dist s.rank s.profile best → true_values s best ≡ values → IsTrueIn s (NoModelWith values prefix) → (v : List Bool) → IsClosest s.dist s.rank s.profile v → take (length prefix) v ≡ prefix → ⊥
none_with s law prefix best values is e claim v a b =
    let c = closest_candidate s v values a (closest_values s law v best a is ∙ e) in
    claim v c.0 c.1 b c.2

-- a candidate within the values of a closest valuation is closest
pub closest_from : (s : Setting) → Laws s → (best v : List Bool) (ws : List (List Bool)) (values : List ℕ) → IsClosest s.dist s.rank s.profile best → true_values s best ≡ values → IsCandidate s.profile v ws → AreUpTo (values_in s v ws) values → IsClosest s.dist s.rank s.profile v
closest_from s law best v ws values is e c up =
    let least : IsLeast s values = subst (λ us. IsLeast s us) e (closest_least s law best is) in
    (least_closest s law v ws values least c up).0
