-- Closest valuations among the models of the constraint.
use Rattle.std.proofs.Common.{◌≡◌, ℕ, zero, suc, ◌+◌, ◌≤◌, ◌<◌, Bool, true, false, List, [], ◌∷◌, ◌++◌, length, map, get_or, take, refl, ap, sym, subst, ◌∙◌, arith, All, inl, inr}
use Rattle.std.specs.List.{AllZip}
use Rattle.std.proofs.lemmas.List.{length-map, get_or-map, get_or_read, take_more}
use Rattle.formulas.specs.declared.formula.Formula.{Formula}
use Rattle.formulas.specs.Formulas.{holds}
use Rattle.ranks.specs.Ranks.{IsNoWorse}
use Rattle.merge_model.specs.declared.answer.Shown.{Shown}
use Rattle.merge_model.specs.declared.answer.Verdict.{Verdict}
use Rattle.merge_model.specs.declared.answer.Verdict.TheVariants.{No}
use Rattle.merge_model.specs.Answers.{IsShown, IsVerdict, IsRightMerge}
use Rattle.merge_model.specs.Merging.{Profile, IsModel, HasModel, IsClosest, IsEntailed, models_of, away, vector_of, repeated, full_of}
use Rattle.merge_model.specs.Plain.{IsOver, IsBestOf, Refutes, nearest_of, distances_of}
use Rattle.merge_model.proofs.Among.{Among, among_all, model_among, among_model}
use Rattle.merge_model.proofs.Best.{no_worse_trans}
use Rattle.merge_model.proofs.Nearest.{tables_over, vector_is, nearest_shown}

pub among_place : {X : Type 0} (x : X) (xs : List X) (d : X) → Among x xs → (k : ℕ) × (k < length xs) × (get_or xs k d ≡ x)
among_place x [] d m = absurd m
among_place x (y ∷ ys) d (inl e) = (0, omega arith, sym e)
among_place x (y ∷ ys) d (inr m) = let r = among_place x ys d m in (suc r.0, (let less : r.0 < length ys = r.1 in omega arith), r.2)

pub place_among : {X : Type 0} (xs : List X) (k : ℕ) (d : X) → k < length xs → Among (get_or xs k d) xs
place_among [] k d less = absurd (omega arith)
place_among (x ∷ xs) zero d less = inl refl
place_among (x ∷ xs) (suc k) d less = inr (place_among xs k d (omega arith))

-- the lists of one pass over a profile, and the place of a best one
module _ (dist : List Bool → List Bool → ℕ) (rank : List ℕ → List ℕ) (p : Profile)
    (candidates : List (List Bool)) (fulls : List (List ℕ)) (best : ℕ)
    (are_models : candidates ≡ models_of p.atoms p.constraint) (are_fulls : fulls ≡ map (full_of dist p) (models_of p.atoms p.constraint))
    (consistent : All (HasModel p.atoms) p.bases) (is_best : IsBestOf rank fulls (length fulls) best) where
  pub same_length : length fulls ≡ length candidates
  same_length = ap length are_fulls ∙ length-map (models_of p.atoms p.constraint) (full_of dist p) ∙ ap length (sym are_models)

  pub full_at : (k : ℕ) → k < length candidates → get_or fulls k [] ≡ full_of dist p (get_or candidates k [])
  full_at k less =
      ap (λ xs. get_or xs k []) (are_fulls ∙ ap (map (full_of dist p)) (sym are_models)) ∙ get_or-map (full_of dist p) candidates k [] [] less

  pub model_at : (k : ℕ) → k < length candidates → IsModel p.atoms p.constraint (get_or candidates k [])
  model_at k less =
      among_model p.atoms p.constraint (get_or candidates k []) (subst (λ (xs : List (List Bool)). Among (get_or candidates k []) xs) are_models (place_among candidates k [] less))

  place_of : (w : List Bool) → IsModel p.atoms p.constraint w → (k : ℕ) × (k < length candidates) × (get_or candidates k [] ≡ w)
  place_of w m = among_place w candidates [] (subst (λ (xs : List (List Bool)). Among w xs) (sym are_models) (model_among p.atoms p.constraint w m))

  best_full : (w : List Bool) → IsModel p.atoms p.constraint w → IsNoWorse rank (get_or fulls best []) (full_of dist p w)
  best_full w m =
      let place = place_of w m in
      let below : place.0 < length fulls = (let less : place.0 < length candidates = place.1 in omega (arith, same_length)) in
      subst (λ (u : List ℕ). IsNoWorse rank (get_or fulls best []) u) (full_at place.0 place.1 ∙ ap (full_of dist p) place.2) (is_best.least place.0 below)

  -- a candidate as good as the best one is closest
  pub closest_at : (k : ℕ) → k < length candidates → IsNoWorse rank (get_or fulls k []) (get_or fulls best []) → IsClosest dist rank p (get_or candidates k [])
  closest_at k less tied = record {
    consistent = consistent;
    model = model_at k less;
    best = λ w m.
        subst (λ (u : List ℕ). IsNoWorse rank u (full_of dist p w)) (full_at k less)
        (no_worse_trans rank (get_or fulls k []) (get_or fulls best []) (full_of dist p w) tied (best_full w m));
  }

  pub best_within : best < length candidates
  best_within = let within : best < length fulls = is_best.within in omega (arith, same_length)

  pub best_closest : IsClosest dist rank p (get_or candidates best [])
  best_closest = record {
    consistent = consistent;
    model = model_at best best_within;
    best = λ w m. subst (λ (u : List ℕ). IsNoWorse rank u (full_of dist p w)) (full_at best best_within) (best_full w m);
  }

  -- a closest valuation stands among the candidates and is as good as the best one
  closest_tied : (v : List Bool) (k : ℕ) → IsClosest dist rank p v → k < length candidates → get_or candidates k [] ≡ v → IsNoWorse rank (get_or fulls k []) (get_or fulls best [])
  closest_tied v k h less is =
      subst (λ (u : List ℕ). IsNoWorse rank u (get_or fulls best [])) (sym (full_at k less ∙ ap (full_of dist p) is))
      (subst (λ (u : List ℕ). IsNoWorse rank (full_of dist p v) u) (sym (full_at best best_within)) (h.best (get_or candidates best []) (model_at best best_within)))

  pub unless_false : (b : Bool) → (b ≡ false → ⊥) → b ≡ true
  unless_false true h = refl
  unless_false false h = absurd (h refl)

  -- where no candidate refutes the query, it is entailed
  pub entailed : (ask : Formula) → ((k : ℕ) → Refutes rank candidates fulls best ask k → ⊥) → IsEntailed dist rank p ask
  entailed ask none v h =
      let place = place_of v h.model in
      unless_false (holds ask v) (λ false_at.
      none place.0 (record {
        within = place.1;
        tied = closest_tied v place.0 h place.1 place.2;
        false_there = ap (holds ask) place.2 ∙ false_at;
      }))

  -- what is computed for a valuation over the atoms is what is shown of it
  pub is_shown : (x : List Bool) (tables : List (List (List Bool))) (shown : Shown) → length x ≡ p.atoms → tables ≡ map (models_of p.atoms) p.bases →
      shown.model ≡ x → shown.vector ≡ distances_of dist tables x → shown.nearest ≡ map (nearest_of dist x) tables → IsShown dist p shown
  is_shown x tables shown size are_tables model vector nearest = record {
    vector = vector ∙ ap (λ ts. distances_of dist ts x) are_tables ∙ vector_is dist p.atoms x size p.bases consistent ∙ ap (vector_of dist p.bases) (sym model);
    nearest =
        subst (λ (ws : List (List Bool)). AllZip (λ base near. IsModel p.atoms base near × (dist shown.model near ≡ away dist shown.model base)) p.bases ws)
        (sym (nearest ∙ ap (λ ts. map (nearest_of dist x) ts) are_tables))
        (subst (λ (v : List Bool). AllZip (λ base near. IsModel p.atoms base near × (dist v near ≡ away dist v base)) p.bases (map (nearest_of dist x) (map (models_of p.atoms) p.bases)))
        (sym model)
        (nearest_shown dist p.atoms x size p.bases consistent));
  }

  pub size_at : (k : ℕ) (x : List Bool) → k < length candidates → x ≡ get_or candidates k x → length x ≡ p.atoms
  size_at k x less is = ap length (get_or_read candidates k x less is []) ∙ (model_at k less).size

  pub over_at : (k : ℕ) (x : List Bool) (tables : List (List (List Bool))) → k < length candidates → x ≡ get_or candidates k x → tables ≡ map (models_of p.atoms) p.bases → All (IsOver (length x)) tables
  over_at k x tables less is are_tables =
      subst (λ (n : ℕ). All (IsOver n) tables) (sym (size_at k x less is))
      (subst (λ (ts : List (List (List Bool))). All (IsOver p.atoms) ts) (sym are_tables) (tables_over p.atoms p.bases consistent))

  pub wide : (m : ℕ) → m ≤ p.atoms → All (λ v. m ≤ length v) candidates
  wide m few =
      subst (λ (vs : List (List Bool)). All (λ v. m ≤ length v) vs) (sym are_models)
      (among_all (λ v. m ≤ length v) (models_of p.atoms p.constraint) (λ v among. omega (arith, (among_model p.atoms p.constraint v among).size)))

  -- a no: the candidate that refutes the query
  pub refuted : (ask : Formula) (k : ℕ) (x : List Bool) (tables : List (List (List Bool))) (shown : Shown) → Refutes rank candidates fulls best ask k → x ≡ get_or candidates k x →
      tables ≡ map (models_of p.atoms) p.bases → shown.model ≡ x → shown.vector ≡ distances_of dist tables x → shown.nearest ≡ map (nearest_of dist x) tables → IsVerdict dist rank p ask (No shown)
  refuted ask k x tables shown h is are_tables model vector nearest =
      let same : get_or candidates k [] ≡ shown.model = sym (model ∙ get_or_read candidates k x h.within is []) in (
        subst (λ (v : List Bool). IsClosest dist rank p v) same (closest_at k h.within h.tied),
        is_shown x tables shown (size_at k x h.within is) are_tables model vector nearest,
        ap (holds ask) (sym same) ∙ h.false_there,
      )

  -- the first model
  pub merged_rightly : (asks : List Formula) (x : List Bool) (full : List ℕ) (tables : List (List (List Bool))) (shown : Shown) (measure : List ℕ) (verdicts : List Verdict) →
      x ≡ get_or candidates best x → full ≡ get_or fulls best full → tables ≡ map (models_of p.atoms) p.bases →
      shown.model ≡ x → shown.vector ≡ distances_of dist tables x → shown.nearest ≡ map (nearest_of dist x) tables →
      measure ≡ rank full → AllZip (IsVerdict dist rank p) asks verdicts → IsRightMerge dist rank p asks shown measure verdicts
  merged_rightly asks x full tables shown measure verdicts is full_is are_tables model vector nearest measured judged =
      let same : get_or candidates best [] ≡ shown.model = sym (model ∙ get_or_read candidates best x best_within is []) in
      let showed : IsShown dist p shown = is_shown x tables shown (size_at best x best_within is) are_tables model vector nearest in
      record {
        closest = subst (λ (v : List Bool). IsClosest dist rank p v) same best_closest;
        shown = showed;
        measured =
            measured
            ∙ ap rank
            (get_or_read fulls best full is_best.within full_is []
            ∙ full_at best best_within
            ∙ ap (full_of dist p) same
            ∙ ap (λ us. repeated p.times us) (sym showed.vector));
        judged = judged;
      }

-- one more pair of two lists
zip_push : {X Y : Type 0} (R : X → Y → Type 0) (xs : List X) (ys : List Y) (x : X) (y : Y) → AllZip R xs ys → R x y → AllZip R (xs ++ x ∷ []) (ys ++ y ∷ [])
zip_push R [] [] x y h r = (r, tt)
zip_push R [] (b ∷ ys) x y h r = absurd h
zip_push R (a ∷ xs) [] x y h r = absurd h
zip_push R (a ∷ xs) (b ∷ ys) x y h r = (h.0, zip_push R xs ys x y h.1 r)

pub zip_more : {X Y : Type 0} (R : X → Y → Type 0) (xs : List X) (ys : List Y) (i : ℕ) (x : X) (y : Y) → i < length xs → x ≡ get_or xs i x → AllZip R (take i xs) ys → R x y →
    AllZip R (take (i + 1) xs) (ys ++ y ∷ [])
zip_more {X} {Y} R xs ys i x y less is h r =
    subst (λ (zs : List X). AllZip R zs (ys ++ y ∷ [])) (sym (take_more xs i x less ∙ ap (λ z. take i xs ++ z ∷ []) (sym is))) (zip_push R (take i xs) ys x y h r)
