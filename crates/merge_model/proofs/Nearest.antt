-- The nearest model of a list is at the least distance.
use Rattle.std.proofs.Common.{◌≡◌, ℕ, ◌≤◌, Bool, true, false, List, [], ◌∷◌, length, map, nat_lt, if◌then◌else◌, refl, ap, sym, subst, ◌∙◌, arith, inl, inr, All}
use Rattle.std.specs.List.{AllZip}
use Rattle.std.proofs.lemmas.List.Elements.{All-cons, All-nil, All-head, All-tail, All-map, All-weaker}
use Rattle.formulas.specs.declared.formula.Formula.{Formula}
use Rattle.merge_model.specs.Merging.{IsModel, HasModel, models_of, least_of, away, vector_of}
use Rattle.merge_model.specs.Plain.{IsOver, nearest_from, nearest_of, distances_of}
use Rattle.merge_model.proofs.Among.{Among, least_le, among_map, all_among, among_all, model_among, among_model}
use Rattle.ranks.proofs.Walks.{split_lt}

-- one more number that is not below the first changes no least number
skip_second : (k l : ℕ) (rest : List ℕ) → k ≤ l → least_of (k ∷ l ∷ rest) ≡ least_of (k ∷ rest)
skip_second k l [] h = omega arith
skip_second k l (m ∷ rest) h = omega arith

skip_first : (k l : ℕ) (rest : List ℕ) → l ≤ k → least_of (k ∷ l ∷ rest) ≡ least_of (l ∷ rest)
skip_first k l rest h = omega (arith, least_le l (l ∷ rest) (inl refl))

module _ (dist : List Bool → List Bool → ℕ) (v : List Bool) where
  nearest_from_is : (best : List Bool) (models : List (List Bool)) → dist v (nearest_from dist v best models) ≡ least_of (map (dist v) (best ∷ models))
  nearest_from_is best [] = refl
  nearest_from_is best (w ∷ models) =
      elim (split_lt (dist v w) (dist v best)) [
        | inl i ↦ rw i.1 (nearest_from_is w models ∙ sym (skip_first (dist v best) (dist v w) (map (dist v) models) (let l = i.0 in omega arith)))
        | inr i ↦ rw i.1 (nearest_from_is best models ∙ sym (skip_second (dist v best) (dist v w) (map (dist v) models) i.0))
      ]

  chosen_among : (b : Bool) (best w : List Bool) (models : List (List Bool)) → ((x : List Bool) → Among (nearest_from dist v x models) (x ∷ models)) →
      Among (nearest_from dist v (if b then w else best) models) (best ∷ w ∷ models)
  chosen_among true best w models rest = inr (rest w)
  chosen_among false best w models rest = elim (rest best) [ inl e ↦ inl e | inr m ↦ inr (inr m) ]

  nearest_from_among : (best : List Bool) (models : List (List Bool)) → Among (nearest_from dist v best models) (best ∷ models)
  nearest_from_among best [] = inl refl
  nearest_from_among best (w ∷ models) = chosen_among (nat_lt (dist v w) (dist v best)) best w models (λ x. nearest_from_among x models)

  pub nearest_is : (models : List (List Bool)) → 1 ≤ length models → dist v (nearest_of dist v models) ≡ least_of (map (dist v) models)
  nearest_is [] some = absurd (omega arith)
  nearest_is (w ∷ models) some = nearest_from_is w (w ∷ models) ∙ skip_first (dist v w) (dist v w) (map (dist v) models) (omega arith)

  pub nearest_among : (models : List (List Bool)) → 1 ≤ length models → Among (nearest_of dist v models) models
  nearest_among [] some = absurd (omega arith)
  nearest_among (w ∷ models) some = elim (nearest_from_among w (w ∷ models)) [ inl e ↦ inl e | inr m ↦ m ]

  pub nearest_size : (n : ℕ) (models : List (List Bool)) → IsOver n models → length (nearest_of dist v models) ≡ n
  nearest_size n models over = all_among (λ w. length w ≡ n) models over.sized (nearest_of dist v models) (nearest_among models over.some)

  pub nearest_sizes : (n : ℕ) (tables : List (List (List Bool))) → All (IsOver n) tables → All (λ w. length w ≡ n) (map (nearest_of dist v) tables)
  nearest_sizes n tables over =
      All-map (λ w. length w ≡ n) (nearest_of dist v) tables
      (All-weaker (IsOver n) (λ models. length (nearest_of dist v models) ≡ n) (λ models h. nearest_size n models h) tables over)

some_from_among : {X : Type 0} (x : X) (xs : List X) → Among x xs → 1 ≤ length xs
some_from_among x [] m = absurd m
some_from_among x (y ∷ ys) m = omega arith

pub models_over : (n : ℕ) (f : Formula) → HasModel n f → IsOver n (models_of n f)
models_over n f m = record {
  some = some_from_among m.0 (models_of n f) (model_among n f m.0 m.1);
  sized = among_all (λ w. length w ≡ n) (models_of n f) (λ w among. (among_model n f w among).size);
}

pub tables_over : (n : ℕ) (bases : List Formula) → All (HasModel n) bases → All (IsOver n) (map (models_of n) bases)
tables_over n bases h =
    All-map (IsOver n) (models_of n) bases (All-weaker (HasModel n) (λ f. IsOver n (models_of n f)) (λ f m. models_over n f m) bases h)

-- where each base has a model that is given, each has one
pub have_models : (n : ℕ) (bases : List Formula) (ws : List (List Bool)) → AllZip (IsModel n) bases ws → All (HasModel n) bases
have_models n [] [] h = All-nil (HasModel n)
have_models n [] (w ∷ ws) h = absurd h
have_models n (f ∷ bases) [] h = absurd h
have_models n (f ∷ bases) (w ∷ ws) h = All-cons (HasModel n) f bases (w, h.0) (have_models n bases ws h.1)

-- the distance to the nearest of the models is the distance to the base
module _ (dist : List Bool → List Bool → ℕ) (n : ℕ) (v : List Bool) (size : length v ≡ n) where
  nearest_away : (f : Formula) → HasModel n f → dist v (nearest_of dist v (models_of n f)) ≡ away dist v f
  nearest_away f m =
      nearest_is dist v (models_of n f) (models_over n f m).some ∙ ap (λ k. least_of (map (dist v) (models_of k f))) (sym size)

  -- no model of the base is nearer than its distance
  pub away_least : (f : Formula) (w : List Bool) → IsModel n f w → away dist v f ≤ dist v w
  away_least f w m =
      let models = models_of (length v) f in
      least_le (dist v w) (map (dist v) models)
      (among_map (dist v) w models (model_among (length v) f w (subst (λ (k : ℕ). IsModel k f w) (sym size) m)))

  pub vector_is : (bases : List Formula) → All (HasModel n) bases → distances_of dist (map (models_of n) bases) v ≡ vector_of dist bases v
  vector_is [] h = refl
  vector_is (f ∷ bases) h =
      let here : dist v (nearest_of dist v (models_of n f)) ≡ away dist v f = nearest_away f (All-head (HasModel n) f bases h) in
      let rest : distances_of dist (map (models_of n) bases) v ≡ vector_of dist bases v = vector_is bases (All-tail (HasModel n) f bases h) in
      cc

  pub nearest_shown : (bases : List Formula) → All (HasModel n) bases →
      AllZip (λ base near. IsModel n base near × (dist v near ≡ away dist v base)) bases (map (nearest_of dist v) (map (models_of n) bases))
  nearest_shown [] h = tt
  nearest_shown (f ∷ bases) h =
      let m : HasModel n f = All-head (HasModel n) f bases h in (
        (among_model n f (nearest_of dist v (models_of n f)) (nearest_among dist v (models_of n f) (models_over n f m).some), nearest_away f m),
        nearest_shown bases (All-tail (HasModel n) f bases h),
      )

  -- a model that none is nearer than is at the distance to the base
  pub away_is : (f : Formula) (w : List Bool) → IsModel n f w → ((u : List Bool) → IsModel n f u → dist v w ≤ dist v u) → dist v w ≡ away dist v f
  away_is f w m least =
      let has : HasModel n f = (w, m) in
      let u = nearest_of dist v (models_of n f) in
      let near : dist v w ≤ dist v u = least u (among_model n f u (nearest_among dist v (models_of n f) (models_over n f has).some)) in
      omega (arith, nearest_away f has, away_least f w m)

  shown_apart : (bases : List Formula) (ws : List (List Bool)) → AllZip (λ base near. IsModel n base near × (dist v near ≡ away dist v base)) bases ws →
      AllZip (IsModel n) bases ws × (map (dist v) ws ≡ vector_of dist bases v)
  shown_apart [] [] h = (tt, refl)
  shown_apart [] (w ∷ ws) h = absurd h
  shown_apart (f ∷ bases) [] h = absurd h
  shown_apart (f ∷ bases) (w ∷ ws) h =
      let here : dist v w ≡ away dist v f = h.0.1 in
      let rest = shown_apart bases ws h.1 in
      let others : map (dist v) ws ≡ vector_of dist bases v = rest.1 in
      ((h.0.0, rest.0), cc)

  -- models of the bases at the distances to them
  pub nearest_copies : (bases : List Formula) → All (HasModel n) bases → (ws : List (List Bool)) × AllZip (IsModel n) bases ws × (map (dist v) ws ≡ vector_of dist bases v)
  nearest_copies bases h =
      let ws = map (nearest_of dist v) (map (models_of n) bases) in
      let parts = shown_apart bases ws (nearest_shown bases h) in
      (ws, parts.0, parts.1)
