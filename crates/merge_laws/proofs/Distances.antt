-- Distances to bases: no model is nearer, some model is as near, and the wording does not matter.
use Rattle.std.proofs.Common.{◌≡◌, ◌≢◌, ℕ, ◌≤◌, Bool, List, [], ◌∷◌, ◌++◌, length, map, filter, replicate, zero, suc, refl, ap, sym, ◌∙◌, arith, inl, inr, All}
use Rattle.std.specs.List.{AllZip}
use Rattle.std.proofs.lemmas.List.Elements.{All-append, All-map, All-nil, All-cons, All-head, All-tail, All-weaker}
use Rattle.formulas.specs.declared.formula.Formula.{Formula}
use Rattle.formulas.specs.Formulas.{holds}
use Rattle.formulas.specs.Words.{all_words}
use Rattle.merge_model.specs.Merging.{IsModel, HasModel, models_of, least_of, away, vector_of}
use Rattle.merge_model.specs.Plain.{nearest_of}
use Rattle.merge_model.proofs.Among.{Among, least_le, among_map, model_among, words_size}
use Rattle.merge_model.proofs.Fulls.{IsBounded, away_within}
use Rattle.merge_model.proofs.Nearest.{nearest_shown}
use Rattle.ranks.specs.Limits.{distance_limit}
use Rattle.merge_laws.specs.Operators.{IsGroup, HaveSameModels}
use Rattle.merge_laws.proofs.Laws.{IsReflexive, IsApart}

filter_alike : {X : Type 0} (p q : X → Bool) (xs : List X) → ((x : X) → Among x xs → p x ≡ q x) → filter p xs ≡ filter q xs
filter_alike p q [] h = refl
filter_alike p q (x ∷ xs) h = cc (h x (inl refl), filter_alike p q xs (λ y m. h y (inr m)))

-- both lists of four parts are within a bound where each part is
pub all_four : (u w s t : List ℕ) → All (λ k. k ≤ distance_limit) u → All (λ k. k ≤ distance_limit) w → All (λ k. k ≤ distance_limit) s → All (λ k. k ≤ distance_limit) t → All (λ k. k ≤ distance_limit) (u ++ w ++ s ++ t)
all_four u w s t at_u at_w at_s at_t =
    let small = λ (k : ℕ). k ≤ distance_limit in
    All-append small (u ++ w ++ s) t (All-append small (u ++ w) s (All-append small u w at_u at_w) at_s) at_t

pub map_some : {X Y : Type 0} (f : X → Y) (xs : List X) → xs ≢ [] → map f xs ≢ []
map_some f [] some = λ e. some refl
map_some f (x ∷ xs) some = λ e. cc

zeros_map : {X : Type 0} (f : X → ℕ) (xs : List X) → All (λ x. f x ≡ 0) xs → map f xs ≡ replicate (length xs) 0
zeros_map f [] h = refl
zeros_map f (x ∷ xs) h = let e = All-head (λ y. f y ≡ 0) x xs h in let r = zeros_map f xs (All-tail (λ y. f y ≡ 0) x xs h) in cc

pub from_zeros : {X : Type 0} (f : X → ℕ) (xs : List X) (n : ℕ) → map f xs ≡ replicate n 0 → All (λ x. f x ≡ 0) xs
from_zeros f [] n h = All-nil (λ x. f x ≡ 0)
from_zeros f (x ∷ xs) zero h = absurd (cc)
from_zeros f (x ∷ xs) (suc n) h = All-cons (λ y. f y ≡ 0) x xs (cc) (from_zeros f xs n (cc))

zeros_below : {X : Type 0} (f g : X → ℕ) (xs : List X) → All (λ x. f x ≡ 0) xs → AllZip (λ j k. j ≤ k) (map f xs) (map g xs)
zeros_below f g [] h = tt
zeros_below f g (x ∷ xs) h = ((let e = All-head (λ y. f y ≡ 0) x xs h in omega arith), zeros_below f g xs (All-tail (λ y. f y ≡ 0) x xs h))

module _ (dist : List Bool → List Bool → ℕ) where
  -- no model is nearer
  pub away_le : (v w : List Bool) (f : Formula) → IsModel (length v) f w → away dist v f ≤ dist v w
  away_le v w f m =
      least_le (dist v w) (map (dist v) (models_of (length v) f))
      (among_map (dist v) w (models_of (length v) f) (model_among (length v) f w m))

  -- and a model is that near
  pub away_reached : (n : ℕ) (v : List Bool) (f : Formula) → length v ≡ n → HasModel n f → (w : List Bool) × IsModel n f w × (dist v w ≡ away dist v f)
  away_reached n v f size m =
      let near = (nearest_shown dist n v size (f ∷ []) (All-cons (HasModel n) f [] m (All-nil (HasModel n)))).0 in
      (nearest_of dist v (models_of n f), near.0, near.1)

  -- formulas with the same models are equally far
  away_same : (v : List Bool) (f g : Formula) → HaveSameModels (length v) f g → away dist v f ≡ away dist v g
  away_same v f g h =
      ap (λ models. least_of (map (dist v) models))
      (filter_alike (holds f) (holds g) (all_words (length v)) (λ w m. h w (words_size (length v) w m)))

  pub vector_same : (n : ℕ) (E F : List Formula) (v : List Bool) → length v ≡ n → AllZip (HaveSameModels n) E F → vector_of dist E v ≡ vector_of dist F v
  vector_same n [] [] v size h = refl
  vector_same n [] (g ∷ F) v size h = absurd h
  vector_same n (f ∷ E) [] v size h = absurd h
  vector_same n (f ∷ E) (g ∷ F) v size h =
      let e = away_same v f g (λ w s. h.0 w (s ∙ size)) in
      let r = vector_same n E F v size h.1 in
      cc

  -- every distance to a base is at most 4,096
  pub vector_small : IsBounded dist → (n : ℕ) (E F : List Formula) (v : List Bool) → IsGroup n E → length v ≡ n → All (λ k. k ≤ distance_limit) (vector_of dist F v)
  vector_small bounded n E F v group size =
      All-map (λ k. k ≤ distance_limit) (away dist v) F
      (λ i f within. away_within dist distance_limit v _ (λ w same. bounded v w same (rw size group.some_atom) (rw size group.few_atoms)))

  models_near : IsReflexive dist → (n : ℕ) (E : List Formula) (v : List Bool) → length v ≡ n → All (λ f. IsModel n f v) E → All (λ f. away dist v f ≡ 0) E
  models_near same n E v size h =
      All-weaker (λ f. IsModel n f v) (λ f. away dist v f ≡ 0)
      (λ f m. omega (arith, away_le v v f (record { size = refl; true_there = m.true_there }), same v)) E h

  -- a model of every base has zeros for its vector, which is nowhere above another's
  pub vector_zeros : IsReflexive dist → (n : ℕ) (E : List Formula) (v : List Bool) → length v ≡ n → All (λ f. IsModel n f v) E → vector_of dist E v ≡ replicate (length E) 0
  vector_zeros same n E v size h = zeros_map (away dist v) E (models_near same n E v size h)

  pub vector_below : IsReflexive dist → (n : ℕ) (E : List Formula) (v w : List Bool) → length v ≡ n → All (λ f. IsModel n f v) E →
      AllZip (λ j k. j ≤ k) (vector_of dist E v) (vector_of dist E w)
  vector_below same n E v w size h = zeros_below (away dist v) (away dist w) E (models_near same n E v size h)

  -- what is at 0 from a base is a model of it
  pub near_models : IsApart dist → (n : ℕ) (E : List Formula) (v : List Bool) → length v ≡ n → All (HasModel n) E → All (λ f. away dist v f ≡ 0) E → All (λ f. IsModel n f v) E
  near_models apart n [] v size some h = All-nil (λ f. IsModel n f v)
  near_models apart n (f ∷ E) v size some h =
      let r = away_reached n v f size (All-head (HasModel n) f E some) in
      let none : away dist v f ≡ 0 = All-head (λ g. away dist v g ≡ 0) f E h in
      let here : v ≡ r.0 = apart v r.0 (size ∙ sym r.1.size) (r.2 ∙ none) in
      All-cons (λ g. IsModel n g v) f E (record { size = size; true_there = ap (holds f) here ∙ r.1.true_there })
      (near_models apart n E v size (All-tail (HasModel n) f E some) (All-tail (λ g. away dist v g ≡ 0) f E h))
