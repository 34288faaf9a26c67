-- What one pass computes is what the definitions say.
use Rattle.std.proofs.Common.{◌≡◌, ℕ, ◌≤◌, Bool, List, [], ◌∷◌, length, map, refl, ap, sym, subst, ◌∙◌, All, inl, inr}
use Rattle.merge_model.specs.Merging.{Profile, HasModel, models_of, full_of, repeated}
use Rattle.merge_model.specs.Plain.{IsOver, distances_of}
use Rattle.merge_model.proofs.Among.{Among, among_all, among_model}
use Rattle.merge_model.proofs.Namings.{some_models}
use Rattle.merge_model.proofs.Nearest.{tables_over, vector_is}

map_same : {X Y : Type 0} (f g : X → Y) (xs : List X) → ((x : X) → Among x xs → f x ≡ g x) → map f xs ≡ map g xs
map_same f g [] h = refl
map_same f g (x ∷ xs) h =
    let here : f x ≡ g x = h x (inl refl) in
    let rest : map f xs ≡ map g xs = map_same f g xs (λ y m. h y (inr m)) in
    cc

module _ (p : Profile) (candidates : List (List Bool)) (tables : List (List (List Bool)))
    (are_models : candidates ≡ models_of p.atoms p.constraint) (are_tables : tables ≡ map (models_of p.atoms) p.bases)
    (some : All (λ models. 1 ≤ length models) tables) where
  pub consistent : All (HasModel p.atoms) p.bases
  consistent = some_models p.atoms p.bases (subst (λ (ts : List (List (List Bool))). All (λ models. 1 ≤ length models) ts) are_tables some)

  pub all_over : All (λ v. All (IsOver (length v)) tables) candidates
  all_over =
      subst (λ (vs : List (List Bool)). All (λ v. All (IsOver (length v)) tables) vs) (sym are_models)
      (among_all (λ v. All (IsOver (length v)) tables) (models_of p.atoms p.constraint) (λ v among.
      subst (λ (n : ℕ). All (IsOver n) tables) (sym (among_model p.atoms p.constraint v among).size)
      (subst (λ (ts : List (List (List Bool))). All (IsOver p.atoms) ts) (sym are_tables) (tables_over p.atoms p.bases consistent))))

  pub fulls_are : (dist : List Bool → List Bool → ℕ) → map (λ v. repeated p.times (distances_of dist tables v)) candidates ≡ map (full_of dist p) (models_of p.atoms p.constraint)
  fulls_are dist =
      ap (map (λ v. repeated p.times (distances_of dist tables v))) are_models
      ∙ map_same (λ v. repeated p.times (distances_of dist tables v)) (full_of dist p) (models_of p.atoms p.constraint)
      (λ v among. ap (λ us. repeated p.times us)
      (ap (λ ts. distances_of dist ts v) are_tables ∙ vector_is dist p.atoms v (among_model p.atoms p.constraint v among).size p.bases consistent))
