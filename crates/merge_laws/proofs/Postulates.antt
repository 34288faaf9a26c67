-- The postulates, each from the laws that it rests on.
use Rattle.std.proofs.Common.{◌≡◌, ℕ, ◌≤◌, Bool, List, [], ◌∷◌, ◌++◌, length, replicate, refl, ap, sym, subst, ◌∙◌, arith, All}
use Rattle.std.specs.List.{AllZip}
use Rattle.std.specs.List.Sorted.{IsPermutation}
use Rattle.std.specs.Ordering.{is_gt, nat_cmp}
use Rattle.std.specs.Cmp.Lexicographic.{slice_cmp}
use Rattle.std.proofs.lemmas.List.{length-map, map-append}
use Rattle.std.proofs.lemmas.List.Sorted.{IsPermutation-map, IsPermutation-append_comm, IsPermutation-sym, All-permutation}
use Rattle.std.proofs.lemmas.List.Elements.{All-append, All-cons, All-head, All-tail, All-weaker}
use Rattle.formulas.specs.declared.formula.Formula.{Formula}
use Rattle.formulas.specs.declared.formula.Formula.TheViews.{And}
use Rattle.ranks.specs.Limits.{distance_limit}
use Rattle.ranks.specs.Ranks.{IsNoWorse}
use Rattle.merge_model.specs.Merging.{IsModel, HasModel, away, vector_of}
use Rattle.merge_model.proofs.Fulls.{IsBounded}
use Rattle.merge_laws.specs.Operators.{merging, HaveSameModels}
use Rattle.merge_laws.specs.Postulates.{KeepsTheConstraint, HasAMember, IsConjunction, IgnoresWording, IsFair, KeepsAgreement, KeepsToAgreement, KeepsUnderMore, KeepsToUnderMore}
use Rattle.merge_laws.proofs.Distances.{all_four, map_some, from_zeros, away_le, away_reached, vector_same, vector_small, vector_zeros, vector_below, near_models}
use Rattle.merge_laws.proofs.Laws.{IsSymmetric, IsReflexive, IsApart, IsUnordered, IsMonotone, HasZeroLeast, IsJoined, IsStrict}
use Rattle.merge_laws.proofs.Members.{model_of_first, model_of_both, member, member_best, member_too, some_member}

-- bases with the same models, place by place: as many have one, and the other way round
zip_models : (n : ℕ) (E F : List Formula) → AllZip (HaveSameModels n) E F → All (HasModel n) E → All (HasModel n) F
zip_models n [] [] h some = some
zip_models n [] (g ∷ F) h some = absurd h
zip_models n (f ∷ E) [] h some = absurd h
zip_models n (f ∷ E) (g ∷ F) h some =
    let m = All-head (HasModel n) f E some in
    All-cons (HasModel n) g F (m.0, record { size = m.1.size; true_there = sym (h.0 m.0 m.1.size) ∙ m.1.true_there })
    (zip_models n E F h.1 (All-tail (HasModel n) f E some))

zip_back : (n : ℕ) (E F : List Formula) → AllZip (HaveSameModels n) E F → AllZip (HaveSameModels n) F E
zip_back n [] [] h = tt
zip_back n [] (g ∷ F) h = absurd h
zip_back n (f ∷ E) [] h = absurd h
zip_back n (f ∷ E) (g ∷ F) h = ((λ w s. sym (h.0 w s)), zip_back n E F h.1)

module _ (dist : List Bool → List Bool → ℕ) (rank : List ℕ → List ℕ) where
  pub keeps_the_constraint : KeepsTheConstraint (merging dist rank)
  keeps_the_constraint n c E v h = h.model

  pub has_a_member : HasAMember (merging dist rank)
  has_a_member n c E group some first = some_member dist rank n c E some first

  pub is_conjunction : IsBounded dist → IsReflexive dist → IsApart dist → IsMonotone rank → HasZeroLeast rank → IsConjunction (merging dist rank)
  is_conjunction bounded same apart monotone zero_least n c E u group at_u all_u v =
      let zeros : vector_of dist E u ≡ replicate (length E) 0 = vector_zeros dist same n E u at_u.size all_u in
      let some : All (HasModel n) E = All-weaker (λ f. IsModel n f u) (HasModel n) (λ f m. (u, m)) E all_u in (
        λ h.
            let size : length v ≡ n = h.model.size in
            let least : IsNoWorse rank (vector_of dist E v) (replicate (length (vector_of dist E v)) 0) =
            subst (λ (us : List ℕ). IsNoWorse rank (vector_of dist E v) us)
            (zeros ∙ ap (λ k. replicate k 0) (sym (length-map E (away dist v))))
            (member_best dist rank n c E v u h at_u) in
            let none : vector_of dist E v ≡ replicate (length (vector_of dist E v)) 0 =
            zero_least (vector_of dist E v) (vector_small dist bounded n E E v group size) (map_some (away dist v) E group.some_base) least in
            (h.model, near_models dist apart n E v size some (from_zeros (away dist v) E (length (vector_of dist E v)) none)),
        λ h.
            member dist rank n c E v some h.0
            (λ w m. monotone (vector_of dist E v) (vector_of dist E w) (vector_small dist bounded n E E w group m.size)
            (map_some (away dist v) E group.some_base) (vector_below dist same n E v w h.0.size h.1)),
      )

  moved : (n : ℕ) (c d : Formula) (E G : List Formula) (v : List Bool) → HaveSameModels n c d →
      ((w : List Bool) → length w ≡ n → rank (vector_of dist E w) ≡ rank (vector_of dist G w)) → All (HasModel n) G →
      merging dist rank n c E v → merging dist rank n d G v
  moved n c d E G v same alike some h =
      member dist rank n d G v some (record { size = h.model.size; true_there = sym (same v h.model.size) ∙ h.model.true_there })
      (λ w m.
      let best : IsNoWorse rank (vector_of dist E v) (vector_of dist E w) =
      member_best dist rank n c E v w h (record { size = m.size; true_there = same w m.size ∙ m.true_there }) in
      ap (λ x. is_gt (slice_cmp nat_cmp x (rank (vector_of dist G w)))) (sym (alike v h.model.size))
      ∙ ap (λ y. is_gt (slice_cmp nat_cmp (rank (vector_of dist E v)) y)) (sym (alike w m.size))
      ∙ best)

  pub ignores_wording : IsBounded dist → IsUnordered rank → IgnoresWording (merging dist rank)
  ignores_wording bounded unordered n c d E G group same alike v =
      let F = alike.0 in
      let equal : (w : List Bool) → length w ≡ n → rank (vector_of dist E w) ≡ rank (vector_of dist G w) =
      λ w size.
      unordered (vector_of dist E w) (vector_of dist G w) (vector_small dist bounded n E E w group size) (map_some (away dist w) E group.some_base)
      (subst (λ (us : List ℕ). IsPermutation us (vector_of dist G w)) (sym (vector_same dist n E F w size alike.1)) (IsPermutation-map (away dist w) F G alike.2)) in (
        λ h. moved n c d E G v same equal (All-permutation (HasModel n) F G alike.2 (zip_models n E F alike.1 h.consistent)) h,
        λ h.
            moved n d c G E v (λ w s. sym (same w s)) (λ w s. sym (equal w s))
            (zip_models n F E (zip_back n E F alike.1) (All-permutation (HasModel n) G F (IsPermutation-sym F G alike.2) h.consistent)) h,
      )

  -- a model of l nearest to the member v is no farther from k than v is from l, so it is a member too
  pub is_fair : IsBounded dist → IsReflexive dist → IsSymmetric dist → IsUnordered rank → IsMonotone rank → IsFair (merging dist rank)
  is_fair bounded same symmetric unordered monotone n c k l v group within_k within_l h at_k =
      let E = k ∷ l ∷ [] in
      let size : length v ≡ n = h.model.size in
      let near = away_reached dist n v l size (All-head (HasModel n) l [] (All-tail (HasModel n) k (l ∷ []) h.consistent)) in
      let w = near.0 in
      let sizes : length w ≡ length v = near.1.size ∙ sym size in
      let from_l : away dist w l ≤ dist w w = away_le dist w w l (record { size = refl; true_there = near.1.true_there }) in
      let from_k : away dist w k ≤ dist w v = away_le dist w v k (record { size = sym sizes; true_there = at_k }) in
      let back : dist w v ≡ dist v w = symmetric w v sizes in
      let there : dist v w ≡ away dist v l = near.2 in
      let swapped = away dist v l ∷ away dist v k ∷ [] in
      let first : IsNoWorse rank (vector_of dist E w) swapped =
      monotone (vector_of dist E w) swapped (vector_small dist bounded n E (l ∷ k ∷ []) v group size) (λ e. cc)
      (omega arith, (omega (arith, same w), tt)) in
      let turned : rank (vector_of dist E v) ≡ rank swapped =
      unordered (vector_of dist E v) swapped (vector_small dist bounded n E E v group size) (λ e. cc)
      (IsPermutation-append_comm (away dist v k ∷ []) (away dist v l ∷ [])) in (
        w,
        member_too dist rank n c E v w h (within_l w near.1) (ap (λ y. is_gt (slice_cmp nat_cmp (rank (vector_of dist E w)) y)) turned ∙ first),
        near.1.true_there,
      )

  pub keeps_agreement : IsBounded dist → IsJoined rank → KeepsAgreement (merging dist rank)
  keeps_agreement bounded joined n c E F v group_E group_F e f =
      member dist rank n c (E ++ F) v (All-append (HasModel n) E F e.consistent f.consistent) e.model
      (λ w m.
      let small : (u : List Bool) → length u ≡ n → (G : List Formula) → All (λ k. k ≤ distance_limit) (vector_of dist G u) =
      λ u size G. vector_small dist bounded n E G u group_E size in
      rw (map-append (away dist v) E F, map-append (away dist w) E F)
      (joined (vector_of dist E v) (vector_of dist E w) (vector_of dist F v) (vector_of dist F w)
      (all_four (vector_of dist E v) (vector_of dist E w) (vector_of dist F v) (vector_of dist F w)
      (small v e.model.size E) (small w m.size E) (small v e.model.size F) (small w m.size F))
      (map_some (away dist v) E group_E.some_base) (map_some (away dist v) F group_F.some_base)
      (length-map E (away dist v) ∙ sym (length-map E (away dist w))) (length-map F (away dist v) ∙ sym (length-map F (away dist w)))
      (member_best dist rank n c E v w e m) (member_best dist rank n c F v w f m)))

  pub keeps_to_agreement : IsBounded dist → IsStrict rank → KeepsToAgreement (merging dist rank)
  keeps_to_agreement bounded strict n c E F u v group_E group_F e f h =
      let small : (w : List Bool) → length w ≡ n → (G : List Formula) → All (λ k. k ≤ distance_limit) (vector_of dist G w) =
      λ w size G. vector_small dist bounded n E G w group_E size in
      let whole : IsNoWorse rank (vector_of dist E v ++ vector_of dist F v) (vector_of dist E u ++ vector_of dist F u) =
      rw (map-append (away dist v) E F, map-append (away dist u) E F) at (member_best dist rank n c (E ++ F) v u h e.model) in
      let parts =
      strict (vector_of dist E u) (vector_of dist E v) (vector_of dist F u) (vector_of dist F v)
      (all_four (vector_of dist E u) (vector_of dist E v) (vector_of dist F u) (vector_of dist F v)
      (small u e.model.size E) (small v h.model.size E) (small u e.model.size F) (small v h.model.size F))
      (map_some (away dist u) E group_E.some_base) (map_some (away dist u) F group_F.some_base)
      (length-map E (away dist u) ∙ sym (length-map E (away dist v))) (length-map F (away dist u) ∙ sym (length-map F (away dist v)))
      (member_best dist rank n c E u v e h.model) (member_best dist rank n c F u v f h.model) whole in
      (member_too dist rank n c E u v e h.model parts.0, member_too dist rank n c F u v f h.model parts.1)

  pub keeps_under_more : KeepsUnderMore (merging dist rank)
  keeps_under_more n c d E v h more =
      member dist rank n (And c d) E v h.consistent (model_of_both n c d v h.model more)
      (λ w m. member_best dist rank n c E v w h (model_of_first n c d w m))

  pub keeps_to_under_more : KeepsToUnderMore (merging dist rank)
  keeps_to_under_more n c d E u v h more both =
      member_too dist rank n c E u v h (model_of_first n c d v both.model)
      (member_best dist rank n (And c d) E v u both (model_of_both n c d u h.model more))
