-- The members of M(c,E) by the vectors of distances, and that there are some.
use Rattle.std.proofs.Common.{Ordering, Less, Equal, Greater, ◌≡◌, ℕ, Bool, true, false, ◌&&◌, List, [], ◌∷◌, map, refl, ap, sym, subst, ◌∙◌, ◌⊎◌, inl, inr, All}
use Rattle.std.specs.Ordering.{is_gt, is_lt, nat_cmp}
use Rattle.std.specs.Cmp.Lexicographic.{slice_cmp}
use Rattle.formulas.specs.declared.formula.Formula.{Formula}
use Rattle.formulas.specs.declared.formula.Formula.TheViews.{And}
use Rattle.formulas.specs.Formulas.{holds}
use Rattle.formulas.proofs.Equations.{holds_and}
use Rattle.ranks.specs.Ranks.{IsNoWorse}
use Rattle.merge_model.specs.Merging.{IsModel, HasModel, models_of, away, vector_of, repeated}
use Rattle.merge_model.proofs.Among.{Among, model_among, among_model}
use Rattle.merge_model.proofs.Best.{no_worse_itself, no_worse_trans, no_worse_other}
use Rattle.merge_laws.specs.Operators.{merging}

-- bases that count once add nothing
repeated_once : {X : Type 0} (f : X → ℕ) (xs : List X) → repeated (map (λ _. 1) xs) (map f xs) ≡ map f xs
repeated_once f [] = refl
repeated_once f (x ∷ xs) = ap (λ us. f x ∷ us) (repeated_once f xs)

greater_not_less : (o : Ordering) → (is_gt o ≡ false) ⊎ (is_lt o ≡ false)
greater_not_less Less = inl refl
greater_not_less Equal = inl refl
greater_not_less Greater = inr refl

-- a model of both is a model of each
and_left : (a b : Bool) → (a && b) ≡ true → a ≡ true
and_left true b h = refl
and_left false b h = h

and_both : (a b : Bool) → a ≡ true → b ≡ true → (a && b) ≡ true
and_both true b h i = i
and_both false b h i = h

pub model_of_first : (n : ℕ) (c d : Formula) (v : List Bool) → IsModel n (And c d) v → IsModel n c v
model_of_first n c d v m = record {
  size = m.size;
  true_there = and_left (holds c v) (holds d v) (sym (holds_and v c d) ∙ m.true_there);
}

pub model_of_both : (n : ℕ) (c d : Formula) (v : List Bool) → IsModel n c v → holds d v ≡ true → IsModel n (And c d) v
model_of_both n c d v m more = record {
  size = m.size;
  true_there = holds_and v c d ∙ and_both (holds c v) (holds d v) m.true_there more;
}

module _ (dist : List Bool → List Bool → ℕ) (rank : List ℕ → List ℕ) where
  pub member_best : (n : ℕ) (c : Formula) (E : List Formula) (v w : List Bool) →
      merging dist rank n c E v → IsModel n c w → IsNoWorse rank (vector_of dist E v) (vector_of dist E w)
  member_best n c E v w h m = rw (repeated_once (away dist v) E, repeated_once (away dist w) E) at (h.best w m)

  pub member : (n : ℕ) (c : Formula) (E : List Formula) (v : List Bool) → All (HasModel n) E → IsModel n c v →
      ((w : List Bool) → IsModel n c w → IsNoWorse rank (vector_of dist E v) (vector_of dist E w)) → merging dist rank n c E v
  member n c E v some m h = record {
    consistent = some;
    model = m;
    best = λ w k. rw (repeated_once (away dist v) E, repeated_once (away dist w) E) (h w k);
  }

  -- what is no worse than a member is a member
  pub member_too : (n : ℕ) (c : Formula) (E : List Formula) (v w : List Bool) → merging dist rank n c E v → IsModel n c w →
      IsNoWorse rank (vector_of dist E w) (vector_of dist E v) → merging dist rank n c E w
  member_too n c E v w h m tied =
      member n c E w h.consistent m
      (λ x k. no_worse_trans rank (vector_of dist E w) (vector_of dist E v) (vector_of dist E x) tied (member_best n c E v x h k))

  best_of : (f : List Bool → List ℕ) (v : List Bool) (vs : List (List Bool)) →
      (w : List Bool) × Among w (v ∷ vs) × ((u : List Bool) → Among u (v ∷ vs) → IsNoWorse rank (f w) (f u))
  best_of f v [] = (v, inl refl, λ u m. elim m [ inl e ↦ rw e (no_worse_itself rank (f v)) | inr none ↦ absurd none ])
  best_of f v (x ∷ vs) =
      let rest = best_of f x vs in
      elim (greater_not_less (slice_cmp nat_cmp (rank (f v)) (rank (f rest.0)))) [
        | inl first ↦ (
          v,
          inl refl,
          λ u m. elim m [
            | inl e ↦ rw e (no_worse_itself rank (f v))
            | inr among ↦ no_worse_trans rank (f v) (f rest.0) (f u) first (rest.2 u among)
          ],
        )
        | inr other ↦ (
          rest.0,
          inr rest.1,
          λ u m. elim m [
            | inl e ↦ rw e (no_worse_other rank (f v) (f rest.0) other)
            | inr among ↦ rest.2 u among
          ],
        )
      ]

  pub some_member : (n : ℕ) (c : Formula) (E : List Formula) → All (HasModel n) E → HasModel n c → (v : List Bool) × merging dist rank n c E v
  some_member n c E some first =
      let best = best_of (vector_of dist E) first.0 (models_of n c) in
      let model : IsModel n c best.0 = elim best.1 [ inl e ↦ subst (IsModel n c) (sym e) first.1 | inr among ↦ among_model n c best.0 among ] in
      (best.0, member n c E best.0 some model (λ w m. best.2 w (inr (model_among n c w m))))
