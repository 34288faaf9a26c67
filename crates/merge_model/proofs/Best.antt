-- The best full vector of a list, by its place.
use Rattle.std.proofs.Common.{Ordering, Less, Equal, Greater, ◌≡◌, ℕ, ◌+◌, ◌<◌, Bool, true, false, List, [], length, get_or, refl, ap, ◌∙◌, arith, ◌⊎◌, inl, inr, IsTrue, ◌↔◌}
use Rattle.std.specs.Ordering.{is_gt, is_lt, nat_cmp, ordering_reverse}
use Rattle.std.specs.Cmp.Lexicographic.{slice_cmp}
use Rattle.std.proofs.lemmas.List.{get_or_read}
use Rattle.std.proofs.lemmas.Cmp.{nat_list_cmp_total, upto, tied_itself}
use Rattle.ranks.specs.Ranks.{IsNoWorse}
use Rattle.merge_model.specs.Plain.{IsBestOf}

less_not_greater : (o : Ordering) → is_lt o ≡ true → is_gt o ≡ false
less_not_greater Less h = refl
less_not_greater Equal h = cc
less_not_greater Greater h = cc

reversed : (o : Ordering) → is_gt (ordering_reverse o) ≡ is_lt o
reversed Less = refl
reversed Equal = refl
reversed Greater = refl

pub below_or_at : (k n : ℕ) → k < n + 1 → (k < n) ⊎ (k ≡ n)
below_or_at k n h = grind arith

module _ (rank : List ℕ → List ℕ) where
  pub no_worse_itself : (u : List ℕ) → IsNoWorse rank u u
  no_worse_itself u = ap is_gt (tied_itself nat_list_cmp_total (rank u))

  pub no_worse_trans : (u w x : List ℕ) → IsNoWorse rank u w → IsNoWorse rank w x → IsNoWorse rank u x
  no_worse_trans u w x h i = upto nat_list_cmp_total (rank u) (rank w) (rank x) h i

  pub no_worse_other : (u w : List ℕ) → is_lt (slice_cmp nat_cmp (rank u) (rank w)) ≡ false → IsNoWorse rank w u
  no_worse_other u w h = ap is_gt (nat_list_cmp_total.antisymm (rank w) (rank u)) ∙ reversed (slice_cmp nat_cmp (rank u) (rank w)) ∙ h

  -- the place is better than the best one so far
  pub best_taken : (fulls : List (List ℕ)) (place best : ℕ) → IsBestOf rank fulls place best → place < length fulls →
      is_lt (slice_cmp nat_cmp (rank (get_or fulls place [])) (rank (get_or fulls best []))) ≡ true → IsBestOf rank fulls (place + 1) place
  best_taken fulls place best before within less = record {
    within = within;
    least = λ k below. elim (below_or_at k place below) [
      | inl i ↦
          no_worse_trans (get_or fulls place []) (get_or fulls best []) (get_or fulls k [])
          (less_not_greater (slice_cmp nat_cmp (rank (get_or fulls place [])) (rank (get_or fulls best []))) less)
          (before.least k i)
      | inr e ↦ rw e (no_worse_itself (get_or fulls place []))
    ];
  }

  pub best_kept : (fulls : List (List ℕ)) (place best : ℕ) → IsBestOf rank fulls place best →
      is_lt (slice_cmp nat_cmp (rank (get_or fulls place [])) (rank (get_or fulls best []))) ≡ false → IsBestOf rank fulls (place + 1) best
  best_kept fulls place best before not_less = record {
    within = before.within;
    least = λ k below. elim (below_or_at k place below) [
      | inl i ↦ before.least k i
      | inr e ↦ rw e (no_worse_other (get_or fulls place []) (get_or fulls best []) not_less)
    ];
  }

-- what the code compares is what stands in the two places
pub compared : (rank : List ℕ → List ℕ) (fulls : List (List ℕ)) (place best : ℕ) (x y u w : List ℕ) (o : Ordering) (b : Bool) →
    place < length fulls → best < length fulls → x ≡ get_or fulls place x → y ≡ get_or fulls best y → u ≡ x → w ≡ y →
    o ≡ slice_cmp nat_cmp (rank u) (rank w) → b ≡ is_lt o → is_lt (slice_cmp nat_cmp (rank (get_or fulls place [])) (rank (get_or fulls best []))) ≡ b
compared rank fulls place best x y u w o b first second at_place at_best left right order test =
    let p : x ≡ get_or fulls place [] = get_or_read fulls place x first at_place [] in
    let q : y ≡ get_or fulls best [] = get_or_read fulls best y second at_best [] in
    cc

pub not_true : (b : Bool) (P : Type 0) → IsTrue b ↔ P → b ≡ false → P → ⊥
not_true true P h e p = cc
not_true false P h e p = let bad : false ≡ true = h.1 p in cc
