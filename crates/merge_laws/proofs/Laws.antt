-- The laws of distances and of aggregators, as the postulates use them.
use Rattle.std.proofs.Common.{◌≡◌, ◌≢◌, ℕ, ◌≤◌, Bool, List, [], ◌++◌, length, replicate, All}
use Rattle.std.specs.List.{AllZip}
use Rattle.std.specs.List.Sorted.{IsPermutation}
use Rattle.ranks.specs.Limits.{distance_limit}
use Rattle.ranks.specs.Ranks.{IsNoWorse}

module _ (dist : List Bool → List Bool → ℕ) where
  abbrev pub IsSymmetric : Type 0
  IsSymmetric = (v w : List Bool) → length v ≡ length w → dist v w ≡ dist w v

  abbrev pub IsReflexive : Type 0
  IsReflexive = (v : List Bool) → dist v v ≡ 0

  abbrev pub IsApart : Type 0
  IsApart = (v w : List Bool) → length v ≡ length w → dist v w ≡ 0 → v ≡ w

module _ (rank : List ℕ → List ℕ) where
  abbrev pub IsUnordered : Type 0
  IsUnordered = (u w : List ℕ) → All (λ k. k ≤ distance_limit) u → u ≢ [] → IsPermutation u w → rank u ≡ rank w

  abbrev pub IsMonotone : Type 0
  IsMonotone = (u w : List ℕ) → All (λ k. k ≤ distance_limit) w → u ≢ [] → AllZip (λ j k. j ≤ k) u w → IsNoWorse rank u w

  abbrev pub HasZeroLeast : Type 0
  HasZeroLeast = (u : List ℕ) → All (λ k. k ≤ distance_limit) u → u ≢ [] → IsNoWorse rank u (replicate (length u) 0) → u ≡ replicate (length u) 0

  abbrev pub IsJoined : Type 0
  IsJoined = (u w s t : List ℕ) → All (λ k. k ≤ distance_limit) (u ++ w ++ s ++ t) → u ≢ [] → s ≢ [] → length u ≡ length w → length s ≡ length t →
      IsNoWorse rank u w → IsNoWorse rank s t → IsNoWorse rank (u ++ s) (w ++ t)

  abbrev pub IsStrict : Type 0
  IsStrict = (u w s t : List ℕ) → All (λ k. k ≤ distance_limit) (u ++ w ++ s ++ t) → u ≢ [] → s ≢ [] → length u ≡ length w → length s ≡ length t →
      IsNoWorse rank u w → IsNoWorse rank s t → IsNoWorse rank (w ++ t) (u ++ s) → IsNoWorse rank w u × IsNoWorse rank t s
