-- Distances of all agents may be ranked.
use Rattle.std.proofs.Common.{◌≡◌, ◌≢◌, ℕ, ◌≤◌, List, [], ◌∷◌, length, replicate, All, refl, sym, subst, arith, length-append}
use Rattle.std.specs.Prelude.{sum}
use Rattle.std.proofs.lemmas.List.{length-replicate}
use Rattle.std.proofs.lemmas.List.Sums.{sum_by-cons}
use Rattle.ranks.specs.Limits.{distance_limit, entry_limit}
use Rattle.merge_model.specs.Merging.{repeated}
use Rattle.distance_search.specs.Setting.{Setting}
use Rattle.distance_search.specs.Laws.{Laws}
use Rattle.distance_search.proofs.Least.{seen_by}

-- some entries, few, and none above the greatest distance
pub record MayRank (full : List ℕ) : Type 0 where
  pub some : 1 ≤ length full
  pub few : length full ≤ entry_limit
  pub small : All (λ k. k ≤ distance_limit) full

not_none : (us : List ℕ) → us ≢ [] → 1 ≤ length us
not_none [] h = absurd (h refl)
not_none (u ∷ us) h = omega arith

length-repeated : (ts us : List ℕ) → length us ≡ length ts → length (repeated ts us) ≡ sum ts
length-repeated [] us same = refl
length-repeated (t ∷ ts) [] same = absurd (omega arith)
length-repeated (t ∷ ts) (u ∷ us) same =
    omega (arith, length-append (replicate t u) (repeated ts us), length-replicate t u, length-repeated ts us (omega arith), sum_by-cons (λ (x : ℕ). x) t ts)

pub may_rank : (s : Setting) → Laws s → (vector full : List ℕ) → full ≡ repeated s.profile.times vector → length vector ≡ length s.profile.bases → All (λ k. k ≤ s.top) vector → MayRank full
may_rank s law vector full is sized within =
    let lim = law.limited in
    let seen = seen_by s law vector sized within in
    let long = length-repeated s.profile.times vector (omega (arith, sized, lim.lengths)) in
    let few = lim.few_times in
    subst MayRank (sym is) (record {
      some = not_none (repeated s.profile.times vector) seen.some;
      few = omega (arith, long, few);
      small = seen.small;
    })
