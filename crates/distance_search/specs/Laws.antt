-- What every setting of a problem keeps.
use Rattle.std.specs.Prelude.{◌≡◌, ◌≢◌, ℕ, ◌≤◌, Bool, List, [], length, All}
use Rattle.std.specs.List.{AllZip}
use Rattle.std.specs.Cmp.Lexicographic.{slice_cmp}
use Rattle.std.specs.Ordering.{nat_cmp}
use Rattle.ranks.specs.Limits.{distance_limit}
use Rattle.ranks.specs.Ranks.{IsNoWorse}
use Rattle.merge_encoding.specs.Frames.{frame_of, IsFrameOver, FrameIsDistinct}
use Rattle.merge_encoding.specs.MainDues.{IsLimited, IsMain}
use Rattle.distance_search.specs.Setting.{Setting}

-- A setting is that of a problem within the limits. Its main clauses mean what they should, and their frame is over
-- their variables and distinct. Its distance stays within the top. Its aggregator's order is monotone, and is that of
-- the level values
pub record Laws (s : Setting) : Type 0 where
  pub limited : IsLimited s.profile s.asks
  pub small : s.top ≤ distance_limit
  pub main : IsMain s.dist s.top s.values_of s.profile s.asks s.main
  pub over : IsFrameOver s.main.vars (frame_of s.main)
  pub distinct : FrameIsDistinct (frame_of s.main)
  pub within : (v w : List Bool) → length v ≡ s.profile.atoms → length w ≡ s.profile.atoms → s.dist v w ≤ s.top
  pub monotone : (u w : List ℕ) → All (λ k. k ≤ distance_limit) w → u ≢ [] → AllZip (λ j k. j ≤ k) u w → IsNoWorse s.rank u w
  pub order : (u w : List ℕ) → All (λ k. k ≤ s.top) u → All (λ k. k ≤ s.top) w → length u ≡ length w → slice_cmp nat_cmp (s.values_of u s.top) (s.values_of w s.top) ≡ slice_cmp nat_cmp (s.rank u) (s.rank w)
