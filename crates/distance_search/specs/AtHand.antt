-- Closest models at hand.
use Rattle.std.specs.Prelude.{◌≡◌, List, [], ◌∷◌, ◌++◌, All, ◌⊎◌}
use Rattle.derivation_log.specs.Logs.{Log}
use Rattle.merge_model.specs.Merging.{IsClosest}
use Rattle.distance_search.specs.declared.answer.Away.{Away}
use Rattle.distance_search.specs.Setting.{Setting}
use Rattle.distance_search.specs.Results.{IsAway}

-- a closest valuation with its exact distances, which steps of the log show
pub record IsAtHand (s : Setting) (log : Log) (found : Away) : Type 0 where
  pub closest : IsClosest s.dist s.rank s.profile found.shown.model
  pub away : IsAway s log found

-- each of them is one, as a mere fact
abbrev pub AreAtHand : Setting → Log → List Away → Type 0
AreAtHand s log pool = ∥ All (IsAtHand s log) pool ∥₁

-- a list that may have grown by one element
abbrev pub IsKept : List Away → Away → List Away → Type 0
IsKept old away new = (new ≡ old) ⊎ (new ≡ old ++ away ∷ [])
