-- What the answers of a search promise.
use Rattle.std.specs.Prelude.{◌≡◌, ℕ, ◌≤◌, Bool, false, List, All, length, take, Option, None, Some, slice_get}
use Rattle.formulas.specs.declared.formula.Formula.{Formula}
use Rattle.formulas.specs.Formulas.{holds}
use Rattle.derivation_log.specs.Logs.{Log}
use Rattle.merge_model.specs.Merging.{IsModel, HasModel, repeated, IsClosest, IsEntailed}
use Rattle.merge_model.specs.Answers.{IsShown}
use Rattle.merge_encoding.specs.Claims.{Assertion, NoModelOfConstraint, NoModelOfBase, NoNearer, NoBetter, NoBreaker, base_at, ask_at}
use Rattle.distance_search.specs.declared.answer.Away.{Away}
use Rattle.distance_search.specs.declared.answer.Best.{Best}
use Rattle.distance_search.specs.declared.answer.Consistency.{Consistency}
use Rattle.distance_search.specs.declared.answer.Entails.{Entails}
use Rattle.distance_search.specs.declared.answer.Entails.TheVariants.{Yes, No}
use Rattle.distance_search.specs.declared.answer.Named.{Named}
use Rattle.distance_search.specs.declared.answer.Named.TheVariants.{Model, Empty}
use Rattle.distance_search.specs.Setting.{Setting}
use Rattle.distance_search.specs.Replies.{Shows}
use Rattle.distance_search.specs.LevelValues.{true_values}

-- the constraint and each base have a model
pub record IsConsistent (s : Setting) : Type 0 where
  pub constraint : HasModel s.profile.atoms s.profile.constraint
  pub bases : All (HasModel s.profile.atoms) s.profile.bases

-- the number of a step that refutes what the claim assumes, and none exactly at 0
abbrev pub IsProven : Setting → Log → ℕ → Assertion → Option ℕ → Type 0
IsProven s log k claim None = k ≡ 0
IsProven s log k claim (Some step) = (1 ≤ k) × Shows s log step claim

-- for each number the step of its claim, which goes by its place and by itself
pub record AreProven (s : Setting) (log : Log) (claim : ℕ → ℕ → Assertion) (numbers : List ℕ) (steps : List (Option ℕ)) : Type 0 where
  pub count : length steps ≡ length numbers
  pub each : (i k : ℕ) (step : Option ℕ) → slice_get numbers i ≡ Some k → slice_get steps i ≡ Some step → IsProven s log k (claim i k) step

-- the steps show that no model of a base is nearer to the valuation than the distance to that base
abbrev pub AreFar : Setting → Log → List Bool → List ℕ → List (Option ℕ) → Type 0
AreFar s log v vector steps = AreProven s log (λ i k. NoNearer i v k) vector steps

-- the steps show that no level can be below its value while those before it are at most theirs
abbrev pub AreLeast : Setting → Log → List ℕ → List (Option ℕ) → Type 0
AreLeast s log values steps = AreProven s log (λ j k. NoBetter j values) values steps

-- the distances of a valuation are exact, and the steps show it
pub record IsAway (s : Setting) (log : Log) (found : Away) : Type 0 where
  pub shown : IsShown s.dist s.profile found.shown
  pub far : AreFar s log found.shown.model found.shown.vector found.far

-- a closest valuation with its exact distances, their rank and their level values
pub record IsBestFor (s : Setting) (best : Best) : Type 0 where
  pub closest : IsClosest s.dist s.rank s.profile best.shown.model
  pub shown : IsShown s.dist s.profile best.shown
  pub measure : best.measure ≡ s.rank (repeated s.profile.times best.shown.vector)
  pub values : best.values ≡ true_values s best.shown.model

-- and the steps show that the distances and the level values are least
pub record IsBest (s : Setting) (log : Log) (best : Best) : Type 0 where
  pub of : IsBestFor s best
  pub far : AreFar s log best.shown.model best.shown.vector best.far
  pub least : AreLeast s log best.values best.least

-- yes: every closest valuation satisfies the query, and the step shows it; no: this closest valuation does not
abbrev pub IsJudged : Setting → Log → ℕ → List ℕ → Entails → Type 0
IsJudged s log ask values (Yes step) = IsEntailed s.dist s.rank s.profile (ask_at s.asks ask) × Shows s log step (NoBreaker ask values)
IsJudged s log ask values (No found) = IsClosest s.dist s.rank s.profile found.shown.model × (holds (ask_at s.asks ask) found.shown.model ≡ false) × IsAway s log found

-- a model of the formula, or it has none and the step shows it
abbrev pub IsNamedBy : Setting → Log → Formula → Assertion → Named → Type 0
IsNamedBy s log formula claim (Model v) = IsModel s.profile.atoms formula v
IsNamedBy s log formula claim (Empty step) = (HasModel s.profile.atoms formula → ⊥) × Shows s log step claim

-- the first bases, in order, each with a model or with the step that it has none
pub record AreNamed (s : Setting) (log : Log) (bases : ℕ) (agents : List Named) : Type 0 where
  pub count : length agents ≡ bases
  pub each : (i : ℕ) (named : Named) → slice_get agents i ≡ Some named → IsNamedBy s log (base_at s.profile i) (NoModelOfBase i) named

-- the formula is named by a model
abbrev pub IsModelNamed : Named → Type 0
IsModelNamed (Model v) = Unit {0}
IsModelNamed (Empty step) = ⊥

-- the constraint and each base are named by a model
pub record AllNamed (found : Consistency) : Type 0 where
  pub constraint : IsModelNamed found.constraint
  pub agents : All IsModelNamed found.agents

-- the constraint and each base, in order, are named
pub record IsConsistency (s : Setting) (log : Log) (found : Consistency) : Type 0 where
  pub constraint : IsNamedBy s log s.profile.constraint NoModelOfConstraint found.constraint
  pub agents : AreNamed s log (length s.profile.bases) found.agents
  pub consistent : AllNamed found → IsConsistent s

-- a closest valuation that begins with the prefix, or none exactly where there is none
abbrev pub IsWith : Setting → List Bool → Option (List Bool) → Type 0
IsWith s prefix None = (v : List Bool) → IsClosest s.dist s.rank s.profile v → take (length prefix) v ≡ prefix → ⊥
IsWith s prefix (Some v) = IsClosest s.dist s.rank s.profile v × (take (length prefix) v ≡ prefix)
