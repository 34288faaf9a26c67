-- What the turns of a search keep.
use Rattle.std.specs.Prelude.{◌≡◌, ℕ, ◌<◌, Bool, List, take, Option, slice_index}
use Rattle.std.specs.List.{AllZip}
use Rattle.derivation_log.specs.Logs.{Log}
use Rattle.merge_model.specs.Merging.{IsModel, away, vector_of}
use Rattle.merge_encoding.specs.Claims.{NoNearer, NoBetter, IsCandidate, base_at}
use Rattle.distance_search.specs.declared.reply.Witness.{Witness}
use Rattle.distance_search.specs.Setting.{Setting}
use Rattle.distance_search.specs.Replies.{IsTrueIn, IsWitness}
use Rattle.distance_search.specs.Results.{IsProven, AreProven, AreFar}

-- models of the constraint and of each base, with the level values of their distances
pub record IsReached (s : Setting) (x : Witness) : Type 0 where
  pub witness : IsWitness s x
  pub candidate : IsCandidate s.profile x.shared x.own.items

-- no level before one can be lower
abbrev pub IsLeastBelow : Setting → ℕ → List ℕ → Type 0
IsLeastBelow s level values = (i : ℕ) → i < level → IsTrueIn s (NoBetter i values)

-- the level's value is least, and the values before it are as they were
pub record IsLowered (s : Setting) (log : Log) (level : ℕ) (from made : Witness) (step : Option ℕ) : Type 0 where
  pub reached : IsReached s made
  pub before : take level made.values.items ≡ take level from.values.items
  pub least : IsTrueIn s (NoBetter level made.values.items)
  pub proven : IsProven s log (slice_index made.values.items level) (NoBetter level made.values.items) step

-- the steps show that none of the first levels can be lower
abbrev pub IsLeastTo : Setting → Log → ℕ → List ℕ → List (Option ℕ) → Type 0
IsLeastTo s log levels values steps = AreProven s log (λ j k. NoBetter j values) (take levels values) steps

-- the first levels are least, and the steps show it
pub record AreLowered (s : Setting) (log : Log) (levels : ℕ) (x : Witness) (steps : List (Option ℕ)) : Type 0 where
  pub reached : IsReached s x
  pub below : IsLeastBelow s levels x.values.items
  pub proven : IsLeastTo s log levels x.values.items steps

-- a model of an agent's base at the exact distance, and the step that shows that none is nearer
pub record IsNearest (s : Setting) (log : Log) (v : List Bool) (agent k : ℕ) (near : List Bool) (step : Option ℕ) : Type 0 where
  pub model : IsModel s.profile.atoms (base_at s.profile agent) near
  pub distance : s.dist v near ≡ k
  pub exact : k ≡ away s.dist v (base_at s.profile agent)
  pub proven : IsProven s log k (NoNearer agent v k) step

-- the same of the first agents
pub record AreNearest (s : Setting) (log : Log) (v : List Bool) (agents : ℕ) (vector : List ℕ) (nearest : List (List Bool)) (far : List (Option ℕ)) : Type 0 where
  pub exact : vector ≡ vector_of s.dist (take agents s.profile.bases) v
  pub models : AllZip (λ base near. IsModel s.profile.atoms base near × (s.dist v near ≡ away s.dist v base)) (take agents s.profile.bases) nearest
  pub proven : AreFar s log v vector far
