-- What an answer to a claim tells.
use Rattle.std.specs.Prelude.{◌≡◌, ℕ, length, All}
use Rattle.aggregators.specs.Levels.{FitLevels}
use Rattle.derivation_log.specs.Logs.{Log}
use Rattle.merge_encoding.specs.Assumptions.{assumed}
use Rattle.merge_encoding.specs.Claims.{Assertion, IsTrueThat, Breaks, values_at}
use Rattle.distance_search.specs.declared.reply.Witness.{Witness}
use Rattle.distance_search.specs.declared.reply.Reply.{Reply}
use Rattle.distance_search.specs.declared.reply.Reply.TheVariants.{Refuted, Found}
use Rattle.distance_search.specs.Setting.{Setting}
use Rattle.distance_search.specs.Heard.{IsRefuting}

abbrev pub IsTrueIn : Setting → Assertion → Type 0
IsTrueIn s a = IsTrueThat s.dist s.top s.values_of s.profile s.asks a

-- the step of that number refutes what the claim assumes
abbrev pub Shows : Setting → Log → ℕ → Assertion → Type 0
Shows s log number a = IsRefuting log (assumed s.main a) number

-- valuations, and the level values of the distances between them
pub record IsWitness (s : Setting) (x : Witness) : Type 0 where
  pub size : length x.shared ≡ s.profile.atoms
  pub count : length x.own.items ≡ length s.profile.bases
  pub sizes : All (λ w. length w ≡ s.profile.atoms) x.own.items
  pub values : x.values.items ≡ values_at s.dist s.top s.values_of s.profile x.shared x.own.items
  pub fits : FitLevels x.values.items s.main.levels

abbrev pub IsAnswer : Setting → Log → Assertion → Reply → Type 0
IsAnswer s log a (Refuted number) = IsTrueIn s a × Shows s log number a
IsAnswer s log a (Found x) = IsWitness s x × Breaks s.dist s.top s.values_of s.profile s.asks a x.shared x.own.items
