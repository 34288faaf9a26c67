-- Logs that grow at their end.
use Rattle.std.proofs.Common.{ℕ, ◌≤◌, length, sym, subst, ◌∙◌}
use Rattle.derivation_log.specs.Logs.{Log}
use Rattle.cdcl_core.specs.Replies.{IsLonger}
use Rattle.cdcl_core.proofs.Longer.{known_on}
use Rattle.merge_encoding.specs.Claims.{Assertion}
use Rattle.distance_search.specs.Setting.{Setting, IsOver}
use Rattle.distance_search.specs.Replies.{Shows}

-- a longer log is over the same main list
pub over_on : (s : Setting) (a b : Log) → IsLonger a b → IsOver s a → IsOver s b
over_on s a b g h = record { clauses = g.main ∙ h.clauses; vars = g.vars ∙ h.vars }

-- what a step shows, it shows in a longer log
pub shows_on : (s : Setting) (a b : Log) (number : ℕ) (claim : Assertion) → IsLonger a b → Shows s a number claim → Shows s b number claim
shows_on s a b number claim g h = record { above = subst (λ cs. length cs ≤ number) (sym g.main) h.above; clause = h.clause; is_there = known_on a b number h.clause g h.is_there; refuted = h.refuted }
