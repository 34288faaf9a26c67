-- Searches that stop.
use Rattle.std.proofs.Common.{◌≡◌, ℕ, sym, subst, Result, Ok, Err}
use Rattle.std.specs.Prelude.{MatchResult}
use Rattle.derivation_log.specs.Logs.{Log}
use Rattle.cdcl_core.specs.Replies.{IsLonger}
use Rattle.distance_search.specs.declared.reply.SearchStop.{SearchStop}
use Rattle.distance_search.specs.declared.reply.SearchStop.TheVariants.{NoMemory as OutOfMemory}
use Rattle.distance_search.specs.Heard.{IsStopped, IsHalted}
use Rattle.cdcl_core.proofs.Longer.{longer_on}

-- the question that stopped was asked after others
pub halted_on : (a b c : Log) (budget : ℕ) (stop : SearchStop) → IsLonger a b → IsHalted b c budget stop → IsHalted a c budget stop
halted_on a b c budget stop g h = record { before = h.before; longer = longer_on a b h.before g h.longer; stopped = h.stopped }

pub halted_none : (a b : Log) (budget : ℕ) (stop : SearchStop) → stop ≡ OutOfMemory → IsLonger a b → IsHalted a b budget stop
halted_none a b budget stop e g = record { before = b; longer = g; stopped = subst (λ x. IsStopped b b budget x) (sym e) tt }

-- the same of a whole result
pub halted_result : {T : Type 0} (P : T → Type 0) (a b c : Log) (budget : ℕ) → IsLonger a b → (r : Result T SearchStop) → MatchResult r P (λ stop. IsHalted b c budget stop) → MatchResult r P (λ stop. IsHalted a c budget stop)
halted_result P a b c budget g (Ok x) h = h
halted_result P a b c budget g (Err stop) h = halted_on a b c budget stop g h
