use Rattle.std.proofs.Common.{◌≡◌, drop}
use Rattle.derivation_log.specs.StepLines.{any_big_pivot}
use Rattle.derivation_log.proofs.reading.has_big_pivot.Given as goal

abbrev pub invariant-loop-link : goal.invariant-loop-link
invariant-loop-link l = any_big_pivot (drop l.link-index l.links) ≡ any_big_pivot l.links
