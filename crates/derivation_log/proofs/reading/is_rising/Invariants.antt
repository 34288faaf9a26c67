use Rattle.std.proofs.Common.{◌≡◌, drop}
use Rattle.derivation_log.specs.StepLines.{rises_after}
use Rattle.derivation_log.proofs.reading.is_rising.Given as goal

abbrev pub invariant-loop-lit : goal.invariant-loop-lit
invariant-loop-lit l = rises_after l.last (drop l.lit-index l.rest) ≡ rises_after l.initial.last l.rest
