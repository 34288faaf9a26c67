use Rattle.std.proofs.Common.{◌≡◌, drop}
use Rattle.derivation_log.specs.StepLines.{any_big}
use Rattle.derivation_log.proofs.reading.has_big_literal.Given as goal

abbrev pub invariant-loop-lit : goal.invariant-loop-lit
invariant-loop-lit l = any_big (drop l.lit-index l.lits) ≡ any_big l.lits
