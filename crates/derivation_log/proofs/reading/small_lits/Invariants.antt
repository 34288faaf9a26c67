use Rattle.std.proofs.Common.{◌≡◌, take, drop, map, false}
use Rattle.derivation_log.specs.StepLines.{any_big, widen}
use Rattle.derivation_log.proofs.reading.small_lits.Given as goal

abbrev pub invariant-loop-lit : goal.invariant-loop-lit
invariant-loop-lit l = record {
  so_far : map widen l.made.items ≡ take l.lit-index l.lits;
  small : any_big (drop l.lit-index l.lits) ≡ false;
}
