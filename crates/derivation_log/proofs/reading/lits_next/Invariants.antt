use Rattle.std.proofs.Common.{◌≡◌, length}
use Rattle.derivation_log.specs.StepReading.{lits_then, after_lits}
use Rattle.derivation_log.proofs.reading.lits_next.Given as goal

abbrev pub invariant-loop-word : goal.invariant-loop-word
invariant-loop-word l = after_lits l.lits.items (lits_then l.words) ≡ lits_then l.initial.words

abbrev pub decreases-loop-word : goal.decreases-loop-word
decreases-loop-word l = length l.words
