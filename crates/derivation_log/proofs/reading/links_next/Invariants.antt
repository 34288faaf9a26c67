use Rattle.std.proofs.Common.{◌≡◌, length}
use Rattle.derivation_log.specs.StepReading.{links_at, after_links}
use Rattle.derivation_log.proofs.reading.links_next.Given as goal

abbrev pub invariant-loop-word : goal.invariant-loop-word
invariant-loop-word l = after_links l.links.items (links_at l.words) ≡ links_at l.initial.words

abbrev pub decreases-loop-word : goal.decreases-loop-word
decreases-loop-word l = length l.words
