use Rattle.std.proofs.Common.{◌≡◌, ◌≤◌, ◌+◌, ◌++◌, drop}
use Rattle.derivation_log.specs.Marking.{places_from}
use Rattle.derivation_log.proofs.trimming.places_of.Given as goal

abbrev pub invariant-loop-mark : goal.invariant-loop-mark
invariant-loop-mark l = record {
  places : l.places.items ++ places_from l.next (drop l.mark-index l.marks) ≡ places_from l.main l.marks;
  few : l.next ≤ l.main + l.mark-index;
}
