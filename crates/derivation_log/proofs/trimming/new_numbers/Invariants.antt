use Rattle.std.proofs.Common.{◌≡◌, ◌+◌, length, take, drop, map}
use Rattle.derivation_log.specs.Marking.{place_in, AreBelow}
use Rattle.derivation_log.proofs.trimming.new_numbers.Given as goal

abbrev pub invariant-loop-number : goal.invariant-loop-number
invariant-loop-number l = record {
  made : l.made.items ≡ map (place_in l.main l.places) (take l.number-index l.numbers);
  below : AreBelow (l.main + length l.places) (drop l.number-index l.numbers);
}
