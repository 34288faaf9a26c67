use Rattle.std.proofs.Common.{◌≡◌, ◌+◌, length, drop}
use Rattle.derivation_log.specs.Marking.{mark_all, AreBelow}
use Rattle.derivation_log.proofs.trimming.set_marks.Given as goal

abbrev pub invariant-loop-number : goal.invariant-loop-number
invariant-loop-number l = record {
  marks : mark_all l.main (drop l.number-index l.numbers) l.marks ≡ mark_all l.main l.numbers l.initial.marks;
  same : length l.marks ≡ length l.initial.marks;
  below : AreBelow (l.main + length l.initial.marks) (drop l.number-index l.numbers);
}
