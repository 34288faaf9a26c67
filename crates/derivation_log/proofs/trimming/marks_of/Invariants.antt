use Rattle.std.proofs.Common.{◌≡◌, ◌≤◌, length, drop, map}
use Rattle.derivation_log.specs.Marking.{swept, numbers_of}
use Rattle.derivation_log.proofs.trimming.marks_of.Given as goal

abbrev pub invariant-loop-k : goal.invariant-loop-k
invariant-loop-k l = record {
  marks : l.marks.items ≡ swept l.main l.k (map numbers_of (drop l.k l.rows)) l.initial.marks.items;
  size : length l.marks.items ≡ length l.rows;
  within : l.k ≤ length l.rows;
}

abbrev pub decreases-loop-k : goal.decreases-loop-k
decreases-loop-k l = l.k
