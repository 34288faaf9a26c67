use Rattle.std.proofs.Common.{◌≡◌, ◌+◌, ◌≤◌, drop}
use Rattle.clause_store.specs.Truth.{values_of}
use Rattle.totalizer.specs.Counter.{count_of}
use Rattle.merge_encoding.proofs.reading.count.Given as goal

abbrev pub invariant-loop-output : goal.invariant-loop-output
invariant-loop-output l = record {
  left : l.count + count_of (values_of l.assignment) (drop l.output-index l.outputs) ≡ count_of (values_of l.assignment) l.outputs;
  few : l.count ≤ l.output-index;
}
