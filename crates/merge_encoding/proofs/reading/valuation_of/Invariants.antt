use Rattle.std.proofs.Common.{◌≡◌, length, take}
use Rattle.clause_store.specs.Truth.{values_of}
use Rattle.agent_copies.specs.Counter.{truth_of}
use Rattle.merge_encoding.proofs.reading.valuation_of.Given as goal

abbrev pub invariant-loop-k : goal.invariant-loop-k
invariant-loop-k l = record {
  size : length l.valuation ≡ length l.lits;
  first : take l.k l.valuation ≡ truth_of (values_of l.assignment) (take l.k l.lits);
}
