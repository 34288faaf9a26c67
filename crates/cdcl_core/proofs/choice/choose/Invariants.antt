use Rattle.std.proofs.Common.{◌≤◌, ◌-◌, length}
use Rattle.cdcl_core.specs.Choices.{AreTrueBefore}
use Rattle.cdcl_core.proofs.choice.choose.Given as goal

abbrev pub invariant-past : goal.invariant-past
invariant-past l = record {
  on : l.fn.place ≤ l.place;
  before : AreTrueBefore l.place l.assumptions l.trail.entries;
}

abbrev pub decreases-past : goal.decreases-past
decreases-past l = length l.assumptions - l.place
