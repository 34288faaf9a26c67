use Rattle.std.proofs.Common.{◌≡◌, ◌≤◌, ◌-◌, length}
use Rattle.solver_laws.specs.Ready.{IsReady}
use Rattle.cdcl_core.specs.Asking.{IsAsking}
use Rattle.cdcl_core.specs.Choices.{AreTrueBefore}
use Rattle.cdcl_core.proofs.engine.descend.Given as goal

abbrev pub invariant-down : goal.invariant-down
invariant-down g l = record {
  ready : IsReady l.log (g.P.Propagator.attached l.propagator) (g.P.Propagator.followed l.propagator) (g.P.Propagator.vars l.propagator) l.trail;
  asking : IsAsking l.assumptions l.assumed l.trail;
  within : length l.trail.entries ≤ l.trail.vars;
  vars : l.trail.vars ≡ l.fn.trail.vars;
  on : l.assumed ≤ l.place;
  before : AreTrueBefore l.place l.assumptions l.trail.entries;
}

abbrev pub decreases-down : goal.decreases-down
decreases-down g l = l.trail.vars - length l.trail.entries
