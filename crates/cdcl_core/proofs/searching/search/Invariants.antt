use Rattle.std.proofs.Common.{◌≡◌}
use Rattle.solver_laws.specs.Ready.{IsReady}
use Rattle.cdcl_core.specs.Asking.{IsAsking}
use Rattle.cdcl_core.specs.Marked.{AreClear}
use Rattle.cdcl_core.specs.Replies.{IsGrown}
use Rattle.cdcl_core.proofs.searching.search.Given as goal

abbrev pub invariant-loop-turn : goal.invariant-loop-turn
invariant-loop-turn g l = record {
  ready : IsReady l.log (g.P.Propagator.attached l.propagator) (g.P.Propagator.followed l.propagator) (g.P.Propagator.vars l.propagator) l.trail;
  asking : IsAsking l.assumptions l.assumed l.trail;
  grown : IsGrown l.fn.log l.log l.turn;
  vars : l.trail.vars ≡ l.fn.trail.vars;
  clear : AreClear l.trail.vars l.marks.marked.items l.marks.kept.items;
}
