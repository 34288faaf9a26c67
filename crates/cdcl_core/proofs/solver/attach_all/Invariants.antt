use Rattle.std.proofs.Common.{◌≡◌, [], take, map}
use Rattle.watch_lists.specs.Trace.{Attached, StandIn}
use Rattle.derivation_log.specs.Logs.{known_of}
use Rattle.cdcl_core.proofs.solver.attach_all.Given as goal

abbrev pub invariant-loop-number : goal.invariant-loop-number
invariant-loop-number g l = record {
  attached : map (λ (a : Attached). a.clause) (g.P.Propagator.attached l.propagator) ≡ take l.number l.log.main;
  stand : StandIn (known_of l.log) (g.P.Propagator.attached l.propagator);
  followed : g.P.Propagator.followed l.propagator ≡ [];
  vars : g.P.Propagator.vars l.propagator ≡ g.P.Propagator.vars l.fn.propagator;
}
