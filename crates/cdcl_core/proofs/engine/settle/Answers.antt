use Rattle.std.proofs.Common.{ℕ, List, sym, subst, true}
use Rattle.watch_lists.specs.Trace.{Place, Attached}
use Rattle.watch_lists.proofs.Scans.{grows_le}
use Rattle.watch_lists.proofs.Guards.{grows_value}
use Rattle.watch_lists.proofs.Fresh.{grows_low}
use Rattle.solver_laws.specs.Ready.{IsReady}
use Rattle.solver_laws.proofs.Turns.{ready_settled, decides_grows}
use Rattle.cdcl_core.proofs.engine.settle.Goals as goal

pub returns-clause-ready : goal.returns-clause-ready
returns-clause-ready g c =
    let w : List Attached = g.P.Propagator.attached c.args.propagator.now in
    let f : List Place = g.P.Propagator.followed c.args.propagator.now in
    let n : ℕ = g.P.Propagator.vars c.args.propagator.now in
    let f' : List Place = g.P.Propagator.followed c.propagate.new.self in
    let e = c.propagate.ensures in
    let r : IsReady c.args.log.now w f' n c.propagate.new.trail = ready_settled c.args.log.now w f f' n c.args.trail.now c.propagate.new.trail c.requires e.grows e.level e.trail_vars e.followed_more e.followed_part in
    let r1 = subst (λ (x : List Attached). IsReady c.args.log.now x f' n c.propagate.new.trail) (sym e.attached) r in
    subst (λ (v : ℕ). IsReady c.args.log.now (g.P.Propagator.attached c.propagate.new.self) f' v c.propagate.new.trail) (sym e.vars) r1

pub returns-clause-below : goal.returns-clause-below
returns-clause-below g c k lt = grows_low (g.P.Propagator.attached c.args.propagator.now) c.args.trail.now.level k c.args.trail.now.entries c.propagate.new.trail.entries c.propagate.ensures.grows lt

pub returns-clause-more : goal.returns-clause-more
returns-clause-more g c = grows_le (g.P.Propagator.attached c.args.propagator.now) c.args.trail.now.level c.args.trail.now.entries c.propagate.new.trail.entries c.propagate.ensures.grows

pub returns-clause-decides : goal.returns-clause-decides
returns-clause-decides g c asked k d = decides_grows (g.P.Propagator.attached c.args.propagator.now) asked k c.args.trail.now.level c.args.trail.now.entries c.propagate.new.trail.entries c.propagate.ensures.grows d

pub returns-clause-kept : goal.returns-clause-kept
returns-clause-kept g c l h = grows_value (g.P.Propagator.attached c.args.propagator.now) c.args.trail.now.level c.args.trail.now.entries c.propagate.new.trail.entries l true c.propagate.ensures.grows h
