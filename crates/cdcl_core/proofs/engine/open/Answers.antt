use Rattle.std.proofs.Common.{ℕ, List, sym, subst}
use Rattle.watch_lists.specs.Trace.{Place, Attached}
use Rattle.solver_laws.specs.Ready.{IsReady}
use Rattle.solver_laws.proofs.Turns.{ready_opened}
use Rattle.cdcl_core.proofs.engine.open.Goals as goal

pub returns-clause-ready : goal.returns-clause-ready
returns-clause-ready g c =
    let w : List Attached = g.P.Propagator.attached c.args.propagator.now in
    let f : List Place = g.P.Propagator.followed c.args.propagator.now in
    let n : ℕ = g.P.Propagator.vars c.args.propagator.now in
    subst (IsReady c.args.log.now w f n) (sym c.decide.ensures.after)
    (ready_opened c.args.log.now w f n c.args.trail.now c.args.lit c.requires.ready c.requires.complete c.requires.followed c.facts.ensures.stacked)
