use Rattle.std.proofs.Common.{◌≡◌, ℕ, List, sym, subst, ap, refl}
use Rattle.clause_store.specs.declared.lit.Lit.{Lit}
use Rattle.clause_store.specs.Clauses.{Clauses}
use Rattle.derivation_log.specs.Logs.{Log, known_of, Follows}
use Rattle.derivation_log.specs.declared.step.Step.{Step}
use Rattle.derivation_log.specs.declared.step.StepKind.TheVariants.{Claimed}
use Rattle.watch_lists.specs.Trace.{Place, Attached}
use Rattle.solver_laws.specs.Ready.{IsReady}
use Rattle.solver_laws.proofs.Turns.{ready_claimed}
use Rattle.cdcl_core.proofs.engine.refute.Goals as goal

pub returns-clause-ready : goal.returns-clause-ready
returns-clause-ready g c =
    let w : List Attached = g.P.Propagator.attached c.args.propagator.now in
    let f : List Place = g.P.Propagator.followed c.args.propagator.now in
    let n : ℕ = g.P.Propagator.vars c.args.propagator.now in
    let k : c.known.result.now.list ≡ known_of c.args.log.now = ap (λ (x : Clauses). x.list) c.known.ensures in
    let s : Step = record { kind = Claimed; clause = c.in_ok-made.made.clause; first = c.in_ok-made.made.first; chain = c.in_ok-made.made.chain } in
    let fl : Follows (known_of c.args.log.now) s = subst (λ (zs : List (List Lit)). Follows zs s) k c.in_ok-made.ensures.lesson.follows in
    let one = ready_claimed c.args.log.now w f n c.args.trail.now s c.requires.ready refl fl in
    subst (λ (x : Log). IsReady x w f n c.args.trail.now) (sym c.in_ok-number.ensures.ok) one
