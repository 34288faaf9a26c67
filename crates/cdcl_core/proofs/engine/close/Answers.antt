use Rattle.std.proofs.Common.{◌≡◌, ℕ, List, [], ◌∷◌, ◌++◌, refl, sym, subst, ap, Result, Ok, Err}
use Rattle.std.specs.Prelude.{OnOk, OnErr}
use Rattle.clause_store.specs.declared.lit.Lit.{Lit}
use Rattle.clause_store.specs.Clauses.{Clauses, clause_at}
use Rattle.derivation_log.specs.Logs.{Log, known_of}
use Rattle.watch_lists.specs.Trace.{Place, Trace, Attached, StandIn}
use Rattle.solver_laws.specs.Ready.{IsReady}
use Rattle.solver_laws.proofs.Turns.{ready_watched, ready_same}
use Rattle.cdcl_core.proofs.engine.close.Goals as goal

-- attached or not
either : {T E : Type 0} (r : Result T E) (g : Log) (w w' : List Attached) (f : List Place) (n : ℕ) (t : Trace) (a : Attached) → IsReady g w f n t → t.level ≡ 0 → StandIn (known_of g) w' → OnOk r (w' ≡ w ++ a ∷ []) → OnErr r (w' ≡ w) → IsReady g w' f n t
either (Ok x) g w w' f n t a r z st ok err = ready_watched g w w' f n t a r z st ok
either (Err x) g w w' f n t a r z st ok err = subst (λ (v : List Attached). IsReady g v f n t) (sym err) r

pub returns-clause-ready : goal.returns-clause-ready
returns-clause-ready g c =
    let k : List Lit = clause_at c.known.result.now.list c.args.number in
    let w : List Attached = g.P.Propagator.attached c.retreat.new.propagator in
    let w' : List Attached = g.P.Propagator.attached c.attach.new.self in
    let f : List Place = g.P.Propagator.followed c.retreat.new.propagator in
    let n : ℕ = g.P.Propagator.vars c.retreat.new.propagator in
    let st : StandIn (known_of c.args.log.now) w' = subst (λ (zs : List (List Lit)). StandIn zs w') (ap (λ (x : Clauses). x.list) c.known.ensures) c.attach.ensures.stand in
    let r : IsReady c.args.log.now w' f n c.retreat.new.trail = either c.attach.result c.args.log.now w w' f n c.retreat.new.trail (record { number = c.args.number; clause = k }) c.retreat.ensures.ready (ap (λ (x : Trace). x.level) c.retreat.ensures.trail) st c.attach.ensures.ok c.attach.ensures.err in
    ready_same c.args.log.now c.args.log.now w' w' f (g.P.Propagator.followed c.attach.new.self) n (g.P.Propagator.vars c.attach.new.self) c.retreat.new.trail c.retreat.new.trail r refl refl (sym c.attach.ensures.followed) (sym c.attach.ensures.vars) refl
