use Rattle.std.proofs.Common.{arith, ◌≡◌, ◌<◌, ℕ, List, sym, ◌∙◌, subst, ap, refl, inl}
use Rattle.watch_lists.specs.declared.entry.Entry.{Entry}
use Rattle.watch_lists.specs.Trace.{Place, places_of, Trace, Attached, upto, IsStacked, Extends, shorter}
use Rattle.solver_laws.specs.Ready.{IsReady}
use Rattle.watch_lists.proofs.Parts.{upto_whole}
use Rattle.solver_laws.proofs.Turns.{undo_extends, ready_back, shorter_first, ready_same}
use Rattle.cdcl_core.proofs.engine.retreat.Goals as goal

pub undo-requires-clause-prefix : goal.undo-requires-clause-prefix
undo-requires-clause-prefix g c =
    let f : List Place = g.P.Propagator.followed c.args.propagator.now in
    let lt : c.args.level < c.args.trail.now.level = omega (arith, c.if-level.true, c.level.ensures) in
    inl (subst (λ (t : Trace). Extends (places_of t.entries) f) (sym c.back_to.ensures) (undo_extends c.args.trail.now.level c.args.level f c.args.trail.now.entries c.requires.ready.followed lt))

pub returns-then-level-clause-ready : goal.returns-then-level-clause-ready
returns-then-level-clause-ready g c =
    let w : List Attached = g.P.Propagator.attached c.args.propagator.now in
    let f : List Place = g.P.Propagator.followed c.args.propagator.now in
    let n : ℕ = g.P.Propagator.vars c.args.propagator.now in
    let lt : c.args.level < c.args.trail.now.level = omega (arith, c.if-level.true, c.level.ensures) in
    let kept : List Entry = upto c.args.level c.args.trail.now.entries in
    let t : Trace = record { vars = c.args.trail.now.vars; level = c.args.level; entries = kept } in
    let r : IsReady c.args.log.now w (places_of kept) n t = ready_back c.args.log.now w f n c.args.trail.now c.args.level c.requires.ready lt in
    let q : g.P.Propagator.followed c.undo.new.self ≡ places_of kept =
    c.undo.ensures.followed ∙ ap (λ (x : Trace). shorter (places_of x.entries) f) c.back_to.ensures
    ∙ shorter_first (places_of kept) f (undo_extends c.args.trail.now.level c.args.level f c.args.trail.now.entries c.requires.ready.followed lt) in
    ready_same c.args.log.now c.args.log.now w (g.P.Propagator.attached c.undo.new.self) (places_of kept) (g.P.Propagator.followed c.undo.new.self) n (g.P.Propagator.vars c.undo.new.self) t c.back_to.new.self r refl (sym c.undo.ensures.attached) (sym q) (sym c.undo.ensures.vars) (sym c.back_to.ensures)

trace_is : (t : Trace) (k : ℕ) → t.level ≡ k → upto k t.entries ≡ t.entries → let u : Trace = record { vars = t.vars; level = k; entries = upto k t.entries } in t ≡ u
trace_is t k p q = make t.vars t.level k t.entries (upto k t.entries) p q
  where
    make : (v l k : ℕ) (es fs : List Entry) → l ≡ k → fs ≡ es → let a : Trace = record { vars = v; level = l; entries = es } in let u : Trace = record { vars = v; level = k; entries = fs } in a ≡ u
    make v l k es fs p q = simp (p, q)

pub returns-else-level-clause-trail : goal.returns-else-level-clause-trail
returns-else-level-clause-trail g c =
    let e : c.args.trail.now.level ≡ c.args.level = omega (arith, c.if-level.false, c.level.ensures, c.requires.level) in
    let st : IsStacked c.args.level c.args.trail.now.entries = subst (λ (k : ℕ). IsStacked k c.args.trail.now.entries) e c.facts.ensures.stacked in
    trace_is c.args.trail.now c.args.level e (upto_whole c.args.level c.args.trail.now.entries st)
