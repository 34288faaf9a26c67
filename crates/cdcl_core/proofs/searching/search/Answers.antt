use Rattle.std.proofs.Common.{rules, arith, ◌≡◌, ◌-◌, ℕ, List, sym, ◌∙◌, subst, ap, ◌++◌, refl}
use Rattle.clause_store.specs.declared.lit.Lit.{Lit}
use Rattle.clause_store.specs.Clauses.{Clauses}
use Rattle.clause_store.specs.Lits.{InRange, AreInRange}
use Rattle.derivation_log.specs.Logs.{known_of, learned_of}
use Rattle.watch_lists.specs.Trace.{Trace, Attached, IsStacked}
use Rattle.solver_laws.specs.Ready.{AreAttached}
use Rattle.cdcl_core.specs.Marked.{AreClear}
use Rattle.cdcl_core.specs.declared.engine.Turn.{Turn}
use Rattle.cdcl_core.specs.Asking.{IsTurn}
use Rattle.cdcl_core.proofs.Askings.{asking_back}
use Rattle.cdcl_core.proofs.Finds.{falsified_within, falsified_barred, main_found, main_range, asked_found, grown_none, grown_more, decides_none}
use Rattle.cdcl_core.proofs.searching.search.Goals as goal

pub loop-turn-init : goal.loop-turn-init
loop-turn-init g c =
    let st : IsStacked 0 c.args.trail.now.entries = subst (λ (k : ℕ). IsStacked k c.args.trail.now.entries) c.requires.rest c.facts.ensures.stacked in
    record {
      ready = c.requires.ready;
      asking = record { le = omega arith; decides = decides_none c.args.assumptions.now 0 c.args.trail.now.entries st; each = λ j h k d lt. absurd (omega arith); free = λ h. absurd (omega (arith, c.requires.rest)) };
      grown = grown_none c.args.log.now c.requires.ready.log;
      vars = refl;
      clear = c.requires.clear;
    }

pub refute-requires-clause-within : goal.refute-requires-clause-within
refute-requires-clause-within g c =
    let w : List Attached = g.P.Propagator.attached c.descend-opened.new.propagator in
    let f = subst (λ (x : Turn). IsTurn c.args.assumptions.now c.descend-opened.result.0 w c.descend-opened.new.trail x) c.in-Conflict.is c.descend-opened.ensures.turn in
    falsified_within (known_of c.loop-turn.log) w c.descend-opened.new.trail.entries c.in-Conflict.number c.descend-opened.ensures.ready.stand f

pub refute-requires-clause-barred : goal.refute-requires-clause-barred
refute-requires-clause-barred g c =
    let w : List Attached = g.P.Propagator.attached c.descend-opened.new.propagator in
    let f = subst (λ (x : Turn). IsTurn c.args.assumptions.now c.descend-opened.result.0 w c.descend-opened.new.trail x) c.in-Conflict.is c.descend-opened.ensures.turn in
    falsified_barred c.args.assumptions.now (known_of c.loop-turn.log) w c.descend-opened.new.trail.entries c.in-Conflict.number c.descend-opened.ensures.ready.stand f

pub learn-requires-clause-complete : goal.learn-requires-clause-complete
learn-requires-clause-complete g c = c.descend-opened.ensures.ready.below (c.descend-opened.new.trail.level - 1) (omega (arith, c.if-level-opened.false, c.level.ensures))

pub returns-in-Full-clause-answered : goal.returns-in-Full-clause-answered
returns-in-Full-clause-answered g c =
    let w : List Attached = g.P.Propagator.attached c.descend-opened.new.propagator in
    let t : Trace = c.descend-opened.new.trail in
    let f = subst (λ (x : Turn). IsTurn c.args.assumptions.now c.descend-opened.result.0 w t x) c.in-Full.is c.descend-opened.ensures.turn in
    let v : t.vars ≡ c.args.trail.now.vars = c.descend-opened.ensures.vars ∙ c.loop-turn.invariant.vars in
    let lv : c.args.log.now.vars ≡ t.vars = c.requires.ready.vars ∙ sym c.requires.ready.trail_vars ∙ sym v in
    let k : c.known.result.now.list ≡ known_of c.args.log.now = ap (λ (x : Clauses). x.list) c.known.ensures in
    let kv : c.known.result.now.vars ≡ t.vars = ap (λ (x : Clauses). x.vars) c.known.ensures ∙ lv in
    let r1 = subst (λ (n : ℕ). AreInRange n c.known.result.now.list) kv c.len-begin.ensures.whole.in_range in
    let r2 = subst (AreInRange t.vars) k r1 in
    let at : AreAttached w (c.args.log.now.main ++ learned_of c.loop-turn.log.steps) = subst (λ (m : List (List Lit)). AreAttached w (m ++ learned_of c.loop-turn.log.steps)) c.loop-turn.invariant.grown.main c.descend-opened.ensures.ready.attached in (
      c.loop-turn.turn,
      omega (arith, c.loop-turn-test.true),
      c.loop-turn.invariant.grown,
      record {
        size = c.in_ok-found-in-Full.ensures.size ∙ sym lv;
        clauses =
            main_found t c.in_ok-found-in-Full.found c.args.log.now.main (learned_of c.loop-turn.log.steps) w c.in_ok-found-in-Full.ensures f.2 (main_range c.args.log.now t.vars r2) at f.0;
        assumptions =
            asked_found t c.in_ok-found-in-Full.found c.args.assumptions.now c.in_ok-found-in-Full.ensures (subst (λ (n : ℕ). InRange n c.args.assumptions.now) (sym v) c.requires.in_range) f.1;
      },
    )

pub loop-turn-preserved : goal.loop-turn-preserved
loop-turn-preserved g c =
    let e = c.in_ok-level-in-Conflict.ensures in
    let m = c.min-assumed.ensures in
    record {
      ready = e.ready;
      asking = asking_back c.args.assumptions.now c.descend-opened.result.0 c.min-assumed.result c.in_ok-level-in-Conflict.level c.descend-opened.new.trail c.keep.new.trail c.descend-opened.ensures.asking (omega (arith, e.lower)) (search (rules, m)) (search (rules, m)) (λ h. (let q = m in grind (arith, q))) e.trail;
      grown = grown_more c.args.log.now c.loop-turn.log c.keep.new.log c.loop-turn.turn c.loop-turn.invariant.grown c.keep.ensures.log e.learned;
      vars = ap (λ (t : Trace). t.vars) e.trail ∙ c.descend-opened.ensures.vars ∙ c.loop-turn.invariant.vars;
      clear = subst (λ (n : ℕ). AreClear n c.learn.new.marks.marked.items c.learn.new.marks.kept.items) (sym (ap (λ (t : Trace). t.vars) e.trail)) c.in_ok-lesson-in-Conflict.ensures.clear;
    }
