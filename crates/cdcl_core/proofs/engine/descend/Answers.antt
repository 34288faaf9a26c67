use Rattle.std.proofs.Common.{◌≡◌, ◌+◌, ℕ, sym, ◌∙◌, subst, ap, refl, arith}
use Rattle.watch_lists.specs.Trace.{Trace}
use Rattle.cdcl_core.specs.Asking.{IsAsking}
use Rattle.cdcl_core.proofs.Askings.{asking_settled, asking_all, asking_assumed, asking_freed, asking_true, true_kept, place_freed, place_decided}
use Rattle.cdcl_core.proofs.engine.descend.Goals as goal

pub down-init : goal.down-init
down-init g c = record {
  ready = c.requires.ready;
  asking = c.requires.asking;
  within = c.facts.ensures.within;
  vars = refl;
  on = omega arith;
  before = asking_true c.args.assumptions.now c.args.assumed c.args.trail.now c.requires.asking c.facts.ensures;
}

pub returns-in-Some-clause-asking : goal.returns-in-Some-clause-asking
returns-in-Some-clause-asking g c = asking_settled c.args.assumptions.now c.down.assumed c.down.trail c.settle-conflict.new.trail c.down.invariant.asking c.facts-in-down.ensures c.facts-in-down-2.ensures c.settle-conflict.ensures.level c.settle-conflict.ensures.below (c.settle-conflict.ensures.decides c.args.assumptions.now c.down.assumed c.down.invariant.asking.decides) c.settle-conflict.ensures.kept

pub returns-in-Contrary-clause-asking : goal.returns-in-Contrary-clause-asking
returns-in-Contrary-clause-asking g c = asking_settled c.args.assumptions.now c.down.assumed c.down.trail c.settle-conflict.new.trail c.down.invariant.asking c.facts-in-down.ensures c.facts-in-down-2.ensures c.settle-conflict.ensures.level c.settle-conflict.ensures.below (c.settle-conflict.ensures.decides c.args.assumptions.now c.down.assumed c.down.invariant.asking.decides) c.settle-conflict.ensures.kept

pub returns-in-Full-clause-asking : goal.returns-in-Full-clause-asking
returns-in-Full-clause-asking g c = asking_settled c.args.assumptions.now c.down.assumed c.down.trail c.settle-conflict.new.trail c.down.invariant.asking c.facts-in-down.ensures c.facts-in-down-2.ensures c.settle-conflict.ensures.level c.settle-conflict.ensures.below (c.settle-conflict.ensures.decides c.args.assumptions.now c.down.assumed c.down.invariant.asking.decides) c.settle-conflict.ensures.kept

pub returns-in-Contrary-clause-turn : goal.returns-in-Contrary-clause-turn
returns-in-Contrary-clause-turn g c =
    let a = asking_settled c.args.assumptions.now c.down.assumed c.down.trail c.settle-conflict.new.trail c.down.invariant.asking c.facts-in-down.ensures c.facts-in-down-2.ensures c.settle-conflict.ensures.level c.settle-conflict.ensures.below (c.settle-conflict.ensures.decides c.args.assumptions.now c.down.assumed c.down.invariant.asking.decides) c.settle-conflict.ensures.kept in
    (c.in-Contrary.ensures.chosen.0, c.in-Contrary.ensures.chosen.1, asking_all c.args.assumptions.now c.down.assumed c.settle-conflict.new.trail c.in-Contrary.lit a c.facts-in-down-2.ensures c.in-Contrary.ensures.chosen.0 (λ h. (let z = sym c.in-Contrary.ensures.chosen.1 ∙ h in absurd (cc))))

pub choose-requires-clause-before : goal.choose-requires-clause-before
choose-requires-clause-before g c = true_kept c.down.place c.args.assumptions.now c.down.trail.entries c.settle-conflict.new.trail.entries c.settle-conflict.ensures.kept c.down.invariant.before

pub down-preserved-in-Assume : goal.down-preserved-in-Assume
down-preserved-in-Assume g c =
    let asked = c.args.assumptions.now in
    let t : Trace = c.settle-conflict.new.trail in
    let n : ℕ = c.choose.new.place in
    let e = c.in-Assume.ensures in
    let a = asking_settled c.args.assumptions.now c.down.assumed c.down.trail c.settle-conflict.new.trail c.down.invariant.asking c.facts-in-down.ensures c.facts-in-down-2.ensures c.settle-conflict.ensures.level c.settle-conflict.ensures.below (c.settle-conflict.ensures.decides c.args.assumptions.now c.down.assumed c.down.invariant.asking.decides) c.settle-conflict.ensures.kept in
    let k : c.down.assumed ≡ t.level = asking_all asked c.down.assumed t c.in-Assume.lit a c.facts-in-down-2.ensures (n, e.chosen.0, e.chosen.1) (λ h. (let z = sym e.chosen.2 ∙ h in absurd (cc))) in
    let level : c.open.new.trail.level ≡ t.level + 1 = ap (λ (u : Trace). u.level) c.open.ensures.trail in
    let b = asking_assumed asked c.down.assumed n t c.open.new.trail c.in-Assume.lit a c.facts-in-down-2.ensures (omega (arith, c.down.invariant.on, e.on)) e.before e.chosen.0 e.chosen.1 e.chosen.2 c.open.ensures.trail in
    record {
      ready = c.open.ensures.ready;
      asking = subst (λ (k : ℕ). IsAsking asked k c.open.new.trail) (sym c.level-assumed.ensures) b;
      within = c.open.ensures.within;
      vars = ap (λ (u : Trace). u.vars) c.open.ensures.trail ∙ c.settle-conflict.ensures.trail_vars ∙ c.down.invariant.vars;
      on = omega (arith, k, level, c.level-assumed.ensures, c.down.invariant.on, e.on);
      before = place_decided n asked t c.open.new.trail c.in-Assume.lit e.chosen.0 e.chosen.1 e.chosen.2 e.before c.open.ensures.trail;
    }

pub down-preserved : goal.down-preserved
down-preserved g c =
    let a = asking_settled c.args.assumptions.now c.down.assumed c.down.trail c.settle-conflict.new.trail c.down.invariant.asking c.facts-in-down.ensures c.facts-in-down-2.ensures c.settle-conflict.ensures.level c.settle-conflict.ensures.below (c.settle-conflict.ensures.decides c.args.assumptions.now c.down.assumed c.down.invariant.asking.decides) c.settle-conflict.ensures.kept in
    let e = c.in-Free.ensures in
    record {
      ready = c.open-in-Free.ensures.ready;
      asking = asking_freed c.args.assumptions.now c.down.assumed c.settle-conflict.new.trail c.open-in-Free.new.trail c.in-Free.lit a c.facts-in-down-2.ensures e.chosen.0 c.open-in-Free.ensures.trail;
      within = c.open-in-Free.ensures.within;
      vars = ap (λ (t : Trace). t.vars) c.open-in-Free.ensures.trail ∙ c.settle-conflict.ensures.trail_vars ∙ c.down.invariant.vars;
      on = omega (arith, c.down.invariant.on, e.on);
      before = place_freed c.choose.new.place c.args.assumptions.now c.settle-conflict.new.trail c.open-in-Free.new.trail c.in-Free.lit e.chosen.1.2 e.before c.open-in-Free.ensures.trail;
    }
