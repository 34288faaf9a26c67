use Rattle.std.proofs.Common.{arith, ◌≤◌, ◌<◌, ◌+◌, ◌-◌, List, subst}
use Rattle.std.proofs.lemmas.List.{take_all}
use Rattle.clause_store.specs.declared.lit.Lit.{Lit}
use Rattle.watch_lists.specs.Trace.{room_of, upto}
use Rattle.cdcl_core.proofs.Levels.{back_rise, back_room, back_more}
use Rattle.cdcl_core.proofs.analysis.back_level.Goals as goal
use Rattle.cdcl_core.proofs.analysis.back_level.Goals.{then-level+then-level-best, else-level}

pub loop-lit-preserved : goal.loop-lit-preserved
loop-lit-preserved c =
    let rise = back_rise c.args.trail.now.level c.level_at-level.result c.loop-lit.lit-index c.args.trail.now.entries c.args.lits.now c.loop-lit-test.true c.loop-lit.invariant.rise c.level_at-level.ensures.room in
    elim c.if-level.branch [
      | then-level+then-level-best w ↦
          (let lt : c.level_at-level.result < c.args.trail.now.level = omega (arith, w.if-level.true, c.level.ensures) in
          rw w.best-is (record {
            below = lt;
            rise = rise;
            room = back_more c.args.trail.now.level c.level_at-level.result c.loop-lit.lit-index c.args.trail.now.entries c.args.lits.now c.loop-lit-test.true lt c.loop-lit.invariant.rise c.level_at-level.ensures.room;
          }))
      | else-level w ↦ rw w.best-is (record {
        below = c.loop-lit.invariant.below;
        rise = rise;
        room = back_room c.args.trail.now.level c.level_at-level.result c.loop-lit.lit-index c.loop-lit.best c.args.trail.now.entries c.args.lits.now c.loop-lit-test.true c.loop-lit.invariant.below c.loop-lit.invariant.room c.level_at-level.ensures.room;
      })
    ]

pub returns-clause-room : goal.returns-clause-room
returns-clause-room c k lt =
    let e = take_all c.loop-lit.lit-index c.args.lits.now c.loop-lit-test.false in
    subst (λ (zs : List Lit). room_of (upto (c.args.trail.now.level - 1) c.args.trail.now.entries) zs + 1 ≤ room_of (upto k c.args.trail.now.entries) zs) e (c.loop-lit.invariant.room k lt)
