use Rattle.std.proofs.Common.{◌≡◌, ℕ, ◌-◌, List, ◌++◌, length, refl, ap, subst, arith}
use Rattle.ranks.specs.Ranks.{downs}
use Rattle.ranks.proofs.Counts.{downs_next}
use Rattle.clause_store.proofs.Outcomes.{on_err}
use Rattle.clause_store.proofs.Grows.{due_all, grew_whole, IsDueStill}
use Rattle.totalizer.specs.Counter.{leaves}
use Rattle.totalizer.specs.Total.{total_due}
use Rattle.totalizer.proofs.Totals.{more_all, total_grows}
use Rattle.aggregators.specs.Levels.{column, totals_due}
use Rattle.aggregators.proofs.Steps.{longer, level_grows, step_list, step_vars, step_levels, step_grew, end_list, end_levels, end_vars}
use Rattle.aggregators.proofs.leximax.add_levels.Goals as goal

pub loop-left-init : goal.loop-left-init
loop-left-init c = record {
  low = omega arith;
  more = omega arith;
  room = omega arith;
  vars = refl;
  list = due_all c.args.clauses.now.list (totals_due (downs c.args.top) c.args.clauses.now.vars c.args.parts.now).clauses;
  levels = ap (λ (xs : List (List ℕ)). xs ++ (totals_due (downs c.args.top) c.args.clauses.now.vars c.args.parts.now).levels) c.new-levels.ensures.items;
}

pub add_level-requires-clause-long : goal.add_level-requires-clause-long
add_level-requires-clause-long c = longer (c.loop-left.left - 1) c.args.top c.args.parts.now (omega (arith, c.loop-left.invariant.low)) c.requires.sized

pub add_level-requires-clause-within : goal.add_level-requires-clause-within
add_level-requires-clause-within c = more_all c.args.clauses.now.vars c.loop-left.clauses.vars c.args.parts.now c.loop-left.invariant.more c.requires.within

pub add_level-requires-clause-room : goal.add_level-requires-clause-room
add_level-requires-clause-room c = omega (arith, c.loop-left.invariant.room, c.requires.room)

pub returns-in_err-level-clause-err : goal.returns-in_err-level-clause-err
returns-in_err-level-clause-err c =
    let left = c.loop-left.left in
    let all = (totals_due (downs c.args.top) c.args.clauses.now.vars c.args.parts.now).clauses in
    let list = subst (λ ks. IsDueStill c.args.clauses.now.list c.loop-left.clauses.list (totals_due ks c.loop-left.clauses.vars c.args.parts.now).clauses all) (downs_next left (omega arith)) c.loop-left.invariant.list in
    on_err c.from_residual.result (step_grew left (downs (left - 1)) c.args.parts.now c.args.clauses.now c.loop-left.clauses c.add_level.new.clauses all list c.loop-left.invariant.more c.in_err-level.ensures.err)

pub returns-in_err-push-clause-err : goal.returns-in_err-push-clause-err
returns-in_err-push-clause-err c =
    let left = c.loop-left.left in
    let all = (totals_due (downs c.args.top) c.args.clauses.now.vars c.args.parts.now).clauses in
    let list = subst (λ ks. IsDueStill c.args.clauses.now.list c.loop-left.clauses.list (totals_due ks c.loop-left.clauses.vars c.args.parts.now).clauses all) (downs_next left (omega arith)) c.loop-left.invariant.list in
    let ones = leaves (column (left - 1) c.args.parts.now) in
    let grows = total_grows (length ones) c.loop-left.clauses.vars ones in
    on_err c.from_residual-in_err-push.result
    (step_grew left (downs (left - 1)) c.args.parts.now c.args.clauses.now c.loop-left.clauses c.add_level.new.clauses all list c.loop-left.invariant.more
    (grew_whole c.loop-left.clauses c.add_level.new.clauses (total_due c.loop-left.clauses.vars ones).clauses c.in_ok-level.ensures.list (omega (arith, c.in_ok-level.ensures.vars, grows))))

pub loop-left-preserved : goal.loop-left-preserved
loop-left-preserved c =
    let left = c.loop-left.left in
    let v = c.loop-left.clauses.vars in
    let parts = c.args.parts.now in
    let whole = totals_due (downs c.args.top) c.args.clauses.now.vars parts in
    let next = downs_next left (omega arith) in
    let ones = leaves (column (left - 1) parts) in
    let grows = total_grows (length ones) v ones in
    let room = level_grows v (left - 1) parts c.requires.some c.requires.few in
    record {
      low = omega (arith, c.loop-left.invariant.low);
      more = omega (arith, c.loop-left.invariant.more, c.in_ok-level.ensures.vars, grows);
      room = omega (arith, c.loop-left.invariant.room, c.in_ok-level.ensures.vars, room);
      vars = step_vars left (downs (left - 1)) parts v c.add_level.new.clauses.vars whole.vars c.in_ok-level.ensures.vars (subst (λ ks. (totals_due ks v parts).vars ≡ whole.vars) next c.loop-left.invariant.vars);
      list = step_list left (downs (left - 1)) parts v c.add_level.new.clauses.vars c.args.clauses.now.list c.loop-left.clauses.list c.add_level.new.clauses.list whole.clauses c.in_ok-level.ensures.vars (subst (λ ks. IsDueStill c.args.clauses.now.list c.loop-left.clauses.list (totals_due ks v parts).clauses whole.clauses) next c.loop-left.invariant.list) c.in_ok-level.ensures.list;
      levels = step_levels left (downs (left - 1)) parts v c.add_level.new.clauses.vars c.loop-left.levels.items c.push.new.self.items whole.levels c.in_ok-level.level c.in_ok-level.ensures.vars c.in_ok-level.ensures.outputs (subst (λ ks. c.loop-left.levels.items ++ (totals_due ks v parts).levels ≡ whole.levels) next c.loop-left.invariant.levels) c.in_ok-push.ensures.items;
    }

pub returns-clause-levels : goal.returns-clause-levels
returns-clause-levels c = end_levels c.loop-left.left c.loop-left.clauses.vars c.args.parts.now c.loop-left.levels.items _ (omega arith) c.loop-left.invariant.levels

pub returns-clause-vars : goal.returns-clause-vars
returns-clause-vars c = end_vars c.loop-left.left c.loop-left.clauses.vars _ c.args.parts.now (omega arith) c.loop-left.invariant.vars

pub returns-clause-list : goal.returns-clause-list
returns-clause-list c = end_list c.loop-left.left c.loop-left.clauses.vars c.args.parts.now c.args.clauses.now.list c.loop-left.clauses.list _ (omega arith) c.loop-left.invariant.list
