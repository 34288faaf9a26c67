use Rattle.std.proofs.Common.{◌+◌, ◌≤◌, ◌^◌, length, refl, sym, ap, ◌∙◌, subst, arith}
use Rattle.clause_store.proofs.Grows.{grew_none}
use Rattle.clause_store.proofs.Outcomes.{on_err}
use Rattle.clause_store.specs.Limits.{var_limit}
use Rattle.totalizer.specs.Counter.{AllVarsWithin}
use Rattle.totalizer.specs.Total.{total_due}
use Rattle.merge_model.specs.Merging.{repeated}
use Rattle.aggregators.specs.Levels.{sum_due}
use Rattle.aggregators.specs.Repeats.{some_repeated, within_repeated}
use Rattle.aggregators.specs.SumLevel.{sum_room}
use Rattle.aggregators.proofs.sum.SumLevelled.levels.Goals as goal

pub returns-in_err-parts-clause-err : goal.returns-in_err-parts-clause-err
returns-in_err-parts-clause-err c =
    on_err c.from_residual.result (grew_none c.args.clauses.now c.args.clauses.now (sum_due c.args.clauses.now.vars c.args.aways.now c.args.times.now).clauses refl (omega arith))

pub total-requires-clause-some : goal.total-requires-clause-some
total-requires-clause-some c =
    let items = c.deref.ensures.value ∙ c.in_ok-parts.ensures in
    omega (arith, ap length items, some_repeated c.args.clauses.now.vars c.args.aways.now c.args.times.now c.requires.counters)

pub total-requires-clause-parts_in : goal.total-requires-clause-parts_in
total-requires-clause-parts_in c =
    let items = c.deref.ensures.value ∙ c.in_ok-parts.ensures in
    subst (λ ps. AllVarsWithin c.args.clauses.now.vars ps) (sym items) (within_repeated c.args.clauses.now.vars c.args.times.now c.args.aways.now c.requires.counters.within)

pub total-requires-clause-room : goal.total-requires-clause-room
total-requires-clause-room c =
    let items = c.deref.ensures.value ∙ c.in_ok-parts.ensures in
    let room : (total_due c.args.clauses.now.vars (repeated c.args.times.now c.args.aways.now)).vars ≤ c.args.clauses.now.vars + 2 ^ 24 = sum_room c.args.clauses.now.vars c.args.aways.now c.args.times.now c.requires.counters in
    subst (λ ps. (total_due c.args.clauses.now.vars ps).vars ≤ var_limit) (sym items) (omega (arith, room, c.requires.room))
