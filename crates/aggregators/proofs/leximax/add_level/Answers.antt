use Rattle.std.proofs.Common.{◌≤◌, refl, sym, ap, ◌∙◌, subst, arith, All}
use Rattle.clause_store.proofs.Grows.{grew_none}
use Rattle.clause_store.proofs.Outcomes.{on_err}
use Rattle.clause_store.specs.Limits.{var_limit}
use Rattle.totalizer.specs.Counter.{AllVarsWithin, leaves}
use Rattle.totalizer.specs.Total.{total_due}
use Rattle.totalizer.proofs.Sizes.{leaves_within}
use Rattle.aggregators.specs.Levels.{column}
use Rattle.aggregators.proofs.Steps.{within_long, positive, level_grows}
use Rattle.aggregators.proofs.leximax.add_level.Goals as goal

pub returns-in_err-outputs-clause-err : goal.returns-in_err-outputs-clause-err
returns-in_err-outputs-clause-err c =
    on_err c.from_residual.result (grew_none c.args.clauses.now c.args.clauses.now (total_due c.args.clauses.now.vars (leaves (column c.args.k c.args.parts.now))).clauses refl (omega arith))

pub leaves-requires : goal.leaves-requires
leaves-requires c =
    let items = c.deref.ensures.value ∙ c.in_ok-outputs.ensures in
    subst (λ xs. All (λ x. 1 ≤ x) xs) (sym items) (positive c.args.clauses.now.vars (column c.args.k c.args.parts.now) (within_long c.args.clauses.now.vars c.args.k c.args.parts.now c.requires.within c.requires.long))

pub returns-in_err-ones-clause-err : goal.returns-in_err-ones-clause-err
returns-in_err-ones-clause-err c =
    on_err c.from_residual-in_err-ones.result (grew_none c.args.clauses.now c.args.clauses.now (total_due c.args.clauses.now.vars (leaves (column c.args.k c.args.parts.now))).clauses refl (omega arith))

pub total-requires-clause-parts_in : goal.total-requires-clause-parts_in
total-requires-clause-parts_in c =
    let items = c.deref.ensures.value ∙ c.in_ok-outputs.ensures in
    let ones = c.deref-2.ensures.value ∙ c.in_ok-ones.ensures ∙ ap leaves items in
    subst (λ ps. AllVarsWithin c.args.clauses.now.vars ps) (sym ones) (leaves_within c.args.clauses.now.vars (column c.args.k c.args.parts.now) (within_long c.args.clauses.now.vars c.args.k c.args.parts.now c.requires.within c.requires.long))

pub total-requires-clause-room : goal.total-requires-clause-room
total-requires-clause-room c =
    let items = c.deref.ensures.value ∙ c.in_ok-outputs.ensures in
    let ones = c.deref-2.ensures.value ∙ c.in_ok-ones.ensures ∙ ap leaves items in
    subst (λ ps. (total_due c.args.clauses.now.vars ps).vars ≤ var_limit) (sym ones) (omega (arith, level_grows c.args.clauses.now.vars c.args.k c.args.parts.now c.requires.some c.requires.few, c.requires.room))
