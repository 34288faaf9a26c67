use Rattle.std.proofs.Common.{ℕ, ◌+◌, List, length, ap, sym, ◌∙◌, subst, arith}
use Rattle.std.proofs.lemmas.Result.{on_err_weaker}
use Rattle.clause_store.specs.Clauses.{Clauses}
use Rattle.clause_store.specs.Fresh.{fresh_vars}
use Rattle.clause_store.specs.Grew.{Grew}
use Rattle.clause_store.proofs.Grows.{grew_none, grew_front, grew_next}
use Rattle.clause_store.proofs.Outcomes.{on_err}
use Rattle.totalizer.specs.Joined.{joined_blocks}
use Rattle.totalizer.specs.Counter.{AreVarsWithin}
use Rattle.totalizer.specs.Either.{either_due}
use Rattle.totalizer.proofs.FreshVars.{fresh_vars_within}
use Rattle.agent_copies.specs.Differences.{difference_at, drastic_due}
use Rattle.agent_copies.proofs.Steps.{mid_vars, differences_grew, differences_list}
use Rattle.agent_copies.proofs.counted.DrasticCounted.counter.Goals as goal

pub returns-in_err-vars-clause-err : goal.returns-in_err-vars-clause-err
returns-in_err-vars-clause-err c =
    let same = c.in_err-vars.ensures.err in
    on_err c.from_residual.result (grew_none c.args.clauses.now c.fresh_vars.new.self (drastic_due c.args.clauses.now.vars c.args.shared.now c.args.own.now).clauses (ap (λ (s : Clauses). s.list) same) (omega (arith, ap (λ (s : Clauses). s.vars) same)))

pub returns-in_err-add_differences-clause-err : goal.returns-in_err-add_differences-clause-err
returns-in_err-add_differences-clause-err c =
    let n = length c.args.shared.now in
    let v = c.args.clauses.now.vars in
    on_err c.from_residual-in_err-add_differences.result
    (grew_front c.args.clauses.now c.add_differences.new.clauses (joined_blocks (difference_at v c.args.shared.now c.args.own.now) n) (either_due (v + n) (fresh_vars v n)).clauses
    (differences_grew c.args.clauses.now c.fresh_vars.new.self c.vars-base.result c.args.shared.now c.args.own.now c.in_ok-vars.ensures.ok c.vars-base.ensures.vars c.add_differences.new.clauses c.in_err-add_differences.ensures.err))

pub either-requires-clause-vars_in : goal.either-requires-clause-vars_in
either-requires-clause-vars_in c =
    let items = c.deref.ensures.value ∙ c.in_ok-vars.ensures.vars in
    let vars = mid_vars c.args.clauses.now c.fresh_vars.new.self c.vars-base.result c.args.shared.now c.args.own.now c.in_ok-vars.ensures.ok c.vars-base.ensures.vars in
    subst (λ xs. AreVarsWithin c.add_differences.new.clauses.vars xs) (sym items) (fresh_vars_within c.args.clauses.now.vars (length c.args.shared.now) c.add_differences.new.clauses.vars (omega (arith, c.add_differences.ensures.vars, vars)))

pub returns-clause-err : goal.returns-clause-err
returns-clause-err c =
    let n = length c.args.shared.now in
    let v = c.args.clauses.now.vars in
    let items = c.deref.ensures.value ∙ c.in_ok-vars.ensures.vars in
    let vars = c.add_differences.ensures.vars ∙ mid_vars c.args.clauses.now c.fresh_vars.new.self c.vars-base.result c.args.shared.now c.args.own.now c.in_ok-vars.ensures.ok c.vars-base.ensures.vars in
    let first = joined_blocks (difference_at v c.args.shared.now c.args.own.now) n in
    let list = differences_list c.args.clauses.now c.fresh_vars.new.self c.vars-base.result c.args.shared.now c.args.own.now c.in_ok-vars.ensures.ok c.vars-base.ensures.vars c.add_differences.new.clauses.list c.in_ok-add_differences.ensures.list in
    on_err_weaker c.either.result
    (λ refused. grew_next c.args.clauses.now c.add_differences.new.clauses c.either.new.clauses first (either_due (v + n) (fresh_vars v n)).clauses list (omega (arith, vars))
    (subst (λ (xs : List ℕ). Grew c.add_differences.new.clauses c.either.new.clauses (either_due (v + n) xs).clauses) items
    (subst (λ (m : ℕ). Grew c.add_differences.new.clauses c.either.new.clauses (either_due m c.deref.result.now).clauses) vars refused)))
    c.either.ensures.err
