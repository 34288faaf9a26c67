use Rattle.std.proofs.Common.{ℕ, List, ◌+◌, ◌≤◌, length, sym, ap, ◌∙◌, subst, arith}
use Rattle.std.specs.List.{All}
use Rattle.std.proofs.lemmas.Result.{on_err_weaker}
use Rattle.clause_store.specs.Clauses.{Clauses}
use Rattle.clause_store.specs.Fresh.{fresh_vars}
use Rattle.clause_store.specs.Grew.{Grew}
use Rattle.clause_store.specs.Limits.{var_limit}
use Rattle.clause_store.proofs.Fresh.{fresh_vars_positive}
use Rattle.clause_store.proofs.Grows.{grew_none, grew_front, grew_next}
use Rattle.clause_store.proofs.Outcomes.{on_err}
use Rattle.totalizer.specs.Joined.{joined_blocks}
use Rattle.totalizer.specs.Counter.{AllVarsWithin, leaves}
use Rattle.totalizer.specs.Total.{total_due}
use Rattle.totalizer.proofs.Sizes.{leaves_within}
use Rattle.totalizer.proofs.FreshVars.{fresh_vars_within}
use Rattle.agent_copies.specs.Differences.{difference_at, hamming_due}
use Rattle.agent_copies.specs.CounterLaws.{hamming_room}
use Rattle.agent_copies.proofs.Steps.{mid_vars, fresh_grew, differences_grew, differences_list}
use Rattle.agent_copies.proofs.counted.HammingCounted.counter.Goals as goal

pub returns-in_err-vars-clause-err : goal.returns-in_err-vars-clause-err
returns-in_err-vars-clause-err c =
    let same = c.in_err-vars.ensures.err in
    on_err c.from_residual.result (grew_none c.args.clauses.now c.fresh_vars.new.self (hamming_due c.args.clauses.now.vars c.args.shared.now c.args.own.now).clauses (ap (λ (s : Clauses). s.list) same) (omega (arith, ap (λ (s : Clauses). s.vars) same)))

pub returns-in_err-parts-clause-err : goal.returns-in_err-parts-clause-err
returns-in_err-parts-clause-err c =
    on_err c.from_residual-in_err-parts.result
    (fresh_grew c.args.clauses.now c.fresh_vars.new.self c.vars-base.result c.args.shared.now c.args.own.now c.in_ok-vars.ensures.ok c.vars-base.ensures.vars (hamming_due c.args.clauses.now.vars c.args.shared.now c.args.own.now).clauses)

pub returns-in_err-add_differences-clause-err : goal.returns-in_err-add_differences-clause-err
returns-in_err-add_differences-clause-err c =
    let n = length c.args.shared.now in
    let v = c.args.clauses.now.vars in
    on_err c.from_residual-in_err-add_differences.result
    (grew_front c.args.clauses.now c.add_differences.new.clauses (joined_blocks (difference_at v c.args.shared.now c.args.own.now) n) (total_due (v + n) (leaves (fresh_vars v n))).clauses
    (differences_grew c.args.clauses.now c.fresh_vars.new.self c.vars-base.result c.args.shared.now c.args.own.now c.in_ok-vars.ensures.ok c.vars-base.ensures.vars c.add_differences.new.clauses c.in_err-add_differences.ensures.err))

pub leaves-requires : goal.leaves-requires
leaves-requires c =
    let items = c.deref.ensures.value ∙ c.in_ok-vars.ensures.vars in
    subst (λ xs. All (λ x. 1 ≤ x) xs) (sym items) (fresh_vars_positive c.args.clauses.now.vars (length c.args.shared.now))

pub total-requires-clause-parts_in : goal.total-requires-clause-parts_in
total-requires-clause-parts_in c =
    let items = c.deref.ensures.value ∙ c.in_ok-vars.ensures.vars in
    let parts = c.deref-2.ensures.value ∙ c.in_ok-parts.ensures ∙ ap leaves items in
    let vars = mid_vars c.args.clauses.now c.fresh_vars.new.self c.vars-base.result c.args.shared.now c.args.own.now c.in_ok-vars.ensures.ok c.vars-base.ensures.vars in
    subst (λ ps. AllVarsWithin c.add_differences.new.clauses.vars ps) (sym parts) (leaves_within c.add_differences.new.clauses.vars (fresh_vars c.args.clauses.now.vars (length c.args.shared.now)) (fresh_vars_within c.args.clauses.now.vars (length c.args.shared.now) c.add_differences.new.clauses.vars (omega (arith, c.add_differences.ensures.vars, vars))))

pub total-requires-clause-room : goal.total-requires-clause-room
total-requires-clause-room c =
    let items = c.deref.ensures.value ∙ c.in_ok-vars.ensures.vars in
    let parts = c.deref-2.ensures.value ∙ c.in_ok-parts.ensures ∙ ap leaves items in
    let vars = c.add_differences.ensures.vars ∙ mid_vars c.args.clauses.now c.fresh_vars.new.self c.vars-base.result c.args.shared.now c.args.own.now c.in_ok-vars.ensures.ok c.vars-base.ensures.vars in
    let due = ap (λ n. total_due n c.deref-2.result.now) vars ∙ ap (total_due (c.args.clauses.now.vars + length c.args.shared.now)) parts in
    subst (λ d. d.vars ≤ var_limit) (sym due) (hamming_room c.args.clauses.now.vars (length c.args.shared.now) c.requires.some c.requires.few c.requires.room)

pub returns-clause-err : goal.returns-clause-err
returns-clause-err c =
    let n = length c.args.shared.now in
    let v = c.args.clauses.now.vars in
    let items = c.deref.ensures.value ∙ c.in_ok-vars.ensures.vars in
    let parts = c.deref-2.ensures.value ∙ c.in_ok-parts.ensures ∙ ap leaves items in
    let vars = c.add_differences.ensures.vars ∙ mid_vars c.args.clauses.now c.fresh_vars.new.self c.vars-base.result c.args.shared.now c.args.own.now c.in_ok-vars.ensures.ok c.vars-base.ensures.vars in
    let first = joined_blocks (difference_at v c.args.shared.now c.args.own.now) n in
    let list = differences_list c.args.clauses.now c.fresh_vars.new.self c.vars-base.result c.args.shared.now c.args.own.now c.in_ok-vars.ensures.ok c.vars-base.ensures.vars c.add_differences.new.clauses.list c.in_ok-add_differences.ensures.list in
    on_err_weaker c.total.result
    (λ refused. grew_next c.args.clauses.now c.add_differences.new.clauses c.total.new.clauses first (total_due (v + n) (leaves (fresh_vars v n))).clauses list (omega (arith, vars))
    (subst (λ (ps : List (List ℕ)). Grew c.add_differences.new.clauses c.total.new.clauses (total_due (v + n) ps).clauses) parts
    (subst (λ (m : ℕ). Grew c.add_differences.new.clauses c.total.new.clauses (total_due m c.deref-2.result.now).clauses) vars refused)))
    c.total.ensures.err
