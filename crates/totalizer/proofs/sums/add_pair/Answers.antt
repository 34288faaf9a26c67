use Rattle.std.proofs.Common.{arith}
use Rattle.std.proofs.lemmas.Result.{on_err_weaker}
use Rattle.totalizer.specs.Plus.{up_clauses, down_clauses, pair_clauses}
use Rattle.clause_store.proofs.Grows.{grew_none, grew_next}
use Rattle.clause_store.proofs.Outcomes.{on_err}
use Rattle.totalizer.proofs.sums.add_pair.Goals as goal

pub returns-in_err-add_up-clause-err : goal.returns-in_err-add_up-clause-err
returns-in_err-add_up-clause-err c =
    on_err c.from_residual.result (grew_none c.args.clauses.now c.add_up.new.clauses (pair_clauses c.args.left.now c.args.right.now c.args.base c.args.i c.args.j) c.in_err-add_up.ensures.err (omega (arith, c.add_up.ensures.vars)))

pub returns-clause-err : goal.returns-clause-err
returns-clause-err c =
    let up = up_clauses c.args.left.now c.args.right.now c.args.base c.args.i c.args.j in
    let down = down_clauses c.args.left.now c.args.right.now c.args.base c.args.i c.args.j in
    on_err_weaker c.add_down.result
    (λ e. grew_next c.args.clauses.now c.add_up.new.clauses c.add_down.new.clauses up down c.in_ok-add_up.ensures.list (omega (arith, c.add_up.ensures.vars))
    (grew_none c.add_up.new.clauses c.add_down.new.clauses down e (omega (arith, c.add_down.ensures.vars))))
    c.add_down.ensures.err
