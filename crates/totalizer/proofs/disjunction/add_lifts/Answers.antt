use Rattle.std.proofs.Common.{arith}
use Rattle.clause_store.proofs.Outcomes.{on_err}
use Rattle.totalizer.proofs.Disjunctions.{lifts_grew}
use Rattle.totalizer.proofs.disjunction.add_lifts.Goals as goal

pub returns-in_err-add-clause-err : goal.returns-in_err-add-clause-err
returns-in_err-add-clause-err c =
    on_err c.from_residual.result (lifts_grew c.args.output c.loop-var.var-index c.args.vars.now c.args.clauses.now c.loop-var.clauses c.add.new.clauses c.loop-var.invariant.list (omega (arith, c.loop-var.invariant.vars)) c.in_err-add.ensures.err (omega (arith, c.add.ensures.vars)))
