use Rattle.std.proofs.Common.{◌+◌, length, arith}
use Rattle.clause_store.proofs.Outcomes.{on_err}
use Rattle.totalizer.specs.Plus.{row_clauses}
use Rattle.totalizer.proofs.Steps.{joined_grew}
use Rattle.totalizer.proofs.sums.add_rows.Goals as goal

pub returns-in_err-add_row-clause-err : goal.returns-in_err-add_row-clause-err
returns-in_err-add_row-clause-err c =
    on_err c.from_residual.result (joined_grew (row_clauses c.args.left.now c.args.right.now c.args.base) c.loop-i.i (length c.args.left.now + 1) c.args.clauses.now c.loop-i.clauses c.add_row.new.clauses c.loop-i.invariant.list (omega (arith, c.loop-i.invariant.vars)) (omega arith) c.in_err-add_row.ensures.err)
