use Rattle.std.proofs.Common.{◌+◌, length, arith}
use Rattle.clause_store.proofs.Outcomes.{on_err}
use Rattle.totalizer.specs.Plus.{pair_clauses}
use Rattle.totalizer.proofs.Steps.{joined_grew}
use Rattle.totalizer.proofs.sums.add_row.Goals as goal

pub returns-in_err-add_pair-clause-err : goal.returns-in_err-add_pair-clause-err
returns-in_err-add_pair-clause-err c =
    on_err c.from_residual.result (joined_grew (pair_clauses c.args.left.now c.args.right.now c.args.base c.args.i) c.loop-j.j (length c.args.right.now + 1) c.args.clauses.now c.loop-j.clauses c.add_pair.new.clauses c.loop-j.invariant.list (omega (arith, c.loop-j.invariant.vars)) (omega arith) c.in_err-add_pair.ensures.err)
