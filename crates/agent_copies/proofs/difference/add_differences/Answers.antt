use Rattle.std.proofs.Common.{length, arith}
use Rattle.clause_store.proofs.Outcomes.{on_err}
use Rattle.agent_copies.specs.Differences.{difference_at}
use Rattle.totalizer.proofs.Steps.{joined_more, joined_grew}
use Rattle.agent_copies.proofs.Steps.{place_grew, place_list}
use Rattle.agent_copies.proofs.difference.add_differences.Goals as goal

pub returns-in_err-add_difference-clause-err : goal.returns-in_err-add_difference-clause-err
returns-in_err-add_difference-clause-err c =
    on_err c.from_residual.result
    (joined_grew (difference_at c.args.base c.args.shared.now c.args.own.now) c.loop-i.i (length c.args.shared.now) c.args.clauses.now c.loop-i.clauses c.add_difference.new.clauses c.loop-i.invariant.list (omega (arith, c.loop-i.invariant.vars)) c.loop-i-test.true
    (place_grew c.args.base c.loop-i.i c.args.shared.now c.args.own.now c.positive-difference.result _ _ c.loop-i.clauses c.add_difference.new.clauses c.loop-i-test.true (omega (arith, c.loop-i-test.true, c.requires.lengths)) c.positive-difference.ensures c.in_err-add_difference.ensures.err))

pub loop-i-preserved : goal.loop-i-preserved
loop-i-preserved c = record {
  vars = omega (arith, c.add_difference.ensures.vars, c.loop-i.invariant.vars);
  list = joined_more (difference_at c.args.base c.args.shared.now c.args.own.now) c.loop-i.i c.args.clauses.now.list c.loop-i.clauses.list c.add_difference.new.clauses.list c.loop-i.invariant.list
      (place_list c.args.base c.loop-i.i c.args.shared.now c.args.own.now c.positive-difference.result _ _ c.loop-i.clauses.list c.add_difference.new.clauses.list c.loop-i-test.true (omega (arith, c.loop-i-test.true, c.requires.lengths)) c.positive-difference.ensures c.in_ok-add_difference.ensures.list);
}
