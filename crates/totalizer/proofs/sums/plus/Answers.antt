use Rattle.std.proofs.Common.{◌+◌, length, ap, arith}
use Rattle.clause_store.proofs.Grows.{grew_none}
use Rattle.clause_store.proofs.Outcomes.{on_err}
use Rattle.clause_store.specs.Clauses.{Clauses}
use Rattle.totalizer.specs.Plus.{plus_clauses}
use Rattle.totalizer.proofs.Steps.{invariant_fresh}
use Rattle.totalizer.proofs.Law.{plus_is}
use Rattle.totalizer.proofs.sums.plus.Goals as goal

pub returns-in_err-outputs-clause-err : goal.returns-in_err-outputs-clause-err
returns-in_err-outputs-clause-err c =
    on_err c.from_residual.result (grew_none c.args.clauses.now c.fresh_vars.new.self (plus_clauses c.args.left.now c.args.right.now c.args.clauses.now.vars) (ap (λ (s : Clauses). s.list) c.in_err-outputs.ensures.err) (omega (arith, ap (λ (s : Clauses). s.vars) c.in_err-outputs.ensures.err)))

pub returns-in_err-outputs-clause-sum : goal.returns-in_err-outputs-clause-sum
returns-in_err-outputs-clause-sum c = plus_is c.args.clauses.now.vars c.args.left.now c.args.right.now c.requires.left_in c.requires.right_in

pub returns-in_err-add_rows-clause-sum : goal.returns-in_err-add_rows-clause-sum
returns-in_err-add_rows-clause-sum c = plus_is c.args.clauses.now.vars c.args.left.now c.args.right.now c.requires.left_in c.requires.right_in

pub returns-clause-sum : goal.returns-clause-sum
returns-clause-sum c = plus_is c.args.clauses.now.vars c.args.left.now c.args.right.now c.requires.left_in c.requires.right_in

pub from_outputs-requires : goal.from_outputs-requires
from_outputs-requires c =
    let l = c.outputs-left.ensures.some in
    let x = ap length c.outputs-left.ensures.value in
    let y = ap length c.outputs-right.ensures.value in
    let f = invariant_fresh c.args.clauses.now.vars (length c.outputs-left.result.now + length c.outputs-right.result.now) c.in_ok-outputs.outputs.items c.in_ok-outputs.ensures.vars (omega (arith, l, x, y)) (omega (arith, l, x, y, c.requires.room)) in
    record { some = f.0; few = f.1; numbered = f.2 }
