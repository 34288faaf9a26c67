use Rattle.std.proofs.Common.{◌∙◌, arith}
use Rattle.std.proofs.lemmas.Result.{on_ok_weaker, on_err_weaker, IfOk-weaker}
use Rattle.clause_store.proofs.Outcomes.{on_err}
use Rattle.totalizer.proofs.Totals.{front_some, back_some, front_in, front_room, back_in, back_room, front_grew, back_grew, left_in, right_in, both_room, both_vars, both_outputs, both_list, both_grew}
use Rattle.totalizer.proofs.sums.+total_of.Goals as goal

pub total_of-requires : goal.total_of-requires
total_of-requires t c =
    let some = front_some c.args.parts.now c.split_at.result.0.now (omega (arith, c.if-parts-eq1.false, c.requires.some)) c.split_at.ensures.front in
    (omega (arith, c.decreases, some.1), (some.0, (front_in c.args.clauses.now.vars c.args.parts.now c.split_at.result.0.now c.split_at.ensures.front c.requires.parts_in, front_room c.args.clauses.now.vars c.args.parts.now c.split_at.result.0.now (omega (arith, c.if-parts-eq1.false, c.requires.some)) c.split_at.ensures.front c.requires.room)))

pub returns-in_err-left-clause-err : goal.returns-in_err-left-clause-err
returns-in_err-left-clause-err t c =
    on_err c.from_residual.result (front_grew c.args.parts.now c.args.clauses.now (omega (arith, c.if-parts-eq1.false, c.requires.some)) c.total_of.new.clauses c.split_at.result.0.now c.split_at.ensures.front c.in_err-left.ensures.err)

pub total_of-requires-2 : goal.total_of-requires-2
total_of-requires-2 t c =
    let some = back_some c.args.parts.now c.split_at.result.1.now (omega (arith, c.if-parts-eq1.false, c.requires.some)) c.split_at.ensures.back in
    (omega (arith, c.decreases, some.1), (some.0, (back_in c.args.parts.now c.args.clauses.now (omega (arith, c.if-parts-eq1.false, c.requires.some)) c.split_at.result.0.now c.split_at.result.1.now c.split_at.ensures.front c.split_at.ensures.back c.total_of.new.clauses c.in_ok-left.ensures.list c.in_ok-left.ensures.vars c.requires.parts_in, back_room c.args.parts.now c.args.clauses.now (omega (arith, c.if-parts-eq1.false, c.requires.some)) c.split_at.result.0.now c.split_at.result.1.now c.split_at.ensures.front c.split_at.ensures.back c.total_of.new.clauses c.in_ok-left.ensures.list c.in_ok-left.ensures.vars c.requires.room)))

pub returns-in_err-right-clause-err : goal.returns-in_err-right-clause-err
returns-in_err-right-clause-err t c =
    on_err c.from_residual-in_err-right.result (back_grew c.args.parts.now c.args.clauses.now (omega (arith, c.if-parts-eq1.false, c.requires.some)) c.split_at.result.0.now c.split_at.result.1.now c.split_at.ensures.front c.split_at.ensures.back c.total_of.new.clauses c.in_ok-left.ensures.list c.in_ok-left.ensures.vars c.total_of-2.new.clauses c.in_err-right.ensures.err)

pub plus-requires : goal.plus-requires
plus-requires t c = record {
  left_in = left_in c.args.parts.now c.args.clauses.now (omega (arith, c.if-parts-eq1.false, c.requires.some)) c.split_at.result.0.now c.split_at.result.1.now c.split_at.ensures.front c.split_at.ensures.back c.total_of.new.clauses c.in_ok-left.ensures.list c.in_ok-left.ensures.vars c.in_ok-left.left c.in_ok-right.right c.in_ok-left.ensures.outputs c.in_ok-right.ensures.outputs c.total_of-2.new.clauses c.in_ok-right.ensures.list c.in_ok-right.ensures.vars c.requires.parts_in;
  right_in = right_in c.args.parts.now c.args.clauses.now (omega (arith, c.if-parts-eq1.false, c.requires.some)) c.split_at.result.0.now c.split_at.result.1.now c.split_at.ensures.front c.split_at.ensures.back c.total_of.new.clauses c.in_ok-left.ensures.list c.in_ok-left.ensures.vars c.in_ok-left.left c.in_ok-right.right c.in_ok-left.ensures.outputs c.in_ok-right.ensures.outputs c.total_of-2.new.clauses c.in_ok-right.ensures.list c.in_ok-right.ensures.vars c.requires.parts_in;
  room = both_room c.args.parts.now c.args.clauses.now (omega (arith, c.if-parts-eq1.false, c.requires.some)) c.split_at.result.0.now c.split_at.result.1.now c.split_at.ensures.front c.split_at.ensures.back c.total_of.new.clauses c.in_ok-left.ensures.list c.in_ok-left.ensures.vars c.in_ok-left.left c.in_ok-right.right c.in_ok-left.ensures.outputs c.in_ok-right.ensures.outputs c.total_of-2.new.clauses c.in_ok-right.ensures.list c.in_ok-right.ensures.vars c.requires.room;
}

pub returns-clause-outputs : goal.returns-clause-outputs
returns-clause-outputs t c =
    IfOk-weaker c.plus.result _ _ (λ z e. e ∙ both_outputs c.args.parts.now c.args.clauses.now (omega (arith, c.if-parts-eq1.false, c.requires.some)) c.split_at.result.0.now c.split_at.result.1.now c.split_at.ensures.front c.split_at.ensures.back c.total_of.new.clauses c.in_ok-left.ensures.list c.in_ok-left.ensures.vars c.in_ok-left.left c.in_ok-right.right c.in_ok-left.ensures.outputs c.in_ok-right.ensures.outputs c.total_of-2.new.clauses c.in_ok-right.ensures.list c.in_ok-right.ensures.vars) c.plus.ensures.outputs

pub returns-clause-vars : goal.returns-clause-vars
returns-clause-vars t c = on_ok_weaker c.plus.result (λ e. e ∙ both_vars c.args.parts.now c.args.clauses.now (omega (arith, c.if-parts-eq1.false, c.requires.some)) c.split_at.result.0.now c.split_at.result.1.now c.split_at.ensures.front c.split_at.ensures.back c.total_of.new.clauses c.in_ok-left.ensures.list c.in_ok-left.ensures.vars c.in_ok-left.left c.in_ok-right.right c.in_ok-left.ensures.outputs c.in_ok-right.ensures.outputs c.total_of-2.new.clauses c.in_ok-right.ensures.list c.in_ok-right.ensures.vars) c.plus.ensures.vars

pub returns-clause-list : goal.returns-clause-list
returns-clause-list t c = on_ok_weaker c.plus.result (both_list c.args.parts.now c.args.clauses.now (omega (arith, c.if-parts-eq1.false, c.requires.some)) c.split_at.result.0.now c.split_at.result.1.now c.split_at.ensures.front c.split_at.ensures.back c.total_of.new.clauses c.in_ok-left.ensures.list c.in_ok-left.ensures.vars c.in_ok-left.left c.in_ok-right.right c.in_ok-left.ensures.outputs c.in_ok-right.ensures.outputs c.total_of-2.new.clauses c.in_ok-right.ensures.list c.in_ok-right.ensures.vars c.plus.new.clauses) c.plus.ensures.list

pub returns-clause-err : goal.returns-clause-err
returns-clause-err t c = on_err_weaker c.plus.result (both_grew c.args.parts.now c.args.clauses.now (omega (arith, c.if-parts-eq1.false, c.requires.some)) c.split_at.result.0.now c.split_at.result.1.now c.split_at.ensures.front c.split_at.ensures.back c.total_of.new.clauses c.in_ok-left.ensures.list c.in_ok-left.ensures.vars c.in_ok-left.left c.in_ok-right.right c.in_ok-left.ensures.outputs c.in_ok-right.ensures.outputs c.total_of-2.new.clauses c.in_ok-right.ensures.list c.in_ok-right.ensures.vars c.plus.new.clauses) c.plus.ensures.err
