use Rattle.std.proofs.Common.{◌≡◌, ◌+◌, [], ◌∷◌, ◌++◌, sym, ap, ◌∙◌, subst, arith}
use Rattle.std.specs.Prelude.{map}
use Rattle.clause_store.specs.Lits.{sorted_clause}
use Rattle.clause_store.specs.Grew.{Grew}
use Rattle.clause_store.specs.Fresh.{fresh_vars}
use Rattle.clause_store.proofs.Fresh.{fresh_vars_next}
use Rattle.clause_store.proofs.Outcomes.{on_err}
use Rattle.clause_store.proofs.Grows.{grew_whole}
use Rattle.totalizer.specs.Either.{either_due}
use Rattle.totalizer.proofs.Steps.{joined_more, joined_grew}
use Rattle.totalizer.proofs.Totals.{more_all}
use Rattle.aggregators.specs.Levels.{column, output_clauses}
use Rattle.aggregators.proofs.max.add_outputs.Goals as goal

pub add_output-requires-clause-within : goal.add_output-requires-clause-within
add_output-requires-clause-within c = more_all c.args.clauses.now.vars c.loop-k.clauses.vars c.args.aways.now (omega (arith, c.loop-k.invariant.vars)) c.requires.within

pub returns-in_err-output-clause-err : goal.returns-in_err-output-clause-err
returns-in_err-output-clause-err c =
    on_err c.from_residual.result
    (joined_grew (output_clauses c.args.clauses.now.vars c.args.aways.now) c.loop-k.k c.args.top c.args.clauses.now c.loop-k.clauses c.add_output.new.clauses c.loop-k.invariant.list (omega (arith, c.loop-k.invariant.vars)) c.loop-k-test.true
    (subst (λ n. Grew c.loop-k.clauses c.add_output.new.clauses (either_due n (column c.loop-k.k c.args.aways.now)).clauses) c.loop-k.invariant.vars c.in_err-output.ensures.err))

pub returns-in_err-push-clause-err : goal.returns-in_err-push-clause-err
returns-in_err-push-clause-err c =
    on_err c.from_residual-in_err-push.result
    (joined_grew (output_clauses c.args.clauses.now.vars c.args.aways.now) c.loop-k.k c.args.top c.args.clauses.now c.loop-k.clauses c.add_output.new.clauses c.loop-k.invariant.list (omega (arith, c.loop-k.invariant.vars)) c.loop-k-test.true
    (subst (λ n. Grew c.loop-k.clauses c.add_output.new.clauses (either_due n (column c.loop-k.k c.args.aways.now)).clauses) c.loop-k.invariant.vars
    (grew_whole c.loop-k.clauses c.add_output.new.clauses (either_due c.loop-k.clauses.vars (column c.loop-k.k c.args.aways.now)).clauses c.in_ok-output.ensures.list (omega (arith, c.in_ok-output.ensures.vars)))))

pub loop-k-preserved : goal.loop-k-preserved
loop-k-preserved c =
    let v = c.args.clauses.now.vars in
    let k = c.loop-k.k in
    let output = c.in_ok-output.ensures.output ∙ ap (λ n. n + 1) c.loop-k.invariant.vars in
    record {
      vars = omega (arith, c.loop-k.invariant.vars, c.in_ok-output.ensures.vars);
      list = joined_more (output_clauses v c.args.aways.now) k c.args.clauses.now.list c.loop-k.clauses.list c.add_output.new.clauses.list c.loop-k.invariant.list
          (subst (λ n. c.add_output.new.clauses.list ≡ c.loop-k.clauses.list ++ map sorted_clause (either_due n (column k c.args.aways.now)).clauses) c.loop-k.invariant.vars c.in_ok-output.ensures.list);
      outputs = c.in_ok-push.ensures.items
          ∙ ap (λ xs. xs ++ c.in_ok-output.output ∷ []) c.loop-k.invariant.outputs
          ∙ ap (λ n. fresh_vars v k ++ n ∷ []) output
          ∙ sym (fresh_vars_next v k);
    }
