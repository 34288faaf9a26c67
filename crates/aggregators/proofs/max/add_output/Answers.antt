use Rattle.std.proofs.Common.{refl, sym, ◌∙◌, subst, arith}
use Rattle.clause_store.proofs.Grows.{grew_none}
use Rattle.clause_store.proofs.Outcomes.{on_err}
use Rattle.totalizer.specs.Counter.{AreVarsWithin}
use Rattle.totalizer.specs.Either.{either_due}
use Rattle.aggregators.specs.Levels.{column}
use Rattle.aggregators.proofs.Steps.{within_long}
use Rattle.aggregators.proofs.max.add_output.Goals as goal

pub returns-in_err-vars-clause-err : goal.returns-in_err-vars-clause-err
returns-in_err-vars-clause-err c =
    on_err c.from_residual.result (grew_none c.args.clauses.now c.args.clauses.now (either_due c.args.clauses.now.vars (column c.args.k c.args.aways.now)).clauses refl (omega arith))

pub either-requires-clause-vars_in : goal.either-requires-clause-vars_in
either-requires-clause-vars_in c =
    subst (λ xs. AreVarsWithin c.args.clauses.now.vars xs) (sym (c.deref.ensures.value ∙ c.in_ok-vars.ensures)) (within_long c.args.clauses.now.vars c.args.k c.args.aways.now c.requires.within c.requires.long)
