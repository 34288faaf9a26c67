use Rattle.std.proofs.Common.{◌+◌, sym, ap, ◌∙◌, refl, subst, arith}
use Rattle.clause_store.specs.Clauses.{Clauses}
use Rattle.clause_store.specs.Lits.{InRange}
use Rattle.clause_store.proofs.Grows.{grew_none}
use Rattle.std.specs.Prelude.{map}
use Rattle.clause_store.specs.Grew.{Grew}
use Rattle.clause_store.proofs.Outcomes.{on_err}
use Rattle.totalizer.specs.Either.{lifts, needs_one, either_due}
use Rattle.totalizer.proofs.Law.{more_vars}
use Rattle.totalizer.proofs.Disjunctions.{either_is, either_grew, needs_within}
use Rattle.totalizer.proofs.disjunction.either.Goals as goal

pub returns-in_err-counter-clause-err : goal.returns-in_err-counter-clause-err
returns-in_err-counter-clause-err c =
    on_err c.from_residual.result (grew_none c.args.clauses.now c.args.clauses.now (either_due c.args.clauses.now.vars c.args.vars.now).clauses refl (omega arith))

pub returns-in_err-last-clause-err : goal.returns-in_err-last-clause-err
returns-in_err-last-clause-err c =
    on_err c.from_residual-in_err-last.result (grew_none c.args.clauses.now c.args.clauses.now (either_due c.args.clauses.now.vars c.args.vars.now).clauses refl (omega arith))

pub returns-in_err-add_lifts-clause-err : goal.returns-in_err-add_lifts-clause-err
returns-in_err-add_lifts-clause-err c =
    let list = ap (λ (s : Clauses). s.list) c.fresh-output.ensures.after in
    let vars = ap (λ (s : Clauses). s.vars) c.fresh-output.ensures.after in
    on_err c.from_residual-in_err-add_lifts.result (either_grew c.args.clauses.now.vars c.args.vars.now c.args.clauses.now c.fresh-output.new.self c.add_lifts.new.clauses list (omega (arith, vars)) (subst (λ n. Grew c.fresh-output.new.self c.add_lifts.new.clauses (map (lifts (n + 1)) c.args.vars.now)) c.vars-output.ensures.vars c.in_err-add_lifts.ensures.err))

pub add-requires : goal.add-requires
add-requires c =
    let vars = ap (λ (s : Clauses). s.vars) c.fresh-output.ensures.after in
    let last = c.add_lifts.ensures.vars ∙ vars in
    let items = c.deref.ensures.value ∙ c.in_ok-last.ensures ∙ ap (λ n. needs_one (n + 1) c.args.vars.now) c.vars-output.ensures.vars in
    let inside = needs_within (c.args.clauses.now.vars + 1) (c.args.clauses.now.vars + 1) c.args.vars.now (omega arith) (omega arith) (more_vars c.args.clauses.now.vars (c.args.clauses.now.vars + 1) c.args.vars.now (omega arith) c.requires.vars_in) in
    record { in_range = subst (λ n. InRange n c.deref.result.now) (sym last) (subst (λ ls. InRange (c.args.clauses.now.vars + 1) ls) (sym items) inside) }

pub returns-in_err-counter-clause-either : goal.returns-in_err-counter-clause-either
returns-in_err-counter-clause-either c = either_is c.args.clauses.now.vars c.args.vars.now c.requires.vars_in

pub returns-in_err-last-clause-either : goal.returns-in_err-last-clause-either
returns-in_err-last-clause-either c = either_is c.args.clauses.now.vars c.args.vars.now c.requires.vars_in

pub returns-in_err-add_lifts-clause-either : goal.returns-in_err-add_lifts-clause-either
returns-in_err-add_lifts-clause-either c = either_is c.args.clauses.now.vars c.args.vars.now c.requires.vars_in

pub returns-in_err-add-clause-either : goal.returns-in_err-add-clause-either
returns-in_err-add-clause-either c = either_is c.args.clauses.now.vars c.args.vars.now c.requires.vars_in

pub returns-clause-either : goal.returns-clause-either
returns-clause-either c = either_is c.args.clauses.now.vars c.args.vars.now c.requires.vars_in
