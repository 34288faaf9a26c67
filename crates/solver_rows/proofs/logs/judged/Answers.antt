use Rattle.std.proofs.Common.{ℕ, ap, sym, ◌∙◌, subst}
use Rattle.clause_store.specs.Clauses.{Clauses}
use Rattle.clause_store.specs.Lits.{InRange}
use Rattle.solver_rows.proofs.Ranges.{are_in, in_range}
use Rattle.solver_rows.proofs.logs.judged.Goals as goal

pub returns-clause-in_range : goal.returns-clause-in_range
returns-clause-in_range c =
    let step = c.in_ok-number.step in
    let vars = c.vars.ensures.vars ∙ ap (λ (known : Clauses). known.vars) c.known-known.ensures in
    let test = ap (are_in c.vars.result) (sym c.lits.ensures.value) ∙ (sym c.are_within.ensures ∙ c.if-not-are_within.false) in
    subst (λ (v : ℕ). InRange v step.clause) vars (in_range c.vars.result step.clause test)
