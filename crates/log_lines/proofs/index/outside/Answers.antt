use Rattle.std.proofs.Common.{◌<◌, ◌-◌, length, get_or, sym, ◌∙◌, false, arith}
use Rattle.std.proofs.lemmas.List.{get_or_default}
use Rattle.clause_store.specs.declared.lit.Lit.{Lit}
use Rattle.log_lines.proofs.Included.{contains_has}
use Rattle.log_lines.proofs.index.outside.Goals as goal

pub returns-then-not-has_lit : goal.returns-then-not-has_lit
returns-then-not-has_lit c =
    let i = c.loop-at.at - 1 in
    let none : Lit = record { var = 0; positive = false } in
    let l = get_or c.args.inner.now i none in
    let within : i < length c.args.inner.now = omega (arith, c.loop-at-test.true, c.loop-at.invariant.0) in
    (contains_has l c.args.inner.now (i, within, get_or_default c.args.inner.now i l none within), sym c.has_lit.ensures ∙ c.if-not-has_lit.true)
