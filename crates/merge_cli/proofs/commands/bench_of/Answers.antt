use Rattle.std.proofs.Common.{◌≡◌, decimal, arith, sym, ◌∙◌}
use Rattle.std.proofs.lemmas.Fmt.{decimal_injective}
use Rattle.merge_cli.proofs.commands.bench_of.Goals.{then-number-lt1-via-then-number-lt1, then-number-lt1-via-else-number-lt1+then-number-gt-BENCH_LIMIT}
use Rattle.merge_cli.proofs.commands.bench_of.Goals as goal

pub returns-then-number-lt1-clause-none : goal.returns-then-number-lt1-clause-none
returns-then-number-lt1-clause-none c =
    λ n budget same.
    let found = c.in_ok-number.ensures.found in
    let is : c.args.word.now ≡ decimal c.in_ok-number.number = sym c.as_bytes.ensures.value ∙ found.0 in
    let equal : c.in_ok-number.number ≡ n = decimal_injective _ n (omega (arith, found.1)) (omega (arith, budget.1)) (sym is ∙ same) in
    elim c.then-number-lt1.branch [
      | then-number-lt1-via-then-number-lt1 w ↦ omega (arith, equal, budget.0, w.if-number-lt1.true)
      | then-number-lt1-via-else-number-lt1+then-number-gt-BENCH_LIMIT w ↦ omega (arith, equal, budget.1, w.if-number-gt-BENCH_LIMIT.true)
    ]
