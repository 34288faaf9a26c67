use Rattle.std.proofs.Common.{◌≡◌, decimal, arith, sym, ◌∙◌}
use Rattle.std.proofs.lemmas.Fmt.{decimal_injective}
use Rattle.merge_cli.proofs.commands.count_of.Goals.{then-count-lt1-via-then-count-lt1, then-count-lt1-via-else-count-lt1+then-count-gt-COUNT_LIMIT}
use Rattle.merge_cli.proofs.commands.count_of.Goals as goal

pub returns-then-count-lt1-clause-none : goal.returns-then-count-lt1-clause-none
returns-then-count-lt1-clause-none c =
    λ n some same.
    let found = c.in_ok-count.ensures.found in
    let is : c.args.word.now ≡ decimal c.in_ok-count.count = sym c.as_bytes.ensures.value ∙ found.0 in
    let equal : c.in_ok-count.count ≡ n = decimal_injective _ n (omega (arith, found.1)) (omega (arith, some.1)) (sym is ∙ same) in
    elim c.then-count-lt1.branch [
      | then-count-lt1-via-then-count-lt1 w ↦ omega (arith, equal, some.0, w.if-count-lt1.true)
      | then-count-lt1-via-else-count-lt1+then-count-gt-COUNT_LIMIT w ↦ omega (arith, equal, some.1, w.if-count-gt-COUNT_LIMIT.true)
    ]
