use Rattle.std.proofs.Common.{◌≡◌, decimal, arith, sym, ◌∙◌}
use Rattle.std.proofs.lemmas.Fmt.{decimal_injective}
use Rattle.merge_cli.proofs.commands.conflicts_of.Goals.{then-conflicts-lt1-via-then-conflicts-lt1, then-conflicts-lt1-via-else-conflicts-lt1+then-conflicts-gt-CONFLICT_LIMIT}
use Rattle.merge_cli.proofs.commands.conflicts_of.Goals as goal

pub returns-then-conflicts-lt1-clause-none : goal.returns-then-conflicts-lt1-clause-none
returns-then-conflicts-lt1-clause-none c =
    λ n budget same.
    let found = c.in_ok-conflicts.ensures.found in
    let is : c.args.word.now ≡ decimal c.in_ok-conflicts.conflicts = sym c.as_bytes.ensures.value ∙ found.0 in
    let equal : c.in_ok-conflicts.conflicts ≡ n = decimal_injective _ n (omega (arith, found.1)) (omega (arith, budget.1)) (sym is ∙ same) in
    elim c.then-conflicts-lt1.branch [
      | then-conflicts-lt1-via-then-conflicts-lt1 w ↦ omega (arith, equal, budget.0, w.if-conflicts-lt1.true)
      | then-conflicts-lt1-via-else-conflicts-lt1+then-conflicts-gt-CONFLICT_LIMIT w ↦ omega (arith, equal, budget.1, w.if-conflicts-gt-CONFLICT_LIMIT.true)
    ]
