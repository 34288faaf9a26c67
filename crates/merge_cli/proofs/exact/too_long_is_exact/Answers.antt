use Rattle.merge_cli.proofs.Laws.{too_long_comes, too_long_only}
use Rattle.merge_cli.proofs.exact.too_long_is_exact.Goals as goal

pub returns-clause-comes : goal.returns-clause-comes
returns-clause-comes c = too_long_comes

pub returns-clause-only : goal.returns-clause-only
returns-clause-only c = too_long_only
