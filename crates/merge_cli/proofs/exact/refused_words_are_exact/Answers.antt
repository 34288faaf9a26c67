use Rattle.merge_cli.proofs.Laws.{refused_comes, refused_only, no_stop}
use Rattle.merge_cli.proofs.exact.refused_words_are_exact.Goals as goal

pub returns-clause-comes : goal.returns-clause-comes
returns-clause-comes c = refused_comes

pub returns-clause-only : goal.returns-clause-only
returns-clause-only c = refused_only

pub returns-clause-no_stop : goal.returns-clause-no_stop
returns-clause-no_stop c = no_stop
