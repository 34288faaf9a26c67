use Rattle.merge_cli.proofs.Laws.{lacks, lacks_none}
use Rattle.merge_cli.proofs.exact.lacking_is_exact.Goals as goal

pub returns-clause-only : goal.returns-clause-only
returns-clause-only c = lacks

pub returns-clause-never_merged : goal.returns-clause-never_merged
returns-clause-never_merged c = lacks_none
