use Rattle.merge_cli.proofs.OneList.{one_list}
use Rattle.merge_cli.proofs.exact.list_is_exact.Goals as goal

pub returns : goal.returns
returns _ = one_list
