use Rattle.std.proofs.Common.{rules}
use Rattle.clause_store.proofs.Cuts.{length-cut}
use Rattle.clause_store.proofs.clause_list.ClauseList.len.Goals as goal

pub returns-clause-len : goal.returns-clause-len
returns-clause-len c = rw (← c.self.view_is, length-cut) (search rules)
