use Rattle.clause_store.proofs.Cuts.{start_at-before}
use Rattle.clause_store.proofs.clause_list.start.Goals as goal

pub returns-else-k-eq0 : goal.returns-else-k-eq0
returns-else-k-eq0 c = start_at-before 0 c.args.ends.now c.args.k c.if-k-eq0.false c.requires
