use Rattle.totalizer.proofs.Totals.{total_law}
use Rattle.totalizer.proofs.sums.total.Goals as goal

pub returns-clause-total : goal.returns-clause-total
returns-clause-total c = total_law c.args.clauses.now.vars c.args.parts.now c.requires.some c.requires.parts_in
