use Rattle.solver_laws.proofs.Codes.{count_law}
use Rattle.solver_laws.proofs.clauses_are_few.Goals as goal

pub returns : goal.returns
returns c = count_law
