use Rattle.solver_laws.proofs.Few.{few_learned, apart}
use Rattle.solver_laws.proofs.learned_are_few.Goals as goal

pub returns-clause-few : goal.returns-clause-few
returns-clause-few c = few_learned

pub returns-clause-distinct : goal.returns-clause-distinct
returns-clause-distinct c g l = apart g.main g.steps l.new
