use Rattle.problem_laws.proofs.NextLaws.{not_canonical}
use Rattle.problem_laws.proofs.next.refused_is_not_canonical.Goals as goal

pub returns : goal.returns
returns c = λ k fault h. not_canonical c.args.reading.now c.args.next.now k fault h
