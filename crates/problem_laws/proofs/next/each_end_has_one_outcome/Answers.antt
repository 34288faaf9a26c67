use Rattle.problem_laws.proofs.EndLaws.{has_ending, same_problem, same_end, spelled_or_ended}
use Rattle.problem_laws.proofs.next.each_end_has_one_outcome.Goals as goal

pub returns-clause-has_ending : goal.returns-clause-has_ending
returns-clause-has_ending c = λ all. has_ending c.args.reading.now all

pub returns-clause-one_problem : goal.returns-clause-one_problem
returns-clause-one_problem c = λ p q h i. same_problem c.args.reading.now p q h i

pub returns-clause-one_fault : goal.returns-clause-one_fault
returns-clause-one_fault c = λ f g h i. same_end c.args.reading.now f g h i

pub returns-clause-never_both : goal.returns-clause-never_both
returns-clause-never_both c = λ p f h i. spelled_or_ended c.args.reading.now p f h i
