use Rattle.problem_laws.proofs.NextLaws.{has_outcome, one_next_fault, never_joins}
use Rattle.problem_laws.proofs.next.each_next_line_has_one_outcome.Goals as goal

pub returns-clause-has_outcome : goal.returns-clause-has_outcome
returns-clause-has_outcome c = λ all. has_outcome c.args.reading.now c.args.next.now all

pub returns-clause-one_fault : goal.returns-clause-one_fault
returns-clause-one_fault c = λ k j h i. one_next_fault c.args.reading.now c.args.next.now k j h i

pub returns-clause-never_both : goal.returns-clause-never_both
returns-clause-never_both c = λ k h all. never_joins c.args.reading.now c.args.next.now k h all
