use Rattle.problem_laws.proofs.EachText.{has_reading}
use Rattle.problem_laws.proofs.TextLaws.{one_problem, one_first_fault, spelled_or_faulty}
use Rattle.problem_laws.proofs.texts.each_text_has_one_reading.Goals as goal

pub returns-clause-has_reading : goal.returns-clause-has_reading
returns-clause-has_reading c = has_reading c.args.bytes.now

pub returns-clause-one_problem : goal.returns-clause-one_problem
returns-clause-one_problem c p q h i = one_problem c.args.bytes.now p q h i

pub returns-clause-one_fault : goal.returns-clause-one_fault
returns-clause-one_fault c f g h i = one_first_fault c.args.bytes.now f g h i

pub returns-clause-never_both : goal.returns-clause-never_both
returns-clause-never_both c p f h i = spelled_or_faulty c.args.bytes.now p f h i
