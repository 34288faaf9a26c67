use Rattle.profile_text.specs.ProblemText.{problem_text}
use Rattle.problem_laws.proofs.TextLaws.{one_problem, spelled_or_faulty}
use Rattle.problem_laws.proofs.CanonicalText.{canonical_spelled}
use Rattle.problem_laws.proofs.canonical.canonical_text_spells_its_problem.Goals as goal

pub returns-clause-spelled : goal.returns-clause-spelled
returns-clause-spelled c = canonical_spelled c.args.problem.now

pub returns-clause-no_other : goal.returns-clause-no_other
returns-clause-no_other c read spelled =
    let problem = c.args.problem.now in one_problem (problem_text problem) read problem spelled (canonical_spelled problem)

pub returns-clause-no_fault : goal.returns-clause-no_fault
returns-clause-no_fault c fault first =
    let problem = c.args.problem.now in spelled_or_faulty (problem_text problem) problem fault (canonical_spelled problem) first
