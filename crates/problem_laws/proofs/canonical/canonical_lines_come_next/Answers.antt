use Rattle.problem_laws.proofs.CanonicalText.{canonical_written}
use Rattle.problem_laws.proofs.Written.{written_next}
use Rattle.problem_laws.proofs.canonical.canonical_lines_come_next.Goals as goal

pub returns : goal.returns
returns c = λ before rest line same. written_next (canonical_written c.args.problem.now) before rest line same
