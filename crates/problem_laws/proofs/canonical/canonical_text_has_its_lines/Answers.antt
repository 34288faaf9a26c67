use Rattle.problem_laws.proofs.LineBytes.{no_comments, text_lines}
use Rattle.problem_laws.proofs.canonical.canonical_text_has_its_lines.Goals as goal

pub returns-clause-lines : goal.returns-clause-lines
returns-clause-lines c = text_lines c.args.problem.now

pub returns-clause-contents : goal.returns-clause-contents
returns-clause-contents c = no_comments c.args.problem.now
