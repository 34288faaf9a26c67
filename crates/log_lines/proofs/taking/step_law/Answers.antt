use Rattle.log_lines.proofs.Narrow.{follows_is, narrow_is}
use Rattle.log_lines.proofs.taking.step_law.Goals as goal

pub returns-clause-follows : goal.returns-clause-follows
returns-clause-follows c = follows_is

pub returns-clause-narrow : goal.returns-clause-narrow
returns-clause-narrow c = narrow_is
