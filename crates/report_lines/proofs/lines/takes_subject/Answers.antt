use Rattle.report_lines.proofs.lines.takes_subject.Goals as goal

pub returns-in-TheConstraint-clause-no : goal.returns-in-TheConstraint-clause-no
returns-in-TheConstraint-clause-no c = rw c.in-TheConstraint.is c.takes.ensures.no
