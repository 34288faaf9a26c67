use Rattle.report_lines.proofs.lines.takes_claim.Goals as goal

pub returns-in-NoModelOfConstraint-clause-no : goal.returns-in-NoModelOfConstraint-clause-no
returns-in-NoModelOfConstraint-clause-no c = rw c.in-NoModelOfConstraint.is c.takes.ensures.no
