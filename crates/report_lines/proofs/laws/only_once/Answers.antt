use Rattle.report_lines.proofs.Once.{once}
use Rattle.report_lines.proofs.laws.only_once.Goals as goal

pub returns : goal.returns
returns c = λ text m n k j w v. once text m n k j w v
