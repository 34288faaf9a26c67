use Rattle.report_lines.proofs.NeverBoth.{never}
use Rattle.report_lines.proofs.laws.never_both.Goals as goal

pub returns : goal.returns
returns c = λ text k line refused a w. never text k line refused a w
