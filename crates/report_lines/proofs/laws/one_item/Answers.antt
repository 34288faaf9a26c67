use Rattle.report_lines.proofs.OneItem.{one_item}
use Rattle.report_lines.proofs.laws.one_item.Goals as goal

pub returns : goal.returns
returns c = λ d p x y h k e. one_item d p x y h k e
