use Rattle.report_lines.proofs.ItemsLaw.{items_are}
use Rattle.report_lines.proofs.laws.accepted_items.Goals as goal

pub returns : goal.returns
returns c = λ text k a. items_are text k a
