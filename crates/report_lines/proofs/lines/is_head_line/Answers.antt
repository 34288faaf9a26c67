use Rattle.std.proofs.Common.{codes}
use Rattle.report_lines.proofs.LineFacts.{not_true}
use Rattle.report_lines.proofs.lines.is_head_line.Goals as goal

pub returns-in-None : goal.returns-in-None
returns-in-None c = (λ h. absurd (not_true h), λ e. absurd (c.in-None.ensures.none (codes "1") e))
