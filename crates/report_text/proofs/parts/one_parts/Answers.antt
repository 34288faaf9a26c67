use Rattle.report_text.proofs.PartsOne.{one_parts}
use Rattle.report_text.proofs.parts.one_parts.Goals as goal

pub returns : goal.returns
returns c = λ text a b r s h k. one_parts text a b r s h k
