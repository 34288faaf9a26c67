use Rattle.line_tokens.proofs.Words.{both_arrow_first}
use Rattle.line_tokens.proofs.cut.mark_at.Goals as goal

pub returns-in-60 : goal.returns-in-60
returns-in-60 c = both_arrow_first c.args.text.now c.if-starts_with-2.ensures.value
