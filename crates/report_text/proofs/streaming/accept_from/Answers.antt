use Rattle.report_text.proofs.StreamingFacts.{told_accepted, told_refused}
use Rattle.report_text.proofs.streaming.accept_from.Goals as goal

pub returns-clause-accepted : goal.returns-clause-accepted
returns-clause-accepted g c = λ all told. told_accepted all _ _ _ _ told c.judge_from.result c.judge_from.ensures.judged

pub returns-clause-refused : goal.returns-clause-refused
returns-clause-refused g c = λ all told. told_refused all _ _ _ _ told c.judge_from.result c.judge_from.ensures.judged
