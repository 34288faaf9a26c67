use Rattle.merge_reports.proofs.Verdicts.{merge_found}
use Rattle.merge_reports.proofs.judging.judged.Goals as goal

pub returns-clause-answer : goal.returns-clause-answer
returns-clause-answer g c =
    let e = c.in_ok-verdicts.ensures in
    merge_found _ c.args.search.now.engine.log c.judge_all.new.search.engine.log c.args.best.now c.in_ok-proofs.proofs.items c.judge_all.new.proofs.items c.in_ok-verdicts.verdicts.items c.requires e.longer c.in_ok-proofs.ensures e.answer
