use Rattle.merge_reports.proofs.judging.merged.Goals as goal

pub judged-requires : goal.judged-requires
judged-requires g c =
    let e = c.in_ok-best.ensures in
    rw e.subject e.answer

pub returns-clause-answer : goal.returns-clause-answer
returns-clause-answer g c =
    rw c.merge_of.ensures (rw c.in_ok-best.ensures.subject at c.in_ok-verdicts.ensures.answer)
