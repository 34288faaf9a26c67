use Rattle.merge_reports.proofs.outcome.search_by.Goals as goal

pub returns-clause-outcome : goal.returns-clause-outcome
returns-clause-outcome g c =
    let e = c.in_ok-search.ensures in
    rw (e.distance, e.aggregator, e.budget) at c.outcome_of.ensures.outcome
