use Rattle.distance_search.specs.SettingLaws.{laws_of}
use Rattle.closest_listing.proofs.searching.list_by.Goals as goal

pub returns-in_err-search-clause-laws : goal.returns-in_err-search-clause-laws
returns-in_err-search-clause-laws g c =
    let d = c.args.distance in
    let a = c.args.aggregator in
    laws_of (g.D.Distance.dist d) (g.D.Distance.most d) (g.D.Counted.due d) (g.A.Aggregator.rank a) (g.A.Levelled.levels_of a) (g.A.Levelled.levels_due a)
    (g.met.D.Counted.counts d) (g.met.A.Levelled.are_levels a) (g.met.D.Distance.bounded d) (g.met.D.Distance.within d) (g.met.A.Aggregator.monotone a) (g.met.A.Levelled.in_order a) c.args.problem

pub returns-clause-laws : goal.returns-clause-laws
returns-clause-laws g c =
    let d = c.args.distance in
    let a = c.args.aggregator in
    laws_of (g.D.Distance.dist d) (g.D.Distance.most d) (g.D.Counted.due d) (g.A.Aggregator.rank a) (g.A.Levelled.levels_of a) (g.A.Levelled.levels_due a)
    (g.met.D.Counted.counts d) (g.met.A.Levelled.are_levels a) (g.met.D.Distance.bounded d) (g.met.D.Distance.within d) (g.met.A.Aggregator.monotone a) (g.met.A.Levelled.in_order a) c.args.problem

pub returns-clause-outcome : goal.returns-clause-outcome
returns-clause-outcome g c =
    let e = c.in_ok-search.ensures in
    rw (e.distance, e.aggregator, e.problem, e.budget) at c.list_in.ensures.outcome
