use Rattle.distance_search.specs.Setting.{setting_of}
use Rattle.closest_listing.proofs.ListLaws.{lacking_end, spent_end}
use Rattle.closest_listing.proofs.searching.list_in.Goals as goal

pub returns-in-Ok-Best-clause-outcome : goal.returns-in-Ok-Best-clause-outcome
returns-in-Ok-Best-clause-outcome g c = rw c.prospect_of.ensures.subject at c.list_from.ensures.outcome

pub returns-in-Ok-Lacking-clause-outcome : goal.returns-in-Ok-Lacking-clause-outcome
returns-in-Ok-Lacking-clause-outcome g c =
    let q = c.args.search.subject in
    let s = setting_of (g.D.Distance.dist q.distance) (g.D.Distance.most q.distance) (g.D.Counted.due q.distance) (g.A.Aggregator.rank q.aggregator) (g.A.Levelled.levels_of q.aggregator) (g.A.Levelled.levels_due q.aggregator) q.problem in
    let e = c.ended.ensures in
    let over = rw c.prospect_of.ensures.subject at e.over in
    record {
      over = rw e.log over;
      follows = rw e.log e.follows;
      end = rw (e.end, e.log) (lacking_end s c.prospect_of.new.search.engine.log c.args.search.subject.budget c.args.after c.args.count c.prospect_of.result c.prospect_of.ensures.answer c.in-Ok-Lacking.field-0 c.in-Ok-Lacking.consistency c.in-Ok-Lacking.is c.in-Ok-Lacking.field-0-is);
    }

pub returns-in-Err-GaveUp-clause-outcome : goal.returns-in-Err-GaveUp-clause-outcome
returns-in-Err-GaveUp-clause-outcome g c =
    let q = c.args.search.subject in
    let s = setting_of (g.D.Distance.dist q.distance) (g.D.Distance.most q.distance) (g.D.Counted.due q.distance) (g.A.Aggregator.rank q.aggregator) (g.A.Levelled.levels_of q.aggregator) (g.A.Levelled.levels_due q.aggregator) q.problem in
    let e = c.ended-in-Err-GaveUp.ensures in
    let over = rw c.prospect_of.ensures.subject at e.over in
    record {
      over = rw e.log over;
      follows = rw e.log e.follows;
      end = rw (e.end, e.log) (spent_end s c.prospect_of.new.search.engine.log c.args.search.subject.budget c.args.after c.args.count c.prospect_of.result c.prospect_of.ensures.answer c.in-Err-GaveUp.field-0 c.in-Err-GaveUp.field-0-0 c.in-Err-GaveUp.is c.in-Err-GaveUp.field-0-is);
    }
