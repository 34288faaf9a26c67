use Rattle.distance_search.specs.Setting.{setting_of}
use Rattle.closest_listing.proofs.ListLaws.{closest_has, list_end, list_spent}
use Rattle.closest_listing.proofs.searching.list_from.Goals.{in-Ok, in-Err-GaveUp}
use Rattle.closest_listing.proofs.searching.list_from.Goals as goal

pub returns-clause-outcome : goal.returns-clause-outcome
returns-clause-outcome g c =
    let e = c.new-listing.ensures in
    let q = c.args.search.subject in
    let s = setting_of (g.D.Distance.dist q.distance) (g.D.Distance.most q.distance) (g.D.Counted.due q.distance) (g.A.Aggregator.rank q.aggregator) (g.A.Levelled.levels_of q.aggregator) (g.A.Levelled.levels_due q.aggregator) q.problem in
    let parts = c.into_parts-problem.ensures in
    let answer = rw (e.subject, e.place) at c.list_next.ensures.answer in
    let over = rw (c.list_next.ensures.subject, e.subject) at parts.over in
    record {
      over = rw parts.log over;
      follows = rw parts.log parts.sound;
      end = rw parts.log (elim c.match-list_next.branch [
        | in-Ok w ↦ list_end s _ c.list_next.new.listing.engine.log c.args.search.subject.budget c.args.after c.args.count c.list_next.result answer (closest_has s c.args.best.shown.model c.requires.best.closest) w.in-Ok.list c.match-list_next.end w.in-Ok.is w.end-is
        | in-Err-GaveUp w ↦ list_spent s _ c.list_next.new.listing.engine.log c.args.search.subject.budget c.args.after c.args.count c.list_next.result answer w.in-Err-GaveUp.field-0 w.in-Err-GaveUp.field-0-0 c.match-list_next.end w.in-Err-GaveUp.is w.in-Err-GaveUp.field-0-is w.end-is
      ]);
    }
