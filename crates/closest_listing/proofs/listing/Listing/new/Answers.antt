use Rattle.std.proofs.Common.{sym, ap, ◌∙◌, subst, length}
use Rattle.distance_search.specs.declared.subject.Subject.{Subject}
use Rattle.distance_search.specs.Setting.{setting_of}
use Rattle.distance_search.specs.Results.{IsBestFor}
use Rattle.closest_listing.proofs.listing.Listing.new.Goals as goal

pub invariant_of-result : goal.invariant_of-result
invariant_of-result g c =
    let e = c.into_questions-subject.ensures in
    record {
      over = e.main;
      known = subst (λ (q : Subject g.row.D.Denot g.row.A.Denot g.D.Counted g.D.Distance g.A.Levelled g.A.Aggregator). ∥ IsBestFor (setting_of (g.D.Distance.dist q.distance) (g.D.Distance.most q.distance) (g.D.Counted.due q.distance) (g.A.Aggregator.rank q.aggregator) (g.A.Levelled.levels_of q.aggregator) (g.A.Levelled.levels_due q.aggregator) q.problem) c.args.best ∥₁) (sym e.subject) ∣ c.requires.best ∣₁;
      sized = λ x is. c.requires.after x is ∙ ap (λ (q : Subject g.row.D.Denot g.row.A.Denot g.D.Counted g.D.Distance g.A.Levelled g.A.Aggregator). length q.problem.atoms) (sym e.subject);
    }
