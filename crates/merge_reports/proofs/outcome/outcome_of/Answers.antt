use Rattle.std.proofs.Common.{◌≡◌}
use Rattle.distance_search.specs.SettingLaws.{laws_of}
use Rattle.report_lines.specs.Accepted.{operator}
use Rattle.merge_reports.proofs.Ends
use Rattle.merge_reports.proofs.outcome.outcome_of.Goals as goal

pub returns-clause-outcome : goal.returns-clause-outcome
returns-clause-outcome g c =
    let s = c.args.search.subject in
    let d = s.distance in
    let a = s.aggregator in
    let f = c.find_end-found.ensures in
    let parts = c.into_parts-problem.ensures in
    let over = rw f.subject at parts.over in
    let same : c.into_parts-problem.result.0 ≡ s.problem = rw f.subject at parts.problem in
    Ends.outcome_of (operator (g.D.Distance.dist d) (g.D.Distance.most d) (g.D.Counted.due d) (g.A.Aggregator.rank a) (g.A.Levelled.levels_of a) (g.A.Levelled.levels_due a))
    (λ p. laws_of (g.D.Distance.dist d) (g.D.Distance.most d) (g.D.Counted.due d) (g.A.Aggregator.rank a) (g.A.Levelled.levels_of a) (g.A.Levelled.levels_due a)
    (g.met.D.Counted.counts d) (g.met.A.Levelled.are_levels a) (g.met.D.Distance.bounded d) (g.met.D.Distance.within d) (g.met.A.Aggregator.monotone a) (g.met.A.Levelled.in_order a) p)
    s.budget s.problem c.into_parts-problem.result.0 c.find_end-found.new.search.engine.log c.into_parts-problem.result.1 c.in_ok-found.field-0.answer c.in_ok-found.field-0.proofs.items
    same parts.log over parts.sound c.is_small.ensures c.in_ok-found.ensures.end
