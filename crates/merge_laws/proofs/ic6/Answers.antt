use Rattle.std.proofs.Common.{arith}
use Rattle.merge_laws.proofs.Postulates.{keeps_to_agreement}
use Rattle.merge_laws.proofs.ic6.Goals as goal

pub returns : goal.returns
returns g c =
    let d = c.args.distance.now in
    let a = c.args.aggregator.now in
    keeps_to_agreement (g.D.Distance.dist d) (g.A.Aggregator.rank a)
    (λ v w same some few. omega (arith, g.met.D.Distance.within d v w same some few, g.met.D.Distance.bounded d _ some few))
    (λ u w s t. g.met.A.StrictAggregator.strict a u w s t)
