use Rattle.std.proofs.Common.{arith}
use Rattle.merge_laws.proofs.Postulates.{keeps_agreement}
use Rattle.merge_laws.proofs.ic5.Goals as goal

pub returns : goal.returns
returns g c =
    let d = c.args.distance.now in
    let a = c.args.aggregator.now in
    keeps_agreement (g.D.Distance.dist d) (g.A.Aggregator.rank a)
    (λ v w same some few. omega (arith, g.met.D.Distance.within d v w same some few, g.met.D.Distance.bounded d _ some few))
    (λ u w s t. g.met.A.Aggregator.joined a u w s t)
