use Rattle.std.proofs.Common.{arith}
use Rattle.merge_laws.proofs.Postulates.{ignores_wording}
use Rattle.merge_laws.proofs.ic3.Goals as goal

pub returns : goal.returns
returns g c =
    let d = c.args.distance.now in
    let a = c.args.aggregator.now in
    ignores_wording (g.D.Distance.dist d) (g.A.Aggregator.rank a)
    (λ v w same some few. omega (arith, g.met.D.Distance.within d v w same some few, g.met.D.Distance.bounded d _ some few))
    (λ u w. g.met.A.Aggregator.unordered a u w)
