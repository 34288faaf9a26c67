use Rattle.std.proofs.Common.{arith}
use Rattle.merge_laws.proofs.Postulates.{is_fair}
use Rattle.merge_laws.proofs.ic4.Goals as goal

pub returns : goal.returns
returns g c =
    let d = c.args.distance.now in
    let a = c.args.aggregator.now in
    is_fair (g.D.Distance.dist d) (g.A.Aggregator.rank a)
    (λ v w same some few. omega (arith, g.met.D.Distance.within d v w same some few, g.met.D.Distance.bounded d _ some few))
    (λ v. g.met.D.Distance.same d v)
    (λ v w. g.met.D.Distance.symmetric d v w)
    (λ u w. g.met.A.Aggregator.unordered a u w)
    (λ u w. g.met.A.Aggregator.monotone a u w)
