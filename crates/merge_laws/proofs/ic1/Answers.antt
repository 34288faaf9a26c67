use Rattle.merge_laws.proofs.Postulates.{has_a_member}
use Rattle.merge_laws.proofs.ic1.Goals as goal

pub returns : goal.returns
returns g c =
    let d = c.args.distance.now in
    let a = c.args.aggregator.now in
    has_a_member (g.D.Distance.dist d) (g.A.Aggregator.rank a)
