use Rattle.merge_laws.proofs.Postulates.{keeps_to_under_more}
use Rattle.merge_laws.proofs.ic8.Goals as goal

pub returns : goal.returns
returns g c =
    let d = c.args.distance.now in
    let a = c.args.aggregator.now in
    keeps_to_under_more (g.D.Distance.dist d) (g.A.Aggregator.rank a)
