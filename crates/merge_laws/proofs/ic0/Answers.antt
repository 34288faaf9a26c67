use Rattle.merge_laws.proofs.Postulates.{keeps_the_constraint}
use Rattle.merge_laws.proofs.ic0.Goals as goal

pub returns : goal.returns
returns g c =
    let d = c.args.distance.now in
    let a = c.args.aggregator.now in
    keeps_the_constraint (g.D.Distance.dist d) (g.A.Aggregator.rank a)
