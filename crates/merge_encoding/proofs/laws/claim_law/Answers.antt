use Rattle.merge_encoding.proofs.OneAssignment.{main_is}
use Rattle.merge_encoding.proofs.Claiming.{breaks_of, claim_to, claim_from}
use Rattle.merge_encoding.proofs.laws.claim_law.Goals as goal

pub returns-clause-exact : goal.returns-clause-exact
returns-clause-exact g c = λ p asks claim lim proper.
    let main = main_is (g.D.Distance.dist c.args.distance.now) (g.D.Distance.most c.args.distance.now) (g.D.Counted.due c.args.distance.now) (g.A.Levelled.levels_of c.args.aggregator.now) (g.A.Levelled.levels_due c.args.aggregator.now)
    (record { counts = g.met.D.Counted.counts c.args.distance.now; levels = g.met.A.Levelled.are_levels c.args.aggregator.now; bounded = g.met.D.Distance.bounded c.args.distance.now }) p asks lim in
    (claim_to _ _ _ p asks _ main claim proper, claim_from _ _ _ p asks _ main claim proper)

pub returns-clause-broken : goal.returns-clause-broken
returns-clause-broken g c = λ p asks claim b lim proper r a.
    breaks_of _ _ _ p asks _ (main_is (g.D.Distance.dist c.args.distance.now) (g.D.Distance.most c.args.distance.now) (g.D.Counted.due c.args.distance.now) (g.A.Levelled.levels_of c.args.aggregator.now) (g.A.Levelled.levels_due c.args.aggregator.now)
    (record { counts = g.met.D.Counted.counts c.args.distance.now; levels = g.met.A.Levelled.are_levels c.args.aggregator.now; bounded = g.met.D.Distance.bounded c.args.distance.now }) p asks lim) b r claim proper a
