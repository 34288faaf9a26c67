use Rattle.merge_encoding.proofs.OneAssignment.{main_is}
use Rattle.merge_encoding.proofs.FrameLaws.{frame_over, frame_distinct}
use Rattle.merge_encoding.proofs.laws.frame_law.Goals as goal

pub returns-clause-means : goal.returns-clause-means
returns-clause-means g c = λ p asks lim. main_is (g.D.Distance.dist c.args.distance.now) (g.D.Distance.most c.args.distance.now) (g.D.Counted.due c.args.distance.now) (g.A.Levelled.levels_of c.args.aggregator.now) (g.A.Levelled.levels_due c.args.aggregator.now)
    (record { counts = g.met.D.Counted.counts c.args.distance.now; levels = g.met.A.Levelled.are_levels c.args.aggregator.now; bounded = g.met.D.Distance.bounded c.args.distance.now }) p asks lim

pub returns-clause-over : goal.returns-clause-over
returns-clause-over g c = λ p asks lim. frame_over (g.D.Distance.dist c.args.distance.now) (g.D.Distance.most c.args.distance.now) (g.D.Counted.due c.args.distance.now) (g.A.Levelled.levels_of c.args.aggregator.now) (g.A.Levelled.levels_due c.args.aggregator.now)
    (record { counts = g.met.D.Counted.counts c.args.distance.now; levels = g.met.A.Levelled.are_levels c.args.aggregator.now; bounded = g.met.D.Distance.bounded c.args.distance.now }) p asks lim

pub returns-clause-distinct : goal.returns-clause-distinct
returns-clause-distinct g c = λ p asks lim. frame_distinct (g.D.Distance.dist c.args.distance.now) (g.D.Distance.most c.args.distance.now) (g.D.Counted.due c.args.distance.now) (g.A.Levelled.levels_of c.args.aggregator.now) (g.A.Levelled.levels_due c.args.aggregator.now)
    (record { counts = g.met.D.Counted.counts c.args.distance.now; levels = g.met.A.Levelled.are_levels c.args.aggregator.now; bounded = g.met.D.Distance.bounded c.args.distance.now }) p asks lim
