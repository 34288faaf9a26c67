use Rattle.merge_model.specs.Answers.{profile_of}
use Rattle.merge_encoding.specs.MainDues.{due_for}
use Rattle.merge_encoding.proofs.Limits.{is_limited}
use Rattle.merge_encoding.proofs.OneAssignment.{main_is}
use Rattle.merge_encoding.proofs.FrameLaws.{frame_over, frame_distinct}
use Rattle.merge_encoding.proofs.Encoded.{over_made, distinct_made}
use Rattle.merge_encoding.proofs.encoding.encode.Goals as goal

pub returns-clause-over : goal.returns-clause-over
returns-clause-over g c =
    let p = c.args.problem.now in
    over_made (due_for (g.D.Counted.due c.args.distance.now) (g.A.Levelled.levels_due c.args.aggregator.now) p) c.encoded.result c.encoded.ensures.frame c.encoded.ensures.vars
    (frame_over (g.D.Distance.dist c.args.distance.now) (g.D.Distance.most c.args.distance.now) (g.D.Counted.due c.args.distance.now) (g.A.Levelled.levels_of c.args.aggregator.now) (g.A.Levelled.levels_due c.args.aggregator.now)
    (record { counts = g.met.D.Counted.counts c.args.distance.now; levels = g.met.A.Levelled.are_levels c.args.aggregator.now; bounded = g.met.D.Distance.bounded c.args.distance.now }) (profile_of p) p.asks (is_limited p))

pub returns-clause-distinct : goal.returns-clause-distinct
returns-clause-distinct g c =
    let p = c.args.problem.now in
    distinct_made (due_for (g.D.Counted.due c.args.distance.now) (g.A.Levelled.levels_due c.args.aggregator.now) p) c.encoded.result c.encoded.ensures.frame
    (frame_distinct (g.D.Distance.dist c.args.distance.now) (g.D.Distance.most c.args.distance.now) (g.D.Counted.due c.args.distance.now) (g.A.Levelled.levels_of c.args.aggregator.now) (g.A.Levelled.levels_due c.args.aggregator.now)
    (record { counts = g.met.D.Counted.counts c.args.distance.now; levels = g.met.A.Levelled.are_levels c.args.aggregator.now; bounded = g.met.D.Distance.bounded c.args.distance.now }) (profile_of p) p.asks (is_limited p))

pub returns-clause-means : goal.returns-clause-means
returns-clause-means g c =
    let p = c.args.problem.now in
    main_is (g.D.Distance.dist c.args.distance.now) (g.D.Distance.most c.args.distance.now) (g.D.Counted.due c.args.distance.now) (g.A.Levelled.levels_of c.args.aggregator.now) (g.A.Levelled.levels_due c.args.aggregator.now)
    (record { counts = g.met.D.Counted.counts c.args.distance.now; levels = g.met.A.Levelled.are_levels c.args.aggregator.now; bounded = g.met.D.Distance.bounded c.args.distance.now }) (profile_of p) p.asks (is_limited p)
