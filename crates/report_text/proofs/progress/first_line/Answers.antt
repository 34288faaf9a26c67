use Rattle.std.proofs.Common.{◌≡◌, take, subst, arith}
use Rattle.std.proofs.lemmas.Grind.{common_steps}
use Rattle.report_text.specs.Accepting.{HasNoFeed}
use Rattle.report_text.proofs.OpenFeeds.{one_more}
use Rattle.report_text.proofs.progress.first_line.Goals as goal

pub loop-at-preserved : goal.loop-at-preserved
loop-at-preserved c = one_more c.args.text.now c.loop-at.at _ c.loop-at-test.true c.loop-at.invariant (λ e. c.if-byte-eq10.false e)

pub returns : goal.returns
returns c =
    let e : take c.loop-at.at c.args.text.now ≡ c.args.text.now = grind (arith, common_steps) in
    subst HasNoFeed e c.loop-at.invariant
