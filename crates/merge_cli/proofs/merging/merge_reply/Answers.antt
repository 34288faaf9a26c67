use Rattle.merge_cli.proofs.Problems.{merge_answered}
use Rattle.merge_cli.proofs.merging.merge_reply.Goals as goal

pub returns : goal.returns
returns c =
    let report = c.in_ok-report.report in
    let is = c.in_ok-report.ensures in
    merge_answered _ _ _ c.args.problem report c.report_reply.result is.distance is.aggregator is.conflicts is.problem is.form is.answer is.truth is.trimmed c.report_reply.ensures.status c.report_reply.ensures.text
