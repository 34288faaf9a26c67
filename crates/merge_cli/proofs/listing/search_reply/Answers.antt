use Rattle.merge_cli.specs.Commands.{usual_conflicts}
use Rattle.merge_cli.proofs.Problems.{merge_answered}
use Rattle.merge_cli.proofs.listing.search_reply.Goals as goal

pub returns-clause-status : goal.returns-clause-status
returns-clause-status c = rw c.in_ok-report.ensures.said at c.report_reply.ensures.status

pub returns-clause-answers : goal.returns-clause-answers
returns-clause-answers c =
    let is = c.in_ok-report.ensures in
    merge_answered c.args.distance c.args.aggregator usual_conflicts c.args.outcome.problem c.in_ok-report.report c.report_reply.result is.distance is.aggregator is.conflicts is.problem is.form is.answer is.truth is.trimmed c.report_reply.ensures.status c.report_reply.ensures.text
