use Rattle.report_lines.proofs.NeverBoth.{never}
use Rattle.report_lines.proofs.Once.{once}
use Rattle.report_laws.proofs.EachReport.{has_verdict, one_kind}
use Rattle.report_laws.proofs.verdicts.each_report_has_one_verdict.Goals as goal

pub returns-clause-has_verdict : goal.returns-clause-has_verdict
returns-clause-has_verdict c = has_verdict c.args.bytes.now

pub returns-clause-one_kind : goal.returns-clause-one_kind
returns-clause-one_kind c = one_kind c.args.bytes.now

pub returns-clause-one_line : goal.returns-clause-one_line
returns-clause-one_line c = once c.args.bytes.now

pub returns-clause-never_both : goal.returns-clause-never_both
returns-clause-never_both c = never c.args.bytes.now
