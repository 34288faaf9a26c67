use Rattle.report_lines.specs.declared.report.Report.{Report}
use Rattle.merge_reports.proofs.Whole.{IsEndOf, report_whole, report_form, report_borne, report_true}
use Rattle.merge_reports.proofs.reporting.report_of.Goals as goal

abbrev report_of : goal.After-from_vec → Report
report_of c = record {
  distance = c.args.distance;
  aggregator = c.args.aggregator;
  conflicts = c.args.conflicts;
  problem = c.args.outcome.problem;
  answer = c.args.outcome.found.answer;
  derivations = c.args.outcome.derivations;
  proofs = c.from_vec.result;
}

ended : (c : goal.After-from_vec) → IsEndOf (report_of c)
ended c = rw c.from_vec.ensures c.requires.outcome

pub returns-clause-whole : goal.returns-clause-whole
returns-clause-whole c = report_whole (report_of c) (ended c)

pub returns-clause-form : goal.returns-clause-form
returns-clause-form c = report_form (report_of c) (ended c) c.requires.some c.requires.few

pub returns-clause-answer : goal.returns-clause-answer
returns-clause-answer c = report_borne (report_of c) (ended c)

pub returns-clause-truth : goal.returns-clause-truth
returns-clause-truth c = report_true (report_of c) (ended c)
