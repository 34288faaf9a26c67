use Rattle.std.proofs.Common.{◌∙◌}
use Rattle.report_lines.specs.Operators.{operator_named}
use Rattle.merge_reports.proofs.Leaving.{outcome_sound, outcome_steps, outcome_left, report_trimmed}
use Rattle.merge_reports.proofs.reporting.trimmed_report.Goals as goal

pub trimmed-requires-clause-sound : goal.trimmed-requires-clause-sound
trimmed-requires-clause-sound c =
    let o = c.args.outcome in
    outcome_sound (operator_named c.args.distance c.args.aggregator o.problem.atoms) c.args.conflicts o.problem o.derivations o.found.answer o.found.proofs.items c.requires.outcome

pub trimmed-requires-clause-proofs : goal.trimmed-requires-clause-proofs
trimmed-requires-clause-proofs c =
    let o = c.args.outcome in
    outcome_steps (operator_named c.args.distance c.args.aggregator o.problem.atoms) c.args.conflicts o.problem o.derivations o.found.answer o.found.proofs.items c.requires.outcome

pub report_of-requires-clause-outcome : goal.report_of-requires-clause-outcome
report_of-requires-clause-outcome c =
    let o = c.args.outcome in
    let l = c.in_ok-left.left in
    let e = c.in_ok-left.ensures in
    let left = outcome_left (operator_named c.args.distance c.args.aggregator o.problem.atoms) c.args.conflicts o.problem o.derivations l.derivations o.found.proofs.items l.found.proofs.items o.found.answer e.log c.requires.outcome in
    rw (e.problem, e.answer) left

pub returns-clause-trimmed : goal.returns-clause-trimmed
returns-clause-trimmed c =
    let o = c.args.outcome in
    let l = c.in_ok-left.left in
    let e = c.in_ok-left.ensures in
    let r = c.report_of.ensures in
    let op = operator_named c.args.distance c.args.aggregator o.problem.atoms in
    report_trimmed c.report_of.result o.found.answer o.derivations l.derivations o.found.proofs.items l.found.proofs.items r.whole (r.said ∙ e.answer) r.log r.proofs e.log
    (outcome_sound op c.args.conflicts o.problem o.derivations o.found.answer o.found.proofs.items c.requires.outcome)
    (outcome_steps op c.args.conflicts o.problem o.derivations o.found.answer o.found.proofs.items c.requires.outcome)
