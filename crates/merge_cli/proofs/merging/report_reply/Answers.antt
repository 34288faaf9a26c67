use Rattle.std.proofs.Common.{ap, ◌∙◌, ◌++◌, ℕ, List}
use Rattle.report_lines.specs.Parts.{report_text}
use Rattle.report_lines.specs.Reports.{asked_in, parts_in}
use Rattle.merge_cli.proofs.merging.report_reply.Goals as goal

pub returns-clause-text : goal.returns-clause-text
returns-clause-text c =
    let whole = report_text (asked_in c.args.report.now) (parts_in c.args.report.now) in
    c.in_ok-write_report.ensures ∙ ap (λ (text : List ℕ). text ++ whole) c.new-text.ensures.items
