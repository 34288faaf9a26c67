use Rattle.std.proofs.Common.{◌≡◌, ◌⊎◌}
use Rattle.report_lines.specs.declared.kinds.Subject.TheVariants.{TheConstraint}
use Rattle.report_lines.specs.Items.{GaveUpLine}
use Rattle.report_lines.specs.Places.{IsModelLine, IsNamedLine}
use Rattle.report_text.specs.Answering.{position_of}
use Rattle.report_text.proofs.FirstWords.{no_model, no_other}
use Rattle.report_text.proofs.Unions.{left, right}
use Rattle.report_text.proofs.answering.Answering.on_answer.Goals as goal

pub returns-then-begins_with-clause-judged : goal.returns-then-begins_with-clause-judged
returns-then-begins_with-clause-judged c =
    let p = position_of c.args.self.now in
    let begins = c.begins_with.ensures.yes c.if-begins_with.true in
    left (IsModelLine p) (λ x. IsNamedLine p TheConstraint x ⊎ (x ≡ GaveUpLine)) p c.args.line.now _ c.on_model.result (no_other p c.args.line.now begins.0 begins.1) c.on_model.ensures.judged

pub returns-else-begins_with-clause-judged : goal.returns-else-begins_with-clause-judged
returns-else-begins_with-clause-judged c =
    let p = position_of c.args.self.now in
    right (IsModelLine p) (λ x. IsNamedLine p TheConstraint x ⊎ (x ≡ GaveUpLine)) p c.args.line.now _ c.on_other.result (no_model p c.args.line.now (c.begins_with.ensures.no c.if-begins_with.false)) c.on_other.ensures.judged
