use Rattle.std.proofs.Common.{◌≡◌, Bool, true, false, refl, ap, ◌∙◌}
use Rattle.report_words.specs.Words.{words_of}
use Rattle.report_lines.specs.declared.kinds.Due.TheVariants as due
use Rattle.report_lines.specs.Following.{after}
use Rattle.report_lines.specs.Items.{VerdictLine, item_words}
use Rattle.report_lines.specs.Places.{DueAt}
use Rattle.report_text.specs.Answering.{position_of}
use Rattle.report_text.proofs.Unions.{taken}
use Rattle.report_text.proofs.answering.Answering.on_verdict.Goals as goal

pub returns-then-given-clause-judged : goal.returns-then-given-clause-judged
returns-then-given-clause-judged c =
    let p = position_of c.args.self.now in
    let q = c.args.self.now.verdicts in
    let words : words_of c.args.line.now ≡ item_words (VerdictLine q true) = c.in-Some.ensures.some ∙ ap (λ (b : Bool). item_words (VerdictLine q b)) c.if-given.true in
    taken (DueAt due.Verdict p) p c.args.line.now (VerdictLine q true) _ c.take_yes.result (λ r h e. (h, e)) (λ h. h) (true, refl) words c.take_yes.ensures.taken

pub returns-clause-judged : goal.returns-clause-judged
returns-clause-judged c =
    let p = position_of c.args.self.now in
    let q = c.args.self.now.verdicts in
    let words : words_of c.args.line.now ≡ item_words (VerdictLine q false) = c.in-Some.ensures.some ∙ ap (λ (b : Bool). item_words (VerdictLine q b)) c.if-given.false in
    (after p (VerdictLine q false), record { item = VerdictLine q false; of = (false, refl); words = words; leads = (refl, refl) }, refl)
