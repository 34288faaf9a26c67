use Rattle.std.proofs.Common.{◌≡◌, true, refl, ◌∙◌, sym, inl, inr}
use Rattle.report_lines.specs.Following.{after}
use Rattle.report_lines.specs.Holding.{holds}
use Rattle.report_lines.specs.Items.{NoModelLine, HasModelLine}
use Rattle.report_lines.specs.Judged.{faulty}
use Rattle.report_lines.specs.Places.{IsNamedLine}
use Rattle.report_text.specs.Answering.{position_of}
use Rattle.report_text.proofs.Unions.{taken}
use Rattle.report_text.proofs.answering.Answering.on_named.Goals as goal

pub returns-then-is_no_model_line-clause-judged : goal.returns-then-is_no_model_line-clause-judged
returns-then-is_no_model_line-clause-judged c =
    taken (IsNamedLine (position_of c.args.self.now) c.args.subject) (position_of c.args.self.now) c.args.line.now (NoModelLine c.args.subject) _ c.take_lack.result (λ q h e. (h, e)) (λ h. h)
    (inl refl) (c.is_no_model_line.ensures.yes c.if-is_no_model_line.true) c.take_lack.ensures.taken

pub returns-then-not-has_model-clause-judged : goal.returns-then-not-has_model-clause-judged
returns-then-not-has_model-clause-judged c =
    let model = c.in-Some.model in
    faulty (HasModelLine c.args.subject model) (inr (model, refl, c.in-Some.ensures.some.1 ∙ c.len.ensures.number)) c.in-Some.ensures.some.0 (sym c.has_model.ensures ∙ c.if-not-has_model.true) refl

pub returns-clause-judged : goal.returns-clause-judged
returns-clause-judged c =
    let model = c.in-Some.model in
    let held : holds (position_of c.args.self.now) (HasModelLine c.args.subject model) ≡ true = sym c.has_model.ensures ∙ c.if-not-has_model.false in
    (after (position_of c.args.self.now) (HasModelLine c.args.subject model), record { item = HasModelLine c.args.subject model; of = inr (model, refl, c.in-Some.ensures.some.1 ∙ c.len.ensures.number); words = c.in-Some.ensures.some.0; leads = (held, refl) }, sym c.name.ensures.place)
