use Rattle.std.proofs.Common.{◌≡◌, true, refl, ◌∙◌, sym}
use Rattle.report_lines.specs.Following.{after}
use Rattle.report_lines.specs.Holding.{holds}
use Rattle.report_lines.specs.Items.{ModelLine}
use Rattle.report_lines.specs.Judged.{faulty}
use Rattle.report_text.specs.Answering.{position_of}
use Rattle.report_text.proofs.answering.Answering.on_model.Goals as goal

pub returns-then-not-may_show-clause-judged : goal.returns-then-not-may_show-clause-judged
returns-then-not-may_show-clause-judged c =
    let model = c.in-Some.model in
    faulty (ModelLine model) (model, refl, c.in-Some.ensures.some.1 ∙ c.len.ensures.number) c.in-Some.ensures.some.0 (sym c.may_show.ensures ∙ c.if-not-may_show.true) refl

pub returns-clause-judged : goal.returns-clause-judged
returns-clause-judged c =
    let model = c.in-Some.model in
    let held : holds (position_of c.args.self.now) (ModelLine model) ≡ true = sym c.may_show.ensures ∙ c.if-not-may_show.false in
    (after (position_of c.args.self.now) (ModelLine model), record { item = ModelLine model; of = (model, refl, c.in-Some.ensures.some.1 ∙ c.len.ensures.number); words = c.in-Some.ensures.some.0; leads = (held, refl) }, refl)
