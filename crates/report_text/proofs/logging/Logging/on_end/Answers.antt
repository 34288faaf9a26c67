use Rattle.std.proofs.Common.{rules, refl, sym, ◌∙◌}
use Rattle.report_lines.specs.Items.{EndLine}
use Rattle.report_lines.specs.Places.{end_number}
use Rattle.report_lines.specs.Following.{after}
use Rattle.report_lines.specs.Judged.{faulty}
use Rattle.report_text.proofs.LoggingFacts.{due_end, after_end, none_left}
use Rattle.report_text.proofs.logging.Logging.on_end.Goals as goal

pub returns-then-not-branch : goal.returns-then-not-branch
returns-then-not-branch c = λ p h.
    let s = c.args.self.now in
    let none = none_left s.claims.items s.next c.requires.none in
    faulty (EndLine (end_number s.kind)) (due_end s p h none) (search rules) (sym (c.in_ok-may_end.ensures p h) ∙ c.if-not-branch.true) refl

pub returns : goal.returns
returns c = λ p h.
    let s = c.args.self.now in
    let none = none_left s.claims.items s.next c.requires.none in (
      after p (EndLine (end_number s.kind)),
      record {
        item = EndLine (end_number s.kind);
        of = due_end s p h none;
        words = search rules;
        leads = (sym (c.in_ok-may_end.ensures p h) ∙ c.if-not-branch.false, refl);
      },
      after_end s p h (end_number s.kind),
    )
