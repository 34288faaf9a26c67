use Rattle.std.proofs.Common.{rules, ◌≡◌, ◌≢◌, [], ◌∷◌, refl, codes, inr}
use Rattle.report_words.specs.Words.{words_of}
use Rattle.report_lines.specs.declared.kinds.Subject.TheVariants.{TheConstraint}
use Rattle.report_lines.specs.Following.{after}
use Rattle.report_lines.specs.Items.{GaveUpLine}
use Rattle.report_lines.specs.Places.{IsNamedLine}
use Rattle.report_text.specs.Answering.{position_of}
use Rattle.report_text.proofs.FirstWords.{not_gave_up}
use Rattle.report_text.proofs.Unions.{left}
use Rattle.report_text.proofs.answering.Answering.on_other.Goals as goal

pub returns-then-is_gave_up_line-clause-judged : goal.returns-then-is_gave_up_line-clause-judged
returns-then-is_gave_up_line-clause-judged c =
    let words : words_of c.args.line.now ≡ codes "gave-up" ∷ [] = search rules in
    (after (position_of c.args.self.now) GaveUpLine, record { item = GaveUpLine; of = inr refl; words = words; leads = (refl, refl) }, refl)

pub returns-clause-judged : goal.returns-clause-judged
returns-clause-judged c =
    let none : words_of c.args.line.now ≢ codes "gave-up" ∷ [] = search rules in
    left (IsNamedLine (position_of c.args.self.now) TheConstraint) (λ x. x ≡ GaveUpLine) (position_of c.args.self.now) c.args.line.now _ c.on_named.result (not_gave_up c.args.line.now none) c.on_named.ensures.judged
