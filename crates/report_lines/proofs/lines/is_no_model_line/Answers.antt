use Rattle.std.proofs.Common.{rules, ◌≡◌, ◌∷◌, codes}
use Rattle.report_words.specs.Words.{words_of}
use Rattle.report_lines.proofs.LineFacts.{not_rest}
use Rattle.report_lines.proofs.lines.is_no_model_line.Goals as goal

pub returns-then-not-takes_subject-clause-no : goal.returns-then-not-takes_subject-clause-no
returns-then-not-takes_subject-clause-no c = λ _ e.
    let w : words_of c.args.line.now ≡ codes "no-model" ∷ c.takes.new.words = search rules in
    not_rest _ _ c.takes.new.words _ w (c.takes_subject.ensures.no c.if-not-takes_subject.true) e
