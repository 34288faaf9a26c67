use Rattle.std.proofs.Common.{rules, ◌≡◌, ◌∷◌, List, ℕ, Some, ap, ◌∙◌, length}
use Rattle.report_words.specs.Numbers.{number_at}
use Rattle.report_words.specs.Words.{words_of}
use Rattle.report_lines.specs.LineReading.{each_at}
use Rattle.report_lines.proofs.LineFacts.{numbers_found, no_numbers, same_numbers}
use Rattle.report_lines.proofs.rows.numbers_line.Goals as goal

pub returns-in_default : goal.returns-in_default
returns-in_default c = λ ns n h e.
    let w : words_of c.args.line.now ≡ c.args.first.now ∷ c.takes.new.words = search rules in
    no_numbers _ _ c.takes.new.words w (search rules) ns h e

pub returns-then-len-count : goal.returns-then-len-count
returns-then-len-count c = λ ns n h e.
    let w : words_of c.args.line.now ≡ c.args.first.now ∷ c.takes.new.words = search rules in
    let s : each_at number_at c.takes.new.words ≡ Some c.in-Some.all.items = search rules in
    let same : c.in-Some.all.items ≡ ns = same_numbers _ _ c.takes.new.words c.in-Some.all.items w s ns h e in
    let len : length c.in-Some.all.items ≡ length ns = ap length same in
    absurd (c.if-len-count.true (search rules))

pub returns : goal.returns
returns c =
    let w : words_of c.args.line.now ≡ c.args.first.now ∷ c.takes.new.words = search rules in
    let s : each_at number_at c.takes.new.words ≡ Some c.in-Some.all.items = search rules in
    let f = numbers_found c.takes.new.words c.in-Some.all.items s in
    (w ∙ ap (λ (x : List (List ℕ)). c.args.first.now ∷ x) f.0, search rules, f.1)
