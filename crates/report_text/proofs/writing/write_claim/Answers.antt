use Rattle.std.proofs.Common.{◌≡◌, ◌∷◌, ◌++◌, List, ℕ, map, decimal, get_or, rules, refl, subst, ap, ◌∙◌, append_assoc}
use Rattle.report_words.specs.Words.{later_text}
use Rattle.report_words.specs.Writing.{GrowsWithin}
use Rattle.report_words.proofs.Growth.{part_of_first, part_of_rest, part_of_words, all_words_written, stopped}
use Rattle.report_text.proofs.writing.write_claim.Goals as goal

pub returns-in_err-write_word : goal.returns-in_err-write_word
returns-in_err-write_word c = stopped _ _ _ _ c.from_residual.ensures.0 (part_of_first _ _ (32 ∷ c.args.word.now) _ c.in_err-write_word.ensures)

pub returns-in_err-write_word-2 : goal.returns-in_err-write_word-2
returns-in_err-write_word-2 c =
    let word : c.as_bytes.result.now ≡ decimal (get_or c.args.numbers.now c.loop-number.number-index 0) = search rules in
    let P : List ℕ → Type 0 = λ w. GrowsWithin c.loop-number.into.items c.write_word-in-loop-number.new.into.items (32 ∷ w) in
    stopped _ _ _ _ c.from_residual-in_err-write_word-2.ensures.0
    (part_of_rest _ _ _ (32 ∷ c.args.word.now) _ c.in_ok-write_word.ensures
    (part_of_words decimal c.args.numbers.now c.loop-number.number-index _ 0 _ _ _ c.loop-number-test.true refl c.loop-number.invariant (subst P word c.in_err-write_word-2.ensures)))

pub returns : goal.returns
returns c =
    let rest = later_text (map decimal c.args.numbers.now) in
    let numbers : c.loop-number.into.items ≡ c.write_word.new.into.items ++ rest =
    all_words_written decimal c.args.numbers.now c.loop-number.number-index _ _ c.loop-number-test.false c.loop-number.invariant in
    let word : c.write_word.new.into.items ≡ c.args.into.now.items ++ 32 ∷ c.args.word.now = c.in_ok-write_word.ensures in
    numbers ∙ ap (λ t. t ++ rest) word ∙ append_assoc c.args.into.now.items (32 ∷ c.args.word.now) rest
