use Rattle.report_words.proofs.Numerals.{word_neg}
use Rattle.std.proofs.Common.{sym, subst, ◌∷◌, List, ℕ}
use Rattle.report_words.specs.Writing.{GrowsWithin}
use Rattle.report_words.proofs.Growth.{part_of_first, stopped}
use Rattle.report_words.proofs.writing.write_literal.Goals as goal

pub returns-in_err-write_word : goal.returns-in_err-write_word
returns-in_err-write_word c =
    let P : List ℕ → Type 0 = λ word. GrowsWithin c.args.into.now.items c.write_word.new.into.items (32 ∷ word) in
    stopped _ _ _ _ c.from_residual.ensures.0 (subst P (sym (word_neg c.args.literal c.if-literal.false)) (part_of_first _ _ _ _ c.in_err-write_word.ensures))
