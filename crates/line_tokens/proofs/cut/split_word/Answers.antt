use Rattle.std.proofs.Common.{◌≤◌, ℕ, length, take, ap, sym, subst, ◌∙◌}
use Rattle.std.specs.List.{prefix_len}
use Rattle.std.specs.Str.{IsAscii, IsUtf8}
use Rattle.std.proofs.lemmas.Str.{IsUtf8-from_ascii}
use Rattle.std.proofs.lemmas.List.Sums.{prefix_len-le-length}
use Rattle.formulas.specs.Names.{is_word_byte}
use Rattle.line_tokens.proofs.Words.{word_ascii}
use Rattle.line_tokens.proofs.cut.split_word.Goals as goal

pub split_at-requires : goal.split_at-requires
split_at-requires c =
    let P : ℕ → Type 0 = λ n. n ≤ length c.args.text.now in
    subst P (sym c.word_length.ensures) (prefix_len-le-length is_word_byte c.args.text.now)

pub unreachable-requires : goal.unreachable-requires
unreachable-requires c =
    let text = c.args.text.now in
    let ascii : IsAscii (take (prefix_len is_word_byte text) text) = λ i. word_ascii text i in
    let same = c.split_at.ensures.front ∙ ap (λ n. take n text) c.word_length.ensures in
    c.in-Err.ensures.cases.0 (subst IsUtf8 (sym same) (IsUtf8-from_ascii _ ascii))
