use Rattle.std.proofs.Common.{map, ℕ, List, [], ◌∷◌, ◌++◌, sym, ap, subst, ◌∙◌}
use Rattle.std.specs.List.{list_any, prefix_len}
use Rattle.formulas.specs.Names.{is_word_byte}
use Rattle.line_tokens.specs.Bytes.{is_bad}
use Rattle.line_tokens.specs.Lexemes.{lexeme_of, lexemes_of, word}
use Rattle.line_tokens.specs.declared.token.Token.TheVariants.{Word}
use Rattle.line_tokens.specs.Cuts.{BeginsWith}
use Rattle.line_tokens.proofs.Words.{begins_with_word, starts_at, after_first}
use Rattle.line_tokens.proofs.cut.tokens.Goals as goal

pub loop-rest-preserved-then-is_word_byte : goal.loop-rest-preserved-then-is_word_byte
loop-rest-preserved-then-is_word_byte c =
    let rest = c.loop-rest.rest.now in
    let token = Word c.split_word.result.0 in
    let after = c.split_word.ensures.rest in
    let first = begins_with_word rest (starts_at rest c.if-is_word_byte.ensures) in
    let IsFirst : List ℕ → Type 0 = λ w. BeginsWith rest (word w) (prefix_len is_word_byte rest) in
    let found = after_first c.loop-rest.found.items token rest c.args.text.now _ (subst IsFirst (sym c.split_word.ensures.word) first) c.loop-rest.invariant.0 in (
      ap (λ ts. map lexeme_of ts ++ lexemes_of c.split_word.result.1.now) c.in_ok-push.ensures.items
          ∙ ap (λ s. map lexeme_of (c.loop-rest.found.items ++ token ∷ []) ++ lexemes_of s) after ∙ found,
      ap (list_any is_bad) after ∙ sym first.good ∙ c.loop-rest.invariant.1,
    )
