use Rattle.std.proofs.Common.{◌∷◌, [], ◌++◌, map, drop, drop-cons, add-one, suc, append_assoc, sym, ap, ◌∙◌}
use Rattle.formulas.specs.Names.{are_distinct}
use Rattle.formulas.proofs.NameViews.{distinct_more}
use Rattle.line_tokens.specs.Lexemes.{lexeme_of}
use Rattle.line_tokens.specs.declared.token.Token.TheVariants.{Bang}
use Rattle.problem_lines.specs.Forms.{words_of}
use Rattle.problem_reading.proofs.NameLists.{distinct_not}
use Rattle.problem_reading.proofs.names.are_distinct.Goals as goal

pub returns-then-has : goal.returns-then-has
returns-then-has c =
    let tokens = c.args.tokens.now in
    let index = c.loop-token.token-index in
    let seen = c.loop-token.seen in
    let rest = words_of (map lexeme_of (drop (suc index) tokens)) in
    let word = c.token_word-word.result.now in
    let next = ap (λ ts. words_of (map lexeme_of ts)) (drop-cons tokens index Bang c.loop-token-test.true) ∙ ap (λ w. w ∷ rest) (sym c.token_word-word.ensures) in
    sym (distinct_not seen rest word (sym c.if-has.ensures)) ∙ ap (λ ws. are_distinct (seen ++ ws)) (sym next) ∙ ap are_distinct c.loop-token.invariant.0

pub loop-token-preserved : goal.loop-token-preserved
loop-token-preserved c =
    let tokens = c.args.tokens.now in
    let index = c.loop-token.token-index in
    let seen = c.loop-token.seen in
    let rest = words_of (map lexeme_of (drop (suc index) tokens)) in
    let word = c.token_word-word.result.now in
    let next = ap (λ ts. words_of (map lexeme_of ts)) (drop-cons tokens index Bang c.loop-token-test.true) ∙ ap (λ w. w ∷ rest) (sym c.token_word-word.ensures) in (
      ap (λ n. c.push.new.self ++ words_of (map lexeme_of (drop n tokens))) (add-one index)
          ∙ ap (λ s. s ++ rest) c.in_ok-push.ensures ∙ append_assoc seen (word ∷ []) rest ∙ ap (λ ws. seen ++ ws) (sym next) ∙ c.loop-token.invariant.0,
      ap are_distinct c.in_ok-push.ensures ∙ distinct_more seen word c.loop-token.invariant.1 (sym c.if-has.ensures),
    )
