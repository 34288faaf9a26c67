use Rattle.std.proofs.Common.{◌∷◌, ◌++◌, map, drop, drop-cons, suc, sym, ap, ◌∙◌}
use Rattle.line_tokens.specs.Lexemes.{lexeme_of}
use Rattle.line_tokens.specs.declared.token.Token.TheVariants.{Bang}
use Rattle.problem_lines.specs.Forms.{words_of}
use Rattle.problem_reading.proofs.NameLists.{may_follow}
use Rattle.problem_reading.proofs.names.extended.Goals as goal

pub add-requires-clause-name : goal.add-requires-clause-name
add-requires-clause-name c =
    let tokens = c.args.tokens.now in
    let index = c.loop-token.token-index in
    let rest = words_of (map lexeme_of (drop (suc index) tokens)) in
    let next = ap (λ ts. words_of (map lexeme_of ts)) (drop-cons tokens index Bang c.loop-token-test.true) ∙ ap (λ w. w ∷ rest) (sym c.token_word.ensures) in
    (may_follow c.loop-token.more rest _ c.token_word.result.now (ap (λ ws. c.loop-token.more ++ ws) (sym next) ∙ c.loop-token.invariant) c.requires.names c.requires.few).legal

pub add-requires-clause-absent : goal.add-requires-clause-absent
add-requires-clause-absent c =
    let tokens = c.args.tokens.now in
    let index = c.loop-token.token-index in
    let rest = words_of (map lexeme_of (drop (suc index) tokens)) in
    let next = ap (λ ts. words_of (map lexeme_of ts)) (drop-cons tokens index Bang c.loop-token-test.true) ∙ ap (λ w. w ∷ rest) (sym c.token_word.ensures) in
    (may_follow c.loop-token.more rest _ c.token_word.result.now (ap (λ ws. c.loop-token.more ++ ws) (sym next) ∙ c.loop-token.invariant) c.requires.names c.requires.few).absent
