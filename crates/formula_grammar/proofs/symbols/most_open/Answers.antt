use Rattle.std.proofs.Common.{ap, ◌∙◌, map, max, drop, drop-cons, add-one, arith}
use Rattle.line_tokens.specs.Lexemes.{lexeme_of}
use Rattle.line_tokens.specs.declared.token.Token.TheVariants.{Bang}
use Rattle.formula_grammar.specs.Symbols.{most_open}
use Rattle.formula_grammar.proofs.OpenBrackets.{bracket_step, greatest}
use Rattle.formula_grammar.proofs.symbols.most_open.Goals as goal

pub loop-token-preserved : goal.loop-token-preserved
loop-token-preserved c =
    let tokens = c.args.tokens.now in
    let index = c.loop-token.token-index in
    let most = c.max-most.ensures ∙ greatest c.loop-token.most c.opened-now_open.result in
    let opened = c.opened-now_open.ensures in
    let next = ap (map lexeme_of) (drop-cons tokens index Bang c.loop-token-test.true) in (
      omega (arith, opened.at_most, c.loop-token.invariant.0),
      omega (arith, most),
      ap (λ n. max c.max-most.result (most_open c.opened-now_open.result (map lexeme_of (drop n tokens)))) (add-one index)
          ∙ bracket_step c.loop-token.most c.loop-token.now_open c.opened-now_open.result c.max-most.result _ _ _ next opened.number most c.loop-token.invariant.1
          ∙ c.loop-token.invariant.2,
    )
