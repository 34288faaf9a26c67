use Rattle.std.proofs.Common.{◌≡◌, ◌≤◌, map, max, drop}
use Rattle.line_tokens.specs.Lexemes.{lexeme_of}
use Rattle.formula_grammar.specs.Symbols.{most_open}
use Rattle.formula_grammar.proofs.symbols.most_open.Given as goal

abbrev pub invariant-loop-token : goal.invariant-loop-token
invariant-loop-token l =
    (l.now_open ≤ l.token-index) × (l.now_open ≤ l.most) × (max l.most (most_open l.now_open (map lexeme_of (drop l.token-index l.tokens))) ≡ most_open 0 (map lexeme_of l.tokens))
