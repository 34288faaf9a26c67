use Rattle.std.proofs.Common.{◌≡◌, map, ◌++◌, drop}
use Rattle.line_tokens.specs.Lexemes.{lexeme_of}
use Rattle.formula_grammar.specs.Symbols.{symbols_of}
use Rattle.formula_grammar.proofs.symbols.symbols.Given as goal

abbrev pub invariant-loop-token : goal.invariant-loop-token
invariant-loop-token l =
    l.symbols.items ++ symbols_of l.atoms (map lexeme_of (drop l.token-index l.tokens)) ≡ symbols_of l.atoms (map lexeme_of l.tokens)
