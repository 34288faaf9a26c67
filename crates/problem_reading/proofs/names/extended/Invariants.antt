use Rattle.std.proofs.Common.{◌≡◌, ◌++◌, map, drop}
use Rattle.line_tokens.specs.Lexemes.{lexeme_of}
use Rattle.problem_lines.specs.Forms.{words_of}
use Rattle.problem_reading.proofs.names.extended.Given as goal

abbrev pub invariant-loop-token : goal.invariant-loop-token
invariant-loop-token l =
    l.more ++ words_of (map lexeme_of (drop l.token-index l.tokens)) ≡ l.atoms ++ words_of (map lexeme_of l.tokens)
