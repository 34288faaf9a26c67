use Rattle.std.proofs.Common.{◌≡◌, true, ◌++◌, map, drop}
use Rattle.formulas.specs.Names.{are_distinct}
use Rattle.line_tokens.specs.Lexemes.{lexeme_of}
use Rattle.problem_lines.specs.Forms.{words_of}
use Rattle.problem_reading.proofs.names.are_distinct.Given as goal

abbrev pub invariant-loop-token : goal.invariant-loop-token
invariant-loop-token l =
    (l.seen ++ words_of (map lexeme_of (drop l.token-index l.tokens)) ≡ words_of (map lexeme_of l.tokens)) × (are_distinct l.seen ≡ true)
