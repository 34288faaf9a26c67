use Rattle.std.proofs.Common.{◌≡◌, map, drop}
use Rattle.std.specs.List.{list_any}
use Rattle.problem_reading.specs.Drafts.{is_long}
use Rattle.line_tokens.specs.Lexemes.{lexeme_of}
use Rattle.problem_lines.specs.Forms.{words_of}
use Rattle.problem_reading.proofs.names.any_long.Given as goal

abbrev pub invariant-loop-token : goal.invariant-loop-token
invariant-loop-token l =
    list_any is_long (words_of (map lexeme_of (drop l.token-index l.tokens)))
    ≡ list_any is_long (words_of (map lexeme_of l.tokens))
