use Rattle.std.proofs.Common.{◌≡◌, map, drop}
use Rattle.std.specs.List.{list_all}
use Rattle.line_tokens.specs.Lexemes.{lexeme_of}
use Rattle.problem_lines.specs.Forms.{is_name_token}
use Rattle.problem_lines.proofs.form.are_names.Given as goal

abbrev pub invariant-loop-token : goal.invariant-loop-token
invariant-loop-token l =
    list_all is_name_token (map lexeme_of (drop l.token-index l.tokens)) ≡ list_all is_name_token (map lexeme_of l.tokens)
