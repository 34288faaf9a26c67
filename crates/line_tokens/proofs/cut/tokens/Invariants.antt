use Rattle.std.proofs.Common.{length, ◌≡◌, map, ◌++◌}
use Rattle.std.specs.List.{list_any}
use Rattle.line_tokens.specs.Bytes.{is_bad}
use Rattle.line_tokens.specs.Lexemes.{lexeme_of, lexemes_of}
use Rattle.line_tokens.proofs.cut.tokens.Given as goal

abbrev pub invariant-loop-rest : goal.invariant-loop-rest
invariant-loop-rest l =
    (map lexeme_of l.found.items ++ lexemes_of l.rest ≡ lexemes_of l.text) × (list_any is_bad l.rest ≡ list_any is_bad l.text)

abbrev pub decreases-loop-rest : goal.decreases-loop-rest
decreases-loop-rest l = length l.rest
