use Rattle.std.proofs.Common.{◌≡◌, ◌++◌, map, take}
use Rattle.profile_text.specs.ProblemText.{ask_line, lines_text}
use Rattle.profile_text.proofs.writing.write_ask_lines.Given as goal

-- the lines of the queries so far are written
abbrev pub invariant-loop-ask : goal.invariant-loop-ask
invariant-loop-ask l = l.into.items ≡ l.fn.into.items ++ lines_text (map (ask_line l.atoms) (take l.ask-index l.asks))
