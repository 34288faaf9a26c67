use Rattle.std.proofs.Common.{◌≡◌, ◌++◌, map, take}
use Rattle.profile_text.specs.ProblemText.{agent_line, lines_text}
use Rattle.profile_text.proofs.writing.write_agent_lines.Given as goal

-- the lines of the agents so far are written
abbrev pub invariant-loop-agent : goal.invariant-loop-agent
invariant-loop-agent l = l.into.items ≡ l.fn.into.items ++ lines_text (map (agent_line l.atoms) (take l.agent-index l.agents))
