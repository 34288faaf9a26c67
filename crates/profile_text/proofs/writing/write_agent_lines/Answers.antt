use Rattle.std.proofs.Common.{arith}
use Rattle.profile_text.specs.ProblemText.{agent_line}
use Rattle.profile_text.proofs.Pieces.{lines_step}
use Rattle.profile_text.proofs.writing.write_agent_lines.Goals as goal

pub loop-agent-preserved : goal.loop-agent-preserved
loop-agent-preserved c =
    lines_step (agent_line c.args.atoms.now) c.args.agents.now c.loop-agent.agent-index c.agent-item.result _ _ _ (grind arith) c.agent-item.is c.loop-agent.invariant c.in_ok-write_agent_line.ensures
