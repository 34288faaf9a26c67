use Rattle.std.proofs.Common.{arith}
use Rattle.profile_text.specs.ProblemText.{ask_line}
use Rattle.profile_text.proofs.Pieces.{lines_step}
use Rattle.profile_text.proofs.writing.write_ask_lines.Goals as goal

pub loop-ask-preserved : goal.loop-ask-preserved
loop-ask-preserved c =
    lines_step (ask_line c.args.atoms.now) c.args.asks.now c.loop-ask.ask-index c.ask-item.result _ _ _ (grind arith) c.ask-item.is c.loop-ask.invariant c.in_ok-write_ask_line.ensures
