use Rattle.std.proofs.Common.{ap, ◌∙◌}
use Rattle.report_lines.specs.declared.kinds.Due.TheVariants as due
use Rattle.report_text.specs.Logging.{StandsAtLog, due_at}
use Rattle.report_text.proofs.LoggingFacts.{at_due}
use Rattle.report_text.proofs.logging.Logging.line.Goals as goal

pub returns-in-Main : goal.returns-in-Main
returns-in-Main c = λ p h. at_due p due.Main c.args.line.now (StandsAtLog c.on_main.new.self) c.on_main.result (h.due ∙ ap due_at c.in-Main.is) (c.on_main.ensures p h)

pub returns-in-Log : goal.returns-in-Log
returns-in-Log c = λ p h. at_due p due.Log c.args.line.now (StandsAtLog c.on_log.new.self) c.on_log.result (h.due ∙ ap due_at c.in-Log.is) (c.on_log.ensures p h)

pub returns-in-Proofs : goal.returns-in-Proofs
returns-in-Proofs c = λ p h. at_due p due.Proofs c.args.line.now (StandsAtLog c.on_proof.new.self) c.on_proof.result (h.due ∙ ap due_at c.in-Proofs.is) (c.on_proof.ensures p h)
