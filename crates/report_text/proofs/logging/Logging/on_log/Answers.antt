use Rattle.std.proofs.Common.{rules}
use Rattle.report_text.specs.Logging.{StandsAtLog}
use Rattle.report_text.proofs.LoggingFacts.{step_right, step_wrong, same_stands, proof_in_log}
use Rattle.report_text.proofs.logging.Logging.on_log.Goals as goal

pub returns-in-Ok-push : goal.returns-in-Ok-push
returns-in-Ok-push c = λ p h.
    let t = c.in-Ok.ensures.taken in
    let kinds = c.in-Ok-push.ensures.items in
    step_right c.args.self.now p h c.args.line.now t.0 c.take_step.new.known c.push.new.self t.1 t.2 t.3 (search rules)

pub returns-in-Err-Form : goal.returns-in-Err-Form
returns-in-Err-Form c = λ p h.
    let s = same_stands c.args.self.now p h c.take_step.new.known c.reserve.new.self c.in-Err-Form.ensures.err c.reserve.ensures.items in
    proof_in_log p c.args.line.now (StandsAtLog c.on_proof.new.self) c.on_proof.result (rw c.in-Err-Form.field-0-is at c.in-Err-Form.ensures.taken) (c.on_proof.ensures p s)

pub returns-in-Err-Step : goal.returns-in-Err-Step
returns-in-Err-Step c = λ p h.
    let t = rw c.in-Err-Step.field-0-is at c.in-Err-Step.ensures.taken in
    step_wrong c.args.self.now p h c.args.line.now t.0 t.1 t.2
