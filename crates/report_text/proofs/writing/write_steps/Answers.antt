use Rattle.std.proofs.Common.{◌≡◌, ◌-◌, ◌++◌, length, ap, sym, ◌∙◌, arith, rules}
use Rattle.std.proofs.lemmas.Option.{get_or_from_slice_get}
use Rattle.derivation_log.specs.Logs.{known_of}
use Rattle.derivation_log.proofs.Trims.{known_length}
use Rattle.report_lines.specs.Parts.{items_text}
use Rattle.report_text.specs.WritingItems.{step_entry}
use Rattle.report_text.proofs.WritingTexts.{steps_from, next_entry, before_entry, all_entries, stopped_as}
use Rattle.report_text.proofs.WritingProofs.{has_line, step_written, within}
use Rattle.report_text.proofs.writing.write_steps.Goals as goal

pub returns-in_err-step : goal.returns-in_err-step
returns-in_err-step c =
    let log = c.args.derivations.now in
    let first = length log.main in
    stopped_as _ _ _ _ _ c.from_residual.ensures.0 (ap items_text (steps_from first log.steps))
    (before_entry step_entry first log.steps (c.loop-number.number - first) _ _ c.loop-number.invariant)

pub write_step-requires-clause-first : goal.write_step-requires-clause-first
write_step-requires-clause-first c =
    let log = c.args.derivations.now in
    let first = length log.main in
    (has_line first log.steps (c.loop-number.number - first) c.loop-number.number c.in_ok-step.step c.requires (omega arith) c.in_ok-step.ensures.step).first

pub write_step-requires-clause-links : goal.write_step-requires-clause-links
write_step-requires-clause-links c =
    let log = c.args.derivations.now in
    let first = length log.main in
    (has_line first log.steps (c.loop-number.number - first) c.loop-number.number c.in_ok-step.step c.requires (omega arith) c.in_ok-step.ensures.step).links

pub returns-in_err-write_step : goal.returns-in_err-write_step
returns-in_err-write_step c =
    let log = c.args.derivations.now in
    let first = length log.main in
    stopped_as _ _ _ _ _ c.from_residual-in_err-write_step.ensures.0 (ap items_text (steps_from first log.steps))
    (before_entry step_entry first log.steps (c.loop-number.number - first) _ _ (c.in_err-write_step.ensures.err ∙ c.loop-number.invariant))

pub loop-number-preserved : goal.loop-number-preserved
loop-number-preserved c =
    let log = c.args.derivations.now in
    let first = length log.main in
    let k = c.loop-number.number - first in
    let step = c.in_ok-step.step in
    next_entry step_entry first log.steps k c.loop-number.number _ step step _ _ _ (within log.steps k step c.in_ok-step.ensures.step) (omega arith) (omega arith)
    (sym (get_or_from_slice_get log.steps k step step c.in_ok-step.ensures.step)) c.loop-number.invariant (step_written c.loop-number.number step _ _ c.in_ok-write_step.ensures.ok)

pub returns : goal.returns
returns c =
    let log = c.args.derivations.now in
    let first = length log.main in
    let known : c.len-number-end.result ≡ length (known_of log) = search rules in
    all_entries step_entry first log.steps (c.loop-number.number - first) _ _ (omega (arith, known_length log)) c.loop-number.invariant
    ∙ ap (λ items. c.args.into.now.items ++ items_text items) (sym (steps_from first log.steps))
