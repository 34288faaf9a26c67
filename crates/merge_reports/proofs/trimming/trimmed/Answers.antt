use Rattle.std.proofs.Common.{◌∙◌, sym}
use Rattle.merge_reports.proofs.Leaving.{answer_whole}
use Rattle.merge_reports.proofs.trimming.trimmed.Goals as goal

pub returns-then-gave_up-clause-log : goal.returns-then-gave_up-clause-log
returns-then-gave_up-clause-log c = answer_whole c.args.outcome.found.answer c.args.outcome.derivations c.args.outcome.found.proofs.items (sym c.gave_up.ensures ∙ c.if-gave_up.true)
