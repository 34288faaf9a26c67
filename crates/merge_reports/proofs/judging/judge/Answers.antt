use Rattle.std.proofs.Common.{◌+◌, ◌++◌, ap, ◌∙◌}
use Rattle.merge_reports.specs.Proofs.{far_proofs}
use Rattle.merge_reports.proofs.Verdicts.{no_ruled}
use Rattle.merge_reports.proofs.judging.judge.Goals as goal

pub returns-in_ok-push_far-in-No-clause-answer : goal.returns-in_ok-push_far-in-No-clause-answer
returns-in_ok-push_far-in-No-clause-answer g c =
    no_ruled _ c.entails.new.self.engine.log c.args.best.now.values c.args.query c.in-No.field-0 c.args.proofs.now.items c.push_far.new.proofs.items c.in_ok-step.field-0 c.in-No.is c.in_ok-step.ensures.answer
    (c.in_ok-push_far-in-No.ensures ∙ ap (λ ss. c.args.proofs.now.items ++ far_proofs (c.args.query + 1) 0 ss) c.as_slice.ensures)
