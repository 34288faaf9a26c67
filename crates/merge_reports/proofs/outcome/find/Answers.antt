use Rattle.merge_reports.proofs.Namings.{named_where}
use Rattle.merge_reports.proofs.outcome.find.Goals as goal

pub merged-requires : goal.merged-requires
merged-requires g c =
    let tells = c.has_models.ensures in
    rw c.in_ok-consistency.ensures.subject (c.in_ok-consistency.ensures.answer.consistent (tells.0 c.if-has_models.true))

pub returns-then-has_models-clause-answer : goal.returns-then-has_models-clause-answer
returns-then-has_models-clause-answer g c = rw c.in_ok-consistency.ensures.subject at c.merged.ensures.answer

pub returns-clause-answer : goal.returns-clause-answer
returns-clause-answer g c =
    named_where _ c.consistency.new.self.engine.log c.in_ok-consistency.consistency c.has_models.result c.in_ok-found.found.answer c.in_ok-found.found.proofs.items c.in_ok-consistency.ensures.answer c.has_models.ensures c.if-has_models.false c.in_ok-found.ensures.answer c.in_ok-found.ensures.proofs
