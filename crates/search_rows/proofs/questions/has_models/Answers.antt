use Rattle.search_rows.proofs.questions.has_models.Goals as goal

pub returns-in-Ok-clause-models : goal.returns-in-Ok-clause-models
returns-in-Ok-clause-models g c = λ yes. rw c.in-Ok.ensures.subject (c.in-Ok.ensures.answer.consistent (c.has_models.ensures.0 yes))
