use Rattle.std.proofs.Common.{List, Bool, All, length, subst, sym}
use Rattle.merge_model.specs.Plain.{IsOver}
use Rattle.merge_model.proofs.plain.ranked.full_vectors.Goals as goal

pub full-requires-clause-over : goal.full-requires-clause-over
full-requires-clause-over g c =
    subst (λ (v : List Bool). All (IsOver (length v)) c.args.tables.now) (sym c.candidate-item.is)
    (c.requires.over c.loop-candidate.candidate-index c.candidate-item.result c.loop-candidate-test.true)
