use Rattle.std.proofs.Common.{◌≡◌, ◌++◌, filter, drop}
use Rattle.formulas.specs.Formulas.{holds}
use Rattle.formulas.specs.Words.{all_words}
use Rattle.merge_model.specs.Merging.{models_of}
use Rattle.merge_model.proofs.plain.tables.models.Given as goal

abbrev pub invariant-loop-bits : goal.invariant-loop-bits
invariant-loop-bits l = l.models.items ++ filter (holds l.formula) (drop l.bits (all_words l.atoms)) ≡ models_of l.atoms l.formula
