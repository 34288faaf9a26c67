-- How a log stands in memory.
use Rattle.std.specs.Prelude.{List, [], ◌∷◌}
use Rattle.clause_store.specs.declared.lit.Lit.{Lit}
use Rattle.derivation_log.specs.declared.derivations.Row.{Row}
use Rattle.derivation_log.specs.declared.step.Step.{Step}

-- the steps of these clauses and rows
abbrev pub steps_of : List (List Lit) → List Row → List Step
steps_of [] rows = []
steps_of (c ∷ cs) [] = []
steps_of (c ∷ cs) (r ∷ rows) = record { kind = r.kind; clause = c; first = r.first; chain = r.chain } ∷ steps_of cs rows
