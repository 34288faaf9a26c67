-- What a turn of the solver does to the log.
use Rattle.std.specs.Prelude.{◌≡◌, true, [], ◌∷◌, ◌++◌, ◌⊎◌}
use Rattle.derivation_log.specs.Logs.{Log, is_learned}
use Rattle.derivation_log.specs.declared.step.Step.{Step}
use Rattle.solver_laws.specs.Ready.{IsLog}

-- one learned step was appended
abbrev pub IsLearned : Log → Log → Type 0
IsLearned old new = (s : Step) × (is_learned s.kind ≡ true) × (new.steps ≡ old.steps ++ s ∷ [])

-- the log is sound and new, has the same main list, and grew at its end by one learned step at most
pub record IsKept (old new : Log) : Type 0 where
  pub log : IsLog new
  pub main : new.main ≡ old.main
  pub vars : new.vars ≡ old.vars
  pub steps : (new.steps ≡ old.steps) ⊎ IsLearned old new
