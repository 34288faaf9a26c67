-- Logs of which the steps that are needed are left.
use Rattle.std.specs.Prelude.{◌≡◌, ℕ, ◌+◌, ◌-◌, ◌≤◌, ◌<◌, ◌↔◌, nat_lt, Bool, false, true, if◌then◌else◌, List, [], ◌∷◌, length, map, take, slice_get, slice_index_or, Some, Contains, ◌⊎◌}
use Rattle.clause_store.specs.Keeping.{kept_of}
use Rattle.derivation_log.specs.declared.step.Link.{Link}
use Rattle.derivation_log.specs.declared.step.Step.{Step}
use Rattle.derivation_log.specs.Logs.{Log, known_of}

-- the numbers of the clauses that a step resolves
abbrev pub numbers_in : Step → List ℕ
numbers_in step = step.first ∷ map (λ (link : Link). link.number) step.chain

abbrev pub IsStepAt : Log → ℕ → Step → Type 0
IsStepAt log n step = (length log.main ≤ n) × (slice_get log.steps (n - length log.main) ≡ Some step)

-- a number is needed where it is named, or where a needed step uses it
pub data IsNeeded (log : Log) (named : List ℕ) : ℕ → Type 0 where
  by_name : (n : ℕ) → Contains named n → IsNeeded log named n
  by_use : (n k : ℕ) (step : Step) → IsNeeded log named k → IsStepAt log k step → Contains (numbers_in step) n → IsNeeded log named n

-- how many are marked
abbrev pub marked : List Bool → ℕ
marked [] = 0
marked (mark ∷ marks) = if mark then marked marks + 1 else marked marks

-- the number of a clause where of the steps the marked ones are left; main clauses keep theirs
abbrev pub number_after : ℕ → List Bool → ℕ → ℕ
number_after main marks n = if nat_lt n main then n else main + marked (take (n - main) marks)

-- a step with other numbers
abbrev pub renumbered : (ℕ → ℕ) → Step → Step
renumbered f step = record step { first = f step.first; chain = map (λ (link : Link). record link { number = f link.number }) step.chain }

-- the marked steps are exactly those that are needed; they are left, in order, with the numbers that they then have
pub record IsTrimmed (old : Log) (named : List ℕ) (new : Log) (numbers : List ℕ) : Type 0 where
  pub marks : List Bool
  pub each : length marks ≡ length old.steps
  pub exact : (k : ℕ) → k < length old.steps → (slice_index_or marks k false ≡ true) ↔ IsNeeded old named (length old.main + k)
  pub left : new ≡ record old { steps = map (renumbered (number_after (length old.main) marks)) (kept_of marks old.steps) }
  pub numbered : numbers ≡ map (number_after (length old.main) marks) named

-- a number of the new log names the clause of a step that a number of the old log names
abbrev pub IsSameStep : Log → Log → ℕ → ℕ → Type 0
IsSameStep old new n k = (length new.main ≤ k) × (slice_get (known_of new) k ≡ slice_get (known_of old) n)

-- a later step uses the clause of a number
abbrev pub IsUsedLater : Log → ℕ → Type 0
IsUsedLater log n = (k : ℕ) × (step : Step) × (n < k) × IsStepAt log k step × Contains (numbers_in step) n

-- each step is named, or a later one uses it
abbrev pub AreUsed : Log → List ℕ → Type 0
AreUsed log named = (n : ℕ) → length log.main ≤ n → n < length (known_of log) → Contains named n ⊎ IsUsedLater log n
