-- What each reply of a solver promises.
use Rattle.std.specs.Prelude.{◌≡◌, ℕ, ◌<◌, ◌≤◌, Bool, true, false, List, [], ◌∷◌, ◌++◌, length}
use Rattle.std.specs.List.{AllByRecursion}
use Rattle.clause_store.specs.declared.lit.Lit.{Lit}
use Rattle.clause_store.specs.Truth.{lit_true, values_of, AreTrue}
use Rattle.derivation_log.specs.declared.step.Step.{Step}
use Rattle.derivation_log.specs.Logs.{Log, known_of, is_learned}
use Rattle.clause_store.specs.Refutes.{Refutes}
use Rattle.solver_laws.specs.Ready.{IsLog}
use Rattle.cdcl_core.specs.declared.reply.Reply.{Reply}
use Rattle.cdcl_core.specs.declared.reply.Reply.TheVariants.{Found, Refuted, GaveUp}

-- the log has the same main list, and grew at its end alone
pub record IsLonger (old new : Log) : Type 0 where
  pub main : new.main ≡ old.main
  pub vars : new.vars ≡ old.vars
  pub steps : (more : List Step) × (new.steps ≡ old.steps ++ more)

abbrev pub AllLearned : List Step → Type 0
AllLearned steps = AllByRecursion (λ s. is_learned s.kind ≡ true) steps

-- the log grew at its end by so many steps, each of them learned
pub record IsGrown (old new : Log) (count : ℕ) : Type 0 where
  pub log : IsLog new
  pub main : new.main ≡ old.main
  pub vars : new.vars ≡ old.vars
  pub steps : (more : List Step) × (new.steps ≡ old.steps ++ more) × AllLearned more × (length more ≡ count)

-- a question that memory was wanting for: the log grew at its end by learned steps alone, at most as many as its budget
abbrev pub IsBrokenOff : Log → Log → ℕ → Type 0
IsBrokenOff old new budget = (more : List Step) × (new.steps ≡ old.steps ++ more) × AllLearned more × (length more ≤ budget)

-- a claimed step was appended whose clause refutes the assumptions
abbrev pub IsClaimed : Log → Log → List Lit → Type 0
IsClaimed old new asked = (s : Step) × (is_learned s.kind ≡ false) × Refutes s.clause asked × (let l : Log = record old { steps = old.steps ++ s ∷ [] } in new ≡ l)

-- the clauses and the assumptions are true under these values of the variables
pub record IsSolution (main : List (List Lit)) (vars : ℕ) (asked : List Lit) (values : List Bool) : Type 0 where
  pub size : length values ≡ vars
  pub clauses : AreTrue main (values_of values)
  pub assumptions : AllByRecursion (λ l. lit_true (values_of values) l ≡ true) asked

-- the budget is a number of learned steps: an answer comes before the last of them, giving up with it
abbrev pub IsAnswered : Log → Log → List Lit → ℕ → Reply → Type 0
IsAnswered old new asked budget (Found values) =
    (count : ℕ) × (count < budget) × IsGrown old new count × IsSolution old.main old.vars asked values
IsAnswered old new asked budget (Refuted number) =
    (count : ℕ) × (count < budget) × (mid : Log) × IsGrown old mid count × IsClaimed mid new asked × (number ≡ length (known_of mid))
IsAnswered old new asked budget (GaveUp number) =
    IsGrown old new budget × (number ≡ length (known_of old))

-- where the reply is a refutation, no assignment makes the clauses and the assumptions true
abbrev pub IsJust : List (List Lit) → List Lit → Reply → Type 0
IsJust main asked (Found values) = Unit {0}
IsJust main asked (Refuted number) = (a : ℕ → Bool) → AreTrue main a → AllByRecursion (λ l. lit_true a l ≡ true) asked → ⊥
IsJust main asked (GaveUp number) = Unit {0}

-- the reply is an answer, and not that the budget was spent
abbrev pub IsDecided : Reply → Type 0
IsDecided (Found values) = Unit {0}
IsDecided (Refuted number) = Unit {0}
IsDecided (GaveUp number) = ⊥
