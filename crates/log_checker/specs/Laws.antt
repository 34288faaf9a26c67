-- What checked steps are worth.
use Rattle.std.specs.Prelude.{◌≡◌, ◌≢◌, ℕ, ◌++◌, Bool, true, List, Contains, Result, Err}
use Rattle.clause_store.specs.declared.lit.Lit.{Lit}
use Rattle.clause_store.specs.Truth.{lit_true, clause_true, AreTrue}
use Rattle.std.specs.List.{AllByRecursion}
use Rattle.derivation_log.specs.declared.step.Step.{Step}
use Rattle.derivation_log.specs.Logs.{Follows, IsSound, clauses_of}
use Rattle.log_checker.specs.declared.checking.StepStop.{StepStop}
use Rattle.log_checker.specs.declared.checking.StepStop.TheVariants.{NoMemory}
use Rattle.clause_store.specs.Refutes.{Refutes}
use Rattle.log_checker.specs.Verdicts.{IsAnswer}

abbrev pub AnswerLaw : Type 0
AnswerLaw = (known : List (List Lit)) (step : Step) (r s : Result (Unit {0}) StepStop) → r ≢ Err NoMemory → s ≢ Err NoMemory → IsAnswer known step r → IsAnswer known step s → r ≡ s

abbrev pub StepLaw : Type 0
StepLaw = (a : ℕ → Bool) (known : List (List Lit)) (step : Step) → AreTrue known a → Follows known step → clause_true a step.clause ≡ true

abbrev pub LogLaw : Type 0
LogLaw = (a : ℕ → Bool) (main : List (List Lit)) (steps : List Step) → AreTrue main a → IsSound main steps → AreTrue (main ++ clauses_of steps) a

abbrev pub RefuteLaw : Type 0
RefuteLaw = (a : ℕ → Bool) (main : List (List Lit)) (steps : List Step) (c assumptions : List Lit) → AreTrue main a → IsSound main steps → Contains (clauses_of steps) c → Refutes c assumptions → AllByRecursion (λ l. lit_true a l ≡ true) assumptions → ⊥
