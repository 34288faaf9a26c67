-- When the parts of a report are accepted. It speaks of plain evaluation and of written steps alone, and of no
-- closest valuation.
use Rattle.std.specs.Prelude.{◌≡◌, ℕ, ◌≤◌, Bool, false, List, length, map, All, Contains, ◌⊎◌, Option, None, Some, MatchOption, slice_get}
use Rattle.std.specs.List.{AllZip}
use Rattle.clause_store.specs.declared.lit.Lit.{Lit}
use Rattle.clause_store.specs.Lits.{sorted_clause}
use Rattle.formulas.specs.declared.formula.Formula.{Formula}
use Rattle.formulas.specs.Formulas.{holds}
use Rattle.merge_model.specs.declared.answer.Answer.{Answer}
use Rattle.merge_model.specs.declared.answer.Answer.TheVariants.{Merged, Inconsistent, GaveUp}
use Rattle.merge_model.specs.declared.answer.Shown.{Shown}
use Rattle.merge_model.specs.declared.answer.Verdict.{Verdict}
use Rattle.merge_model.specs.declared.answer.Verdict.TheVariants.{Yes, No}
use Rattle.merge_model.specs.declared.problem.Problem.{Problem}
use Rattle.merge_model.specs.Answers.{profile_of}
use Rattle.merge_model.specs.Merging.{Profile, IsModel, repeated}
use Rattle.derivation_log.specs.declared.step.Step.{Step}
use Rattle.derivation_log.specs.Logs.{Log, known_of, IsSound}
use Rattle.clause_store.specs.Refutes.{Refutes}
use Rattle.merge_encoding.specs.MainDues.{DueCounter, DueLevels, MainDue, main_due}
use Rattle.merge_encoding.specs.Assumptions.{assumed}
use Rattle.report_lines.specs.ClaimsDue.{claims_due}

-- what a distance and an aggregator mean
pub record Operator : Type 0 where
  pub dist : List Bool → List Bool → ℕ
  pub most : ℕ → ℕ
  pub due : DueCounter
  pub rank : List ℕ → List ℕ
  pub levels_of : List ℕ → ℕ → List ℕ
  pub levels_due : DueLevels

-- the parts of a report but for its operator and its conflicts; `shown` are the numbers on the lines that show claims
pub record Parts : Type 0 where
  pub problem : Problem
  pub answer : Answer
  pub steps : List Step
  pub shown : List ℕ

abbrev pub main_of : Operator → Problem → MainDue
main_of op problem = main_due op.due op.levels_due (profile_of problem) problem.asks

-- the clauses are stored sorted
abbrev pub log_of : Operator → Parts → Log
log_of op parts = record { main = map sorted_clause (main_of op parts.problem).clauses; vars = (main_of op parts.problem).vars; steps = parts.steps }

-- the level values of a vector
abbrev pub values_in : Operator → Profile → List ℕ → List ℕ
values_in op p vector = op.levels_of (repeated p.times vector) (op.most p.atoms)

-- a model of the constraint, and models of the bases at the distances in the vector
pub record IsWitness (op : Operator) (p : Profile) (shown : Shown) : Type 0 where
  pub model : IsModel p.atoms p.constraint shown.model
  pub within : All (λ k. k ≤ op.most p.atoms) shown.vector
  pub nearest : AllZip (IsModel p.atoms) p.bases shown.nearest
  pub vector : shown.vector ≡ map (op.dist shown.model) shown.nearest

-- the query is false in the model of its no, whose full vector has the rank that is written
abbrev pub IsWitnessedVerdict : Operator → Profile → List ℕ → Formula → Verdict → Type 0
IsWitnessedVerdict op p measure ask Yes = Unit {0}
IsWitnessedVerdict op p measure ask (No shown) = IsWitness op p shown × (measure ≡ op.rank (repeated p.times shown.vector)) × (holds ask shown.model ≡ false)

pub record IsWitnessedMerge (op : Operator) (p : Profile) (asks : List Formula) (best : Shown) (measure : List ℕ) (verdicts : List Verdict) : Type 0 where
  pub first : IsWitness op p best
  pub measured : measure ≡ op.rank (repeated p.times best.vector)
  pub judged : AllZip (IsWitnessedVerdict op p measure) asks verdicts

-- a valuation that stands there satisfies its formula
abbrev pub IsWitnessedEntry : ℕ → Formula → Option (List Bool) → Type 0
IsWitnessedEntry n formula entry = MatchOption entry (Unit {0}) (λ v. IsModel n formula v)

pub record IsWitnessedNaming (p : Profile) (constraint : Option (List Bool)) (agents : List (Option (List Bool))) : Type 0 where
  pub constraint_entry : IsWitnessedEntry p.atoms p.constraint constraint
  pub base_entries : AllZip (IsWitnessedEntry p.atoms) p.bases agents
  pub some_none : (constraint ≡ None) ⊎ Contains agents None

-- what plain evaluation says of an answer
abbrev pub IsWitnessed : Operator → Profile → List Formula → Answer → Type 0
IsWitnessed op p asks (Merged best measure verdicts) = IsWitnessedMerge op p asks best measure verdicts
IsWitnessed op p asks (Inconsistent constraint agents) = IsWitnessedNaming p constraint agents
IsWitnessed op p asks GaveUp = ⊥

-- the number is that of a step of the log whose clause refutes the assumptions
abbrev pub Shows : Log → List Lit → ℕ → Type 0
Shows log assumptions number = (length log.main ≤ number) × (clause : List Lit) × (slice_get (known_of log) number ≡ Some clause) × Refutes clause assumptions

pub record AreAccepted (op : Operator) (parts : Parts) : Type 0 where
  pub sound : IsSound (log_of op parts).main parts.steps
  pub witnessed : IsWitnessed op (profile_of parts.problem) parts.problem.asks parts.answer
  pub shown : AllZip (λ claim number. Shows (log_of op parts) (assumed (main_of op parts.problem) claim.says) number) (claims_due (values_in op (profile_of parts.problem)) parts.answer) parts.shown

abbrev pub operator : (List Bool → List Bool → ℕ) → (ℕ → ℕ) → DueCounter → (List ℕ → List ℕ) → (List ℕ → ℕ → List ℕ) → DueLevels → Operator
operator dist most due rank levels_of levels_due = record { dist = dist; most = most; due = due; rank = rank; levels_of = levels_of; levels_due = levels_due }
