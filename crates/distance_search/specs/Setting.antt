-- What questions are about.
use Rattle.std.specs.Prelude.{◌≡◌, ℕ, Bool, List, length, map}
use Rattle.clause_store.specs.Lits.{sorted_clause}
use Rattle.derivation_log.specs.Logs.{Log}
use Rattle.formulas.specs.declared.formula.Formula.{Formula}
use Rattle.merge_model.specs.declared.problem.Problem.{Problem}
use Rattle.merge_model.specs.Answers.{profile_of}
use Rattle.merge_model.specs.Merging.{Profile}
use Rattle.merge_encoding.specs.Assumptions.{IsProper}
use Rattle.merge_encoding.specs.Claims.{Assertion}
use Rattle.merge_encoding.specs.MainDues.{DueCounter, DueLevels, MainDue, due_for}

-- a problem with the meanings of its distance and its aggregator, and its main clauses
pub record Setting : Type 0 where
  pub profile : Profile
  pub asks : List Formula
  pub dist : List Bool → List Bool → ℕ
  pub top : ℕ
  pub rank : List ℕ → List ℕ
  pub values_of : List ℕ → ℕ → List ℕ
  pub main : MainDue

abbrev pub setting_of : (List Bool → List Bool → ℕ) → (ℕ → ℕ) → DueCounter → (List ℕ → List ℕ) → (List ℕ → ℕ → List ℕ) → DueLevels → Problem → Setting
setting_of dist most due rank values_of levels_due problem = record {
  profile = profile_of problem;
  asks = problem.asks;
  dist = dist;
  top = most (length problem.atoms);
  rank = rank;
  values_of = values_of;
  main = due_for due levels_due problem;
}

-- the log's main list is that of the setting
pub record IsOver (s : Setting) (log : Log) : Type 0 where
  pub clauses : log.main ≡ map sorted_clause s.main.clauses
  pub vars : log.vars ≡ s.main.vars

-- the claim may be asked
abbrev pub IsAskable : Setting → Assertion → Type 0
IsAskable s claim = IsProper s.main claim
