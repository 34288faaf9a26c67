-- Logs of resolution steps, and what it means that a step follows.
use Rattle.std.specs.Prelude.{◌≡◌, ℕ, Bool, true, false, if◌then◌else◌, List, [], ◌∷◌, ◌++◌, slice_get, Some, map}
use Rattle.std.specs.List.{AllByRecursion}
use Rattle.clause_store.specs.declared.lit.Lit.{Lit}
use Rattle.clause_store.specs.Lits.{negated, resolvent, has, Includes}
use Rattle.derivation_log.specs.declared.step.Link.{Link}
use Rattle.derivation_log.specs.declared.step.Step.{Step}
use Rattle.derivation_log.specs.declared.step.StepKind.{StepKind}
use Rattle.derivation_log.specs.declared.step.StepKind.TheVariants.{Learned, Claimed}

abbrev pub is_learned : StepKind → Bool
is_learned Learned = true
is_learned Claimed = false

-- a main list over so many variables, and the steps
pub record Log : Type 0 where
  pub main : List (List Lit)
  pub vars : ℕ
  pub steps : List Step

abbrev pub clauses_of : List Step → List (List Lit)
clauses_of steps = map (λ s. s.clause) steps

-- the main clauses followed by the steps' clauses
abbrev pub known_of : Log → List (List Lit)
known_of log = log.main ++ clauses_of log.steps

-- from the running clause the links lead to the end: each takes its literal from the running clause and the
-- negation from the clause of its number, and joins what is left
abbrev pub Comes : List (List Lit) → List Lit → List Link → List Lit → Type 0
Comes known running [] end = running ≡ end
Comes known running (link ∷ links) end =
    (other : List Lit) × (slice_get known link.number ≡ Some other) × (has link.pivot running ≡ true) × (has (negated link.pivot) other ≡ true) × Comes known (resolvent link.pivot running other) links end

-- the step follows from the list of clauses, by resolution
abbrev pub Follows : List (List Lit) → Step → Type 0
Follows known step = (start : List Lit) × (slice_get known step.first ≡ Some start) × Comes known start step.chain step.clause

-- each step follows from the list and the earlier steps' clauses
abbrev pub IsSound : List (List Lit) → List Step → Type 0
IsSound known [] = Unit {0}
IsSound known (step ∷ steps) = Follows known step × IsSound (known ++ step.clause ∷ []) steps

abbrev pub learned_of : List Step → List (List Lit)
learned_of [] = []
learned_of (s ∷ ss) = if is_learned s.kind then s.clause ∷ learned_of ss else learned_of ss

-- no learned clause includes a clause of the list or an earlier learned one
abbrev pub IsNew : List (List Lit) → List Step → Type 0
IsNew before [] = Unit {0}
IsNew before (s ∷ ss) =
    (is_learned s.kind ≡ true → AllByRecursion (λ c. Includes s.clause c → ⊥) before) × IsNew (if is_learned s.kind then before ++ s.clause ∷ [] else before) ss
