-- How a log ends that spent its conflicts.
use Rattle.std.specs.Prelude.{ℕ, ◌-◌, nat_le, Bool, true, not, ◌&&◌, if◌then◌else◌, List, [], ◌∷◌, ◌++◌, length, take, drop}
use Rattle.std.specs.List.{list_all, list_any}
use Rattle.clause_store.specs.declared.lit.Lit.{Lit}
use Rattle.clause_store.specs.Lits.{has}
use Rattle.derivation_log.specs.declared.step.StepKind.{StepKind}
use Rattle.derivation_log.specs.Logs.{is_learned}

-- what is kept of a step: no chain
pub record Noted : Type 0 where
  pub learned : Bool
  pub clause : List Lit

-- the steps of these kinds and clauses
abbrev pub noted_of : List StepKind → List (List Lit) → List Noted
noted_of [] clauses = []
noted_of (kind ∷ kinds) [] = []
noted_of (kind ∷ kinds) (clause ∷ clauses) = record { learned = is_learned kind; clause = clause } ∷ noted_of kinds clauses

-- each literal of the second clause is in the first
abbrev pub includes : List Lit → List Lit → Bool
includes d c = list_all (λ l. has l d) c

abbrev pub learned_clauses : List Noted → List (List Lit)
learned_clauses [] = []
learned_clauses (s ∷ steps) = if s.learned then s.clause ∷ learned_clauses steps else learned_clauses steps

-- each step is learned, and includes no clause of the list and none of an earlier step
abbrev pub are_new : List (List Lit) → List Noted → Bool
are_new before [] = true
are_new before (s ∷ steps) = (s.learned && not (list_any (includes s.clause) before)) && are_new (before ++ s.clause ∷ []) steps

-- the step at a place is learned, and includes no main clause and no clause of an earlier learned step
abbrev pub is_new_at : List (List Lit) → List Noted → ℕ → Noted → Bool
is_new_at main steps k s = s.learned && not (list_any (includes s.clause) (main ++ learned_clauses (take k steps)))

-- the main clauses, and those of the first learned steps, of so many steps
abbrev pub earlier : ℕ → List StepKind → List (List Lit) → ℕ → List (List Lit)
earlier main kinds list steps = take main list ++ learned_clauses (take steps (noted_of kinds (drop main list)))

-- the last steps, so many, are learned, and include no main clause and no clause of an earlier learned step
abbrev pub ends_new : ℕ → List (List Lit) → List Noted → Bool
ends_new count main steps =
    are_new (main ++ learned_clauses (take (length steps - count) steps)) (drop (length steps - count) steps)

-- there are so many steps, and the last of that number are new
abbrev pub is_spent : ℕ → List (List Lit) → List Noted → Bool
is_spent conflicts main steps = nat_le conflicts (length steps) && ends_new conflicts main steps
