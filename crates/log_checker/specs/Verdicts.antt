-- What the checker answers for a step.
use Rattle.std.specs.Prelude.{◌≡◌, ◌≢◌, ℕ, ◌+◌, ◌<◌, Bool, true, false, ◌&&◌, nat_lt, if◌then◌else◌, List, [], ◌∷◌, length, slice_get, Option, Some, None, Result, Ok, Err, ◌⊎◌, zero, suc}
use Rattle.std.specs.List.{AllByRecursion}
use Rattle.clause_store.specs.declared.lit.Lit.{Lit}
use Rattle.clause_store.specs.Clauses.{clause_at}
use Rattle.clause_store.specs.Lits.{negated, resolvent, has, same_lit}
use Rattle.derivation_log.specs.declared.step.Link.{Link}
use Rattle.derivation_log.specs.declared.step.Step.{Step}
use Rattle.derivation_log.specs.Logs.{Comes, Follows}
use Rattle.log_checker.specs.declared.checking.StepStop.{StepStop}
use Rattle.log_checker.specs.declared.checking.StepStop.TheVariants.{NoSuchClause, NoPivot, OtherClause, NoMemory}

-- each number in the step is below this one
pub record AreBelow (number : ℕ) (step : Step) : Type 0 where
  pub start : step.first < number
  pub links : AllByRecursion (λ link. link.number < number) step.chain

-- the link cannot be taken from the running clause
abbrev pub CannotTake : List (List Lit) → List Lit → Link → Type 0
CannotTake known running link =
    (other : List Lit) × (slice_get known link.number ≡ Some other) × (has link.pivot running && has (negated link.pivot) other ≡ false)

-- the links before the place can be taken from the running clause on, and the one at the place cannot
abbrev pub SticksAt : List (List Lit) → List Lit → List Link → ℕ → Type 0
SticksAt known running [] place = ⊥
SticksAt known running (link ∷ links) zero = CannotTake known running link
SticksAt known running (link ∷ links) (suc place) =
    (other : List Lit) × (slice_get known link.number ≡ Some other) × (has link.pivot running ≡ true) × (has (negated link.pivot) other ≡ true) × SticksAt known (resolvent link.pivot running other) links place

-- the answer is right for the step, its number being that of the known clauses
abbrev pub IsAnswer : List (List Lit) → Step → Result (Unit {0}) StepStop → Type 0
IsAnswer known step (Ok _) = Follows known step
IsAnswer known step (Err NoSuchClause) = AreBelow (length known) step → ⊥
IsAnswer known step (Err (NoPivot place)) =
    AreBelow (length known) step × (start : List Lit) × (slice_get known step.first ≡ Some start) × SticksAt known start step.chain place
IsAnswer known step (Err OtherClause) =
    AreBelow (length known) step × (start : List Lit) × (slice_get known step.first ≡ Some start) × (end : List Lit) × Comes known start step.chain end × (end ≢ step.clause)
IsAnswer known step (Err NoMemory) = Unit {0}

-- The same, as a function that computes.

-- where a chain of links ends, or the place of the first link that cannot be taken
pub data Outcome : Type 0 where
  Ends : List Lit → Outcome
  Sticks : ℕ → Outcome

abbrev pub chain_from : List (List Lit) → ℕ → List Lit → List Link → Outcome
chain_from known place running [] = Ends running
chain_from known place running (link ∷ links) =
    if has link.pivot running && has (negated link.pivot) (clause_at known link.number) then chain_from known (place + 1) (resolvent link.pivot running (clause_at known link.number)) links else Sticks place

abbrev pub are_links_below : ℕ → List Link → Bool
are_links_below number [] = true
are_links_below number (link ∷ links) = nat_lt link.number number && are_links_below number links

abbrev pub are_below : ℕ → Step → Bool
are_below number step = nat_lt step.first number && are_links_below number step.chain

abbrev pub same_clause : List Lit → List Lit → Bool
same_clause [] [] = true
same_clause [] (m ∷ ms) = false
same_clause (l ∷ ls) [] = false
same_clause (l ∷ ls) (m ∷ ms) = same_lit l m && same_clause ls ms

abbrev pub end_verdict : Outcome → List Lit → Option StepStop
end_verdict (Ends end) clause = if same_clause end clause then None else Some OtherClause
end_verdict (Sticks place) clause = Some (NoPivot place)

-- none, where the step follows
abbrev pub verdict_of : List (List Lit) → Step → Option StepStop
verdict_of known step = if are_below (length known) step then end_verdict (chain_from known 0 (clause_at known step.first) step.chain) step.clause else Some NoSuchClause

-- the answer to a walk along a chain
abbrev pub IsEnd : Outcome → Result (List Lit) StepStop → Type 0
IsEnd outcome (Ok end) = outcome ≡ Ends end
IsEnd outcome (Err stop) = (stop ≡ NoMemory) ⊎ ((place : ℕ) × (stop ≡ NoPivot place) × (outcome ≡ Sticks place))
