-- The order of the lines of a canonical text.
use Rattle.std.specs.Prelude.{◌≡◌, ℕ, true, List, [], ◌∷◌, ◌++◌, codes, nat_eq}
use Rattle.std.specs.List.{starts_with}
use Rattle.problem_reading.specs.Lines.{IsCanonicalNext}

-- how far the lines have come: the atoms, the constraint and some agents, or some queries
pub data Place : Type 0 where
  after_nothing : Place
  after_atoms : Place
  in_agents : Place
  in_asks : Place

-- the line begins with the word, and is the canonical next one after the lines
pub record ComesNext (lines : List (List ℕ)) (line word : List ℕ) : Type 0 where
  pub first : starts_with nat_eq line word ≡ true
  pub next : IsCanonicalNext lines line

-- one line of atoms, one of the constraint, then agents, then queries, each canonical after those before it
pub data InOrder : Place → List (List ℕ) → Type 0 where
  no_line : InOrder after_nothing []
  atoms_come : {lines : List (List ℕ)} (line : List ℕ) → InOrder after_nothing lines → ComesNext lines line (codes "atoms")
      → InOrder after_atoms (lines ++ line ∷ [])
  constraint_comes : {lines : List (List ℕ)} (line : List ℕ) → InOrder after_atoms lines → ComesNext lines line (codes "constraint")
      → InOrder in_agents (lines ++ line ∷ [])
  agent_comes : {lines : List (List ℕ)} (line : List ℕ) → InOrder in_agents lines → ComesNext lines line (codes "agent")
      → InOrder in_agents (lines ++ line ∷ [])
  first_ask : {lines : List (List ℕ)} (line : List ℕ) → InOrder in_agents lines → ComesNext lines line (codes "ask")
      → InOrder in_asks (lines ++ line ∷ [])
  ask_comes : {lines : List (List ℕ)} (line : List ℕ) → InOrder in_asks lines → ComesNext lines line (codes "ask")
      → InOrder in_asks (lines ++ line ∷ [])
