-- Clauses that define variables: unique extension.
use Rattle.std.specs.Prelude.{◌≡◌, ℕ, ◌<◌, ◌≤◌, Bool}
use Rattle.clause_store.specs.Truth.{Agree}

-- each assignment of the variables up to v under which the premise holds extends in exactly one way
-- to the variables up to w so that the rule holds
pub record Extends (premise rule : (ℕ → Bool) → Type 0) (v w : ℕ) : Type 0 where
  pub grows : v ≤ w
  pub given : (a b : ℕ → Bool) → Agree v a b → premise a → premise b
  pub within : (a b : ℕ → Bool) → Agree w a b → rule a → rule b
  pub some : (a : ℕ → Bool) → premise a → (b : ℕ → Bool) × Agree v a b × rule b
  pub one : (b c : ℕ → Bool) → premise b → Agree v b c → rule b → rule c → Agree w b c

-- a premise of nothing
abbrev pub Always : (ℕ → Bool) → Type 0
Always a = Unit {0}

-- the variables above v, up to w, have values that those up to v determine
abbrev pub AreDefined : ℕ → ℕ → ((ℕ → Bool) → ℕ → Bool) → (ℕ → Bool) → Type 0
AreDefined v w f b = (k : ℕ) → v < k → k ≤ w → b k ≡ f b k
