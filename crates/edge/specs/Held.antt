-- A sink into memory, as its callers see it.
use Rattle.std.specs.Prelude.{ℕ, List}

pub record Held : Type 0 where
  -- the bytes that it took
  pub taken : List ℕ
  -- how many it takes in all
  pub room : ℕ
  -- the most bytes that a write takes
  pub piece : ℕ
  -- how many writes failed
  pub faults : ℕ
