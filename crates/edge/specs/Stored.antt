-- A source over memory, as its callers see it.
use Rattle.std.specs.Prelude.{ℕ, List}

pub record Stored : Type 0 where
  -- the bytes that are left
  pub left : List ℕ
  -- the most bytes that a read gives
  pub piece : ℕ
  -- which read from now on fails, counted from 1; 0 where none does
  pub fails_in : ℕ
  -- how many reads failed
  pub faults : ℕ
