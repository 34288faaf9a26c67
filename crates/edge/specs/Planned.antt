-- A source and a sink over memory whose calls with some numbers fail, as their callers see them.
use Rattle.std.specs.Prelude.{ℕ, ◌+◌, ◌-◌, ◌^◌, min, List, Contains}

pub record PlannedIn : Type 0 where
  -- the bytes that are left
  pub left : List ℕ
  -- the most bytes that a read gives
  pub piece : ℕ
  -- how many reads there were
  pub reads : ℕ
  -- the numbers of the reads that fail, counted from 1
  pub failing : List ℕ
  -- how many reads failed
  pub faults : ℕ

pub record PlannedOut : Type 0 where
  -- the bytes that it took
  pub taken : List ℕ
  -- how many it takes in all
  pub room : ℕ
  -- the most bytes that a write takes
  pub piece : ℕ
  -- how many writes there were
  pub writes : ℕ
  -- the numbers of the writes that fail, counted from 1
  pub failing : List ℕ
  -- how many writes failed
  pub faults : ℕ

-- the number of the next call; a count of calls goes up to 2 ^ 64 - 1, where it stays
abbrev pub next_call : ℕ → ℕ
next_call calls = min (calls + 1) (2 ^ 64 - 1)

-- the next call is one of those that are to fail
abbrev pub FailsNext : List ℕ → ℕ → Type 0
FailsNext failing calls = Contains failing (next_call calls)
