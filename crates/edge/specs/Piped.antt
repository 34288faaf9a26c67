-- A source or a sink over a stream of the system, as its callers see it.
use Rattle.std.specs.Prelude.{ℕ}

pub record PipedIn (R : Type 0) : Type 0 where
  pub input : R
  -- how many bytes it may still give
  pub room : ℕ
  -- how many reads failed
  pub faults : ℕ

pub record PipedOut (W : Type 0) : Type 0 where
  pub output : W
  -- how many writes failed
  pub faults : ℕ
