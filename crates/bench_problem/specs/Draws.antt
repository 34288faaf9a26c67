-- The numbers that are drawn from a state.
use Rattle.std.specs.Prelude.{ℕ, zero, suc, ◌+◌, ◌*◌, ◌/◌, ◌%◌, ◌^◌, ◌==◌, Bool}

-- the state after one draw
unfoldable pub next_state : ℕ → ℕ
next_state state = (state * 6364136223846793005 + 1442695040888963407) % 2 ^ 64

-- the state after so many draws
unfoldable pub state_after : ℕ → ℕ → ℕ
state_after state zero = state
state_after state (suc draws) = next_state (state_after state draws)

-- the number that a state gives, below a bound
abbrev pub number_below : ℕ → ℕ → ℕ
number_below state bound = (state / 2 ^ 33) % bound

-- the number at a place among those that are drawn from a state, counted from 0
abbrev pub drawn : ℕ → ℕ → ℕ → ℕ
drawn state place bound = number_below (state_after state (place + 1)) bound

-- that number below 2, as a truth value
abbrev pub drawn_bit : ℕ → ℕ → Bool
drawn_bit state place = drawn state place 2 == 1
