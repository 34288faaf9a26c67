-- A number that is counted up to the cap at each digit.
use Rattle.std.proofs.Common.{◌≡◌, ℕ, ◌+◌, ◌-◌, ◌*◌, List, [], ◌∷◌, min, arith}
use Rattle.problem_lines.specs.Numerals.{times_cap, value_after}

pub capped_value : (n m : ℕ) (w : List ℕ) → min n times_cap ≡ min m times_cap → min (value_after n w) times_cap ≡ min (value_after m w) times_cap
capped_value n m [] e = e
capped_value n m (b ∷ w) e = capped_value (n * 10 + (b - 48)) (m * 10 + (b - 48)) w (omega (arith, e))

pub value_step : (n b : ℕ) (w : List ℕ) → min (value_after (min (n * 10 + (b - 48)) times_cap) w) times_cap ≡ min (value_after n (b ∷ w)) times_cap
value_step n b w = capped_value (min (n * 10 + (b - 48)) times_cap) (n * 10 + (b - 48)) w (omega arith)
