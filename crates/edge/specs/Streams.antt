-- What the calls of a source and a sink do.
use Rattle.std.specs.Prelude.{◌≡◌, ℕ, ◌+◌, ◌^◌, ◌<◌, ◌≤◌, List, length, Option, None, Some, Result, MatchResult, IfOk}
use Rattle.std.specs.Io.KnownBytes.{Consumes}

-- the room loses as many bytes as a read gave, and none at an error
abbrev pub Spends : {E : Type 0} → ℕ → ℕ → Result ℕ E → Type 0
Spends before now result = MatchResult result (λ count. count + now ≡ before) (λ _. now ≡ before)

-- the most bytes that one read asks for
abbrev pub piece_limit : ℕ
piece_limit = 4096

-- the most bytes that a stream of the system gives
abbrev pub stream_limit : ℕ
stream_limit = 2 ^ 40

-- more than the limit, where there is one
abbrev pub Exceeds : Option ℕ → ℕ → Type 0
Exceeds None count = ⊥
Exceeds (Some limit) count = limit < count

-- a write takes some of a piece that is not empty
abbrev pub TakesSome : {E : Type 0} → Result ℕ E → List ℕ → Type 0
TakesSome result piece = IfOk result (λ count. (count ≤ length piece) × (0 < length piece → 0 < count))

-- a source gave these bytes and no others: its known bytes lost them, and its room lost as many
pub record Gave (left_before left_now : Option (List ℕ)) (room_before room_now : ℕ) (bytes : List ℕ) : Type 0 where
  pub known : Consumes left_before left_now bytes
  pub count : length bytes + room_now ≡ room_before
