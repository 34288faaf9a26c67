-- The limit of counters of distances.
use Rattle.std.specs.Prelude.{ℕ, ◌^◌}

-- how many fresh variables the counter of one distance may take
abbrev pub counter_room : ℕ
counter_room = 2 ^ 16
