-- How many fresh variables levels may take.
use Rattle.std.specs.Prelude.{ℕ, ◌^◌}

-- the total of the outputs of one number
abbrev pub level_room : ℕ
level_room = 4096

-- all levels
abbrev pub levels_room : ℕ
levels_room = 2 ^ 24
