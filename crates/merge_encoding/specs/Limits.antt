-- How many variables the copy of an agent may take.
use Rattle.std.specs.Prelude.{ℕ, ◌+◌}
use Rattle.formulas.specs.Limits.{valuation_limit, node_limit}
use Rattle.agent_copies.specs.Limits.{counter_room}

-- own variables, the nodes of the base, and the counter of the distance
abbrev pub copy_room : ℕ
copy_room = valuation_limit + node_limit + counter_room
