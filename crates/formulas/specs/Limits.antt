-- The limits on a problem, and the length of a valuation. They are this project's own choice.
use Rattle.std.specs.Prelude.{ℕ}

-- the most bytes of the name of an atom or an agent
abbrev pub name_limit : ℕ
name_limit = 64

-- the most atoms of a problem
abbrev pub atom_limit : ℕ
atom_limit = 32

-- the most atoms of a valuation
abbrev pub valuation_limit : ℕ
valuation_limit = 64

-- the greatest depth of a formula
abbrev pub depth_limit : ℕ
depth_limit = 128

-- the most nodes of the constraint, the bases and the queries together
abbrev pub node_limit : ℕ
node_limit = 4096

-- the most agents
abbrev pub agent_limit : ℕ
agent_limit = 32

-- how often all agents may count together
abbrev pub times_limit : ℕ
times_limit = 32

-- the most queries
abbrev pub ask_limit : ℕ
ask_limit = 16
