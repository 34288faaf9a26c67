-- The limits of a list of clauses.
use Rattle.std.specs.Prelude.{ℕ, ◌^◌}

-- how many variables it may have
abbrev pub var_limit : ℕ
var_limit = 2 ^ 31

-- the literals of all its clauses are fewer
abbrev pub literal_limit : ℕ
literal_limit = 2 ^ 32

-- the numbers of its clauses are below it, so that 19 digits write them
abbrev pub clause_limit : ℕ
clause_limit = 2 ^ 63
