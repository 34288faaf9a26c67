-- Blocks of clauses, one after another.
use Rattle.std.specs.Prelude.{ℕ, zero, suc, List, [], ◌++◌}
use Rattle.clause_store.specs.declared.lit.Lit.{Lit}

-- the blocks f 0 to f (n - 1)
abbrev pub joined_blocks : (ℕ → List (List Lit)) → ℕ → List (List Lit)
joined_blocks f zero = []
joined_blocks f (suc n) = joined_blocks f n ++ f n
