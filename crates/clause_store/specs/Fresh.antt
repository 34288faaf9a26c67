-- Variables one after another.
use Rattle.std.specs.Prelude.{ℕ, zero, suc, ◌+◌, List, [], ◌∷◌, map}
use Rattle.clause_store.specs.declared.lit.Lit.{Lit}
use Rattle.clause_store.specs.Lits.{positive_lit}

-- the n variables after v
abbrev pub fresh_vars : ℕ → ℕ → List ℕ
fresh_vars v zero = []
fresh_vars v (suc n) = (v + 1) ∷ fresh_vars (v + 1) n

-- their positive literals
abbrev pub fresh_lits : ℕ → ℕ → List Lit
fresh_lits v n = map positive_lit (fresh_vars v n)
