-- Clauses that refute assumptions.
use Rattle.std.specs.Prelude.{◌≡◌, true, List}
use Rattle.std.specs.List.{AllByRecursion}
use Rattle.clause_store.specs.declared.lit.Lit.{Lit}
use Rattle.clause_store.specs.Lits.{has, negated}

-- each literal of the clause is the negation of an assumption
abbrev pub Refutes : List Lit → List Lit → Type 0
Refutes clause assumptions = AllByRecursion (λ l. has (negated l) assumptions ≡ true) clause
