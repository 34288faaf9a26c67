-- Difference variables: one for each place of two lists of literals, true exactly where the two differ.
use Rattle.std.specs.Prelude.{ℕ, ◌+◌, List, [], ◌∷◌, ◌++◌, length}
use Rattle.clause_store.specs.declared.lit.Lit.{Lit}
use Rattle.clause_store.specs.Lits.{positive_lit, negated}
use Rattle.clause_store.specs.Fresh.{fresh_vars}
use Rattle.clause_translation.specs.Definition.{atom_lit}
use Rattle.totalizer.specs.Counter.{Due, leaves}
use Rattle.totalizer.specs.Joined.{joined_blocks}
use Rattle.totalizer.specs.Total.{total_due}
use Rattle.totalizer.specs.Either.{either_due}

-- e is true exactly where x and y differ
abbrev pub difference_clauses : Lit → Lit → Lit → List (List Lit)
difference_clauses e x y =
    (negated e ∷ x ∷ y ∷ []) ∷ (negated e ∷ negated x ∷ negated y ∷ []) ∷ (e ∷ negated x ∷ y ∷ []) ∷ (e ∷ x ∷ negated y ∷ []) ∷ []

-- the clauses of place i, whose variable is the one after v + i
abbrev pub difference_at : ℕ → List Lit → List Lit → ℕ → List (List Lit)
difference_at v xs ys i = difference_clauses (positive_lit (v + i + 1)) (atom_lit xs i) (atom_lit ys i)

-- all difference variables first, then what is due over them
abbrev pub after_differences : ℕ → List Lit → List Lit → Due → Due
after_differences v xs ys d = record { clauses = joined_blocks (difference_at v xs ys) (length xs) ++ d.clauses; vars = d.vars; outputs = d.outputs }

-- the number of places that differ: the total of the difference variables
abbrev pub hamming_due : ℕ → List Lit → List Lit → Due
hamming_due v xs ys = after_differences v xs ys (total_due (v + length xs) (leaves (fresh_vars v (length xs))))

-- whether some place differs: either of the difference variables
abbrev pub drastic_due : ℕ → List Lit → List Lit → Due
drastic_due v xs ys = after_differences v xs ys (either_due (v + length xs) (fresh_vars v (length xs)))
