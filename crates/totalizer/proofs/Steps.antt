-- Steps of the loops over clauses that are joined.
use Rattle.std.proofs.Common.{◌≡◌, ℕ, zero, suc, ◌+◌, ◌<◌, ◌≤◌, List, ◌++◌, length, sym, ap, ◌∙◌, subst, arith, add-one, append_assoc, inl, inr}
use Rattle.std.specs.List.{All}
use Rattle.std.proofs.lemmas.Bool.Decides.{leb_tells}
use Rattle.std.specs.Prelude.{map}
use Rattle.clause_store.specs.declared.lit.Lit.{Lit}
use Rattle.clause_store.specs.Lits.{sorted_clause}
use Rattle.clause_store.specs.Clauses.{Clauses}
use Rattle.clause_store.specs.Grew.{Grew}
use Rattle.clause_store.proofs.Grows.{stored-append, grew_front, grew_next}
use Rattle.clause_store.specs.Fresh.{fresh_vars}
use Rattle.clause_store.proofs.Fresh.{length-fresh_vars, fresh_vars_positive}
use Rattle.clause_store.specs.Limits.{var_limit}
use Rattle.totalizer.specs.Joined.{joined_blocks}

-- one more list
pub joined_more : (f : ℕ → List (List Lit)) (j : ℕ) (old now new : List (List Lit)) → now ≡ old ++ map sorted_clause (joined_blocks f j) → new ≡ now ++ map sorted_clause (f j) → new ≡ old ++ map sorted_clause (joined_blocks f (j + 1))
joined_more f j old now new e h =
    rw (add-one j) (cc (append_assoc old (map sorted_clause (joined_blocks f j)) (map sorted_clause (f j)), stored-append (joined_blocks f j) (f j)))

-- the rest is due still
joined_rest : (f : ℕ → List (List Lit)) (j n : ℕ) (old new : Clauses) → j ≤ n → Grew old new (joined_blocks f j) → Grew old new (joined_blocks f n)
joined_rest f j zero old new le g = let e : j ≡ 0 = omega arith in subst (λ k. Grew old new (joined_blocks f k)) e g
joined_rest f j (suc n) old new le g =
    elim (leb_tells j n) [
      | inl x ↦ grew_front old new (joined_blocks f n) (f n) (joined_rest f j n old new x.1 g)
      | inr x ↦ (let e : j ≡ suc n = let y = x.1 in omega arith in subst (λ k. Grew old new (joined_blocks f k)) e g)
    ]

-- a refusal in one of the lists
pub joined_grew : (f : ℕ → List (List Lit)) (j n : ℕ) (old now new : Clauses) → now.list ≡ old.list ++ map sorted_clause (joined_blocks f j) → old.vars ≤ now.vars → j < n → Grew now new (f j) → Grew old new (joined_blocks f n)
joined_grew f j n old now new e le lt g = joined_rest f (suc j) n old new (omega arith) (grew_next old now new (joined_blocks f j) (f j) e le g)

pub invariant_fresh : (v n : ℕ) (xs : List ℕ) → xs ≡ fresh_vars v n → 1 ≤ n → n ≤ var_limit → (1 ≤ length xs) × (length xs ≤ var_limit) × All (λ x. 1 ≤ x) xs
invariant_fresh v n xs e lo hi =
    let l : length xs ≡ n = ap length e ∙ length-fresh_vars v n in
    (omega arith, omega arith, subst (λ ys. All (λ x. 1 ≤ x) ys) (sym e) (fresh_vars_positive v n))
