-- Steps of the loop over places, and what the counters' calls need.
use Rattle.std.proofs.Common.{◌≡◌, ℕ, ◌+◌, ◌<◌, List, ◌++◌, length, ap, ◌∙◌, subst, arith}
use Rattle.std.specs.Prelude.{map, slice_index_or}
use Rattle.std.proofs.lemmas.List.{get_or_default}
use Rattle.clause_store.specs.declared.lit.Lit.{Lit}
use Rattle.clause_store.specs.Lits.{positive_lit, sorted_clause}
use Rattle.clause_store.specs.Clauses.{Clauses}
use Rattle.clause_store.specs.Grew.{Grew}
use Rattle.clause_store.proofs.Grows.{grew_none, grew_vars}
use Rattle.clause_translation.specs.Definition.{atom_lit}
use Rattle.totalizer.specs.Joined.{joined_blocks}
use Rattle.agent_copies.specs.Differences.{difference_clauses, difference_at}

-- the clauses of one place
pub place_is : (v i : ℕ) (xs ys : List Lit) (e d c : Lit) → i < length xs → i < length ys → e ≡ positive_lit (v + i + 1) → difference_clauses e (slice_index_or xs i d) (slice_index_or ys i c) ≡ difference_at v xs ys i
place_is v i xs ys e d c lx ly is =
    ap (λ l. difference_clauses l (slice_index_or xs i d) (slice_index_or ys i c)) is
    ∙ ap (λ l. difference_clauses (positive_lit (v + i + 1)) l (slice_index_or ys i c)) (get_or_default xs i d (positive_lit 0) lx)
    ∙ ap (λ l. difference_clauses (positive_lit (v + i + 1)) (atom_lit xs i) l) (get_or_default ys i c (positive_lit 0) ly)

pub place_grew : (v i : ℕ) (xs ys : List Lit) (e d c : Lit) (now new : Clauses) → i < length xs → i < length ys → e ≡ positive_lit (v + i + 1) → Grew now new (difference_clauses e (slice_index_or xs i d) (slice_index_or ys i c)) → Grew now new (difference_at v xs ys i)
place_grew v i xs ys e d c now new lx ly is g = subst (λ cs. Grew now new cs) (place_is v i xs ys e d c lx ly is) g

pub place_list : (v i : ℕ) (xs ys : List Lit) (e d c : Lit) (now new : List (List Lit)) → i < length xs → i < length ys → e ≡ positive_lit (v + i + 1) → new ≡ now ++ map sorted_clause (difference_clauses e (slice_index_or xs i d) (slice_index_or ys i c)) → new ≡ now ++ map sorted_clause (difference_at v xs ys i)
place_list v i xs ys e d c now new lx ly is g = g ∙ ap (λ cs. now ++ map sorted_clause cs) (place_is v i xs ys e d c lx ly is)

-- fresh variables first, and then the clauses of the differences
module _ (old mid : Clauses) (base : ℕ) (xs ys : List Lit) (fresh : mid ≡ record old { vars = old.vars + length xs }) (at : base ≡ old.vars) where
  mid_list : mid.list ≡ old.list
  mid_list = ap (λ (s : Clauses). s.list) fresh

  pub mid_vars : mid.vars ≡ old.vars + length xs
  mid_vars = ap (λ (s : Clauses). s.vars) fresh

  pub fresh_grew : (due : List (List Lit)) → Grew old mid due
  fresh_grew due = grew_none old mid due mid_list (omega (arith, mid_vars))

  pub differences_grew : (new : Clauses) → Grew mid new (joined_blocks (difference_at base xs ys) (length xs)) → Grew old new (joined_blocks (difference_at old.vars xs ys) (length xs))
  differences_grew new g =
      grew_vars old mid new (joined_blocks (difference_at old.vars xs ys) (length xs)) mid_list (omega (arith, mid_vars))
      (subst (λ v. Grew mid new (joined_blocks (difference_at v xs ys) (length xs))) at g)

  pub differences_list : (new : List (List Lit)) → new ≡ mid.list ++ map sorted_clause (joined_blocks (difference_at base xs ys) (length xs)) → new ≡ old.list ++ map sorted_clause (joined_blocks (difference_at old.vars xs ys) (length xs))
  differences_list new e =
      e ∙ ap (λ cs. cs ++ map sorted_clause (joined_blocks (difference_at base xs ys) (length xs))) mid_list
      ∙ ap (λ v. old.list ++ map sorted_clause (joined_blocks (difference_at v xs ys) (length xs))) at
