-- The clause of a number.
use Rattle.std.proofs.Common.{◌≡◌, ℕ, ◌<◌, List, [], ◌∷◌, ◌++◌, length, refl, ap, arith, zero, suc, Some, Option}
use Rattle.std.specs.Prelude.{slice_get, unwrap_or}
use Rattle.clause_store.specs.declared.lit.Lit.{Lit}
use Rattle.clause_store.specs.Clauses.{clause_at}

pub clause_at-get : (known : List (List Lit)) (n : ℕ) (c : List Lit) → slice_get known n ≡ Some c → clause_at known n ≡ c
clause_at-get known n c h = ap (λ (o : Option (List Lit)). unwrap_or o []) h

pub clause_at-within : (known : List (List Lit)) (n : ℕ) → n < length known → slice_get known n ≡ Some (clause_at known n)
clause_at-within [] n h = absurd (omega arith)
clause_at-within (c ∷ cs) zero h = refl
clause_at-within (c ∷ cs) (suc n) h = clause_at-within cs n (omega arith)

-- the front of a longer list
pub get_front : (xs ys : List (List Lit)) (n : ℕ) (c : List Lit) → slice_get xs n ≡ Some c → slice_get (xs ++ ys) n ≡ Some c
get_front [] ys n c e = absurd (cc)
get_front (x ∷ xs) ys zero c e = e
get_front (x ∷ xs) ys (suc n) c e = get_front xs ys n c e

-- the clause that was appended
pub get_seam : (xs : List (List Lit)) (c : List Lit) → slice_get (xs ++ c ∷ []) (length xs) ≡ Some c
get_seam [] c = refl
get_seam (x ∷ xs) c = get_seam xs c

-- a number has one clause
pub some_clause : (c d : List Lit) → (let x : Option (List Lit) = Some c in let y : Option (List Lit) = Some d in x ≡ y) → c ≡ d
some_clause c d e = cc
