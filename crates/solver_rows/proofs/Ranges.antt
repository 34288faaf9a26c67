-- Literals that are tested to be in range.
use Rattle.std.proofs.Common.{◌≡◌, ℕ, ◌&&◌, Bool, true, List, [], ◌∷◌, arith}
use Rattle.std.specs.Prelude.{nat_le}
use Rattle.std.specs.List.{list_all}
use Rattle.std.proofs.lemmas.Bool.Decides.{nat_tests}
use Rattle.clause_store.specs.declared.lit.Lit.{Lit}
use Rattle.clause_store.specs.Lits.{IsWithin, InRange}
use Rattle.clause_store.proofs.Truths.{and_left, and_right}

abbrev pub are_in : ℕ → List Lit → Bool
are_in v ls = list_all (λ (l : Lit). nat_le 1 l.var && nat_le l.var v) ls

is_within : (v : ℕ) (l : Lit) → nat_le 1 l.var && nat_le l.var v ≡ true → IsWithin v l
is_within v l h =
    let low = and_left (nat_le 1 l.var) (nat_le l.var v) h in
    let high = and_right (nat_le 1 l.var) (nat_le l.var v) h in
    (grind (arith, nat_tests), grind (arith, nat_tests))

pub in_range : (v : ℕ) (ls : List Lit) → are_in v ls ≡ true → InRange v ls
in_range v [] h = tt
in_range v (l ∷ ls) h =
    let test : Bool = nat_le 1 l.var && nat_le l.var v in
    (is_within v l (and_left test (are_in v ls) h), in_range v ls (and_right test (are_in v ls) h))
