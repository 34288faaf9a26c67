-- The clauses of a sum of many counters, by halves.
use Rattle.std.specs.Prelude.{◌≡◌, ℕ, zero, suc, ◌/◌, Bool, List, [], ◌∷◌, ◌++◌, length, take, drop, if◌then◌else◌, nat_le}
use Rattle.clause_store.specs.Truth.{AreTrue}
use Rattle.clause_store.specs.Extends.{Extends}
use Rattle.totalizer.specs.Counter.{Due, count_of, IsUnary, AllUnary, AreVarsWithin, sum_of}
use Rattle.totalizer.specs.Plus.{plus_due}

-- what is due for the front and for the back, and then their sum
abbrev pub both_due : Due → Due → Due
both_due front back =
    let both = plus_due back.vars front.outputs back.outputs in
    record { clauses = (front.clauses ++ back.clauses) ++ both.clauses; vars = both.vars; outputs = both.outputs }

abbrev pub first_of : List (List ℕ) → List ℕ
first_of [] = []
first_of (p ∷ ps) = p

-- no clause: the first part itself
abbrev pub alone_due : ℕ → List (List ℕ) → Due
alone_due v parts = record { clauses = []; vars = v; outputs = first_of parts }

-- at most `fuel` halvings, which the number of parts is enough for
abbrev pub total_by : ℕ → ℕ → List (List ℕ) → Due
total_by zero v parts = alone_due v parts
total_by (suc fuel) v parts =
    if nat_le (length parts) 1 then alone_due v parts else both_due (total_by fuel v (take (length parts / 2) parts)) (total_by fuel (total_by fuel v (take (length parts / 2) parts)).vars (drop (length parts / 2) parts))

-- what is due for the total of the parts, after v variables
abbrev pub total_due : ℕ → List (List ℕ) → Due
total_due v parts = total_by (length parts) v parts

-- where each part counts, the clauses hold in exactly one extension, and there the outputs count the sum of all parts
pub record IsTotal (v : ℕ) (parts : List (List ℕ)) (d : Due) : Type 0 where
  pub extends : Extends (λ b. AllUnary b parts) (AreTrue d.clauses) v d.vars
  pub within : AreVarsWithin d.vars d.outputs
  pub in_order : (b : ℕ → Bool) → AllUnary b parts → AreTrue d.clauses b → IsUnary b d.outputs
  pub value : (b : ℕ → Bool) → AllUnary b parts → AreTrue d.clauses b → count_of b d.outputs ≡ sum_of b parts
