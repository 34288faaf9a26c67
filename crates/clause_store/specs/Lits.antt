-- Literals, and clauses as lists of literals in rising order.
use Rattle.std.specs.Prelude.{◌≡◌, ℕ, ◌+◌, ◌*◌, ◌<◌, ◌≤◌, Bool, true, false, not, if◌then◌else◌, List, [], ◌∷◌, nat_lt, ◌==◌, ◌||◌}
use Rattle.std.specs.List.{AllByRecursion}
use Rattle.clause_store.specs.declared.lit.Lit.{Lit}

-- a number that orders the literals: by variable, positive first
abbrev pub rank_of : Lit → ℕ
rank_of l = 2 * l.var + (if l.positive then 0 else 1)

abbrev pub positive_lit : ℕ → Lit
positive_lit v = record { var = v; positive = true }

abbrev pub negative_lit : ℕ → Lit
negative_lit v = record { var = v; positive = false }

-- the literal of the same variable with the other sign
abbrev pub negated : Lit → Lit
negated l = record l { positive = not l.positive }

abbrev pub same_lit : Lit → Lit → Bool
same_lit l m = rank_of l == rank_of m

-- the literal comes before each of the list
abbrev pub IsBelow : Lit → List Lit → Type 0
IsBelow l [] = Unit {0}
IsBelow l (m ∷ ms) = (rank_of l < rank_of m) × IsBelow l ms

-- the literals are in rising order, so each comes once
abbrev pub Ascends : List Lit → Type 0
Ascends [] = Unit {0}
Ascends (l ∷ ls) = IsBelow l ls × Ascends ls

-- the variable is one of the variables 1 to v
abbrev pub IsWithin : ℕ → Lit → Type 0
IsWithin v l = (1 ≤ l.var) × (l.var ≤ v)

-- each literal of the clause is within 1 to v
abbrev pub InRange : ℕ → List Lit → Type 0
InRange v ls = AllByRecursion (IsWithin v) ls

-- each literal of each clause is within 1 to v
abbrev pub AreInRange : ℕ → List (List Lit) → Type 0
AreInRange v cs = AllByRecursion (InRange v) cs

-- whether a literal is in the clause
abbrev pub has : Lit → List Lit → Bool
has l [] = false
has l (m ∷ ms) = same_lit l m || has l ms

-- each literal of the second clause is in the first
abbrev pub Includes : List Lit → List Lit → Type 0
Includes d c = (l : Lit) → has l c ≡ true → has l d ≡ true

-- the clause without a literal
abbrev pub without : Lit → List Lit → List Lit
without p [] = []
without p (l ∷ ls) = if same_lit l p then without p ls else l ∷ without p ls

-- the clause with a literal, in its place
abbrev pub with_lit : Lit → List Lit → List Lit
with_lit l [] = l ∷ []
with_lit l (m ∷ ms) = if nat_lt (rank_of l) (rank_of m) then l ∷ m ∷ ms else (if same_lit l m then m ∷ ms else m ∷ with_lit l ms)

-- the literals of both clauses
abbrev pub joined : List Lit → List Lit → List Lit
joined [] ms = ms
joined (l ∷ ls) ms = with_lit l (joined ls ms)

-- what resolution makes of two clauses on a literal of the first
abbrev pub resolvent : Lit → List Lit → List Lit → List Lit
resolvent p c d = joined (without p c) (without (negated p) d)

-- the clause with each literal of the list
abbrev pub sorted_onto : List Lit → List Lit → List Lit
sorted_onto done [] = done
sorted_onto done (l ∷ ls) = sorted_onto (with_lit l done) ls

-- the literals in rising order, each once
abbrev pub sorted_clause : List Lit → List Lit
sorted_clause ls = sorted_onto [] ls
