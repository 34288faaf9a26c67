-- What claims assume of a frame.
use Rattle.std.specs.Prelude.{◌≡◌, ℕ, zero, suc, ◌-◌, ◌<◌, ◌≤◌, Bool, true, List, [], ◌∷◌, ◌++◌, length, nat_lt, if◌then◌else◌, slice_index, slice_index_or}
use Rattle.std.specs.List.{AllByRecursion}
use Rattle.clause_store.specs.declared.lit.Lit.{Lit}
use Rattle.clause_store.specs.Lits.{positive_lit, negative_lit, negated}
use Rattle.clause_store.specs.Truth.{lit_true}
use Rattle.clause_store.specs.Truth.{AreTrue}
use Rattle.aggregators.specs.Levels.{FitLevels}
use Rattle.merge_encoding.specs.declared.frame.Frame.{Frame}
use Rattle.merge_encoding.specs.MainDues.{MainDue}
use Rattle.merge_encoding.specs.Frames.{frame_of, copy_in, roots_in}
use Rattle.merge_encoding.specs.Claims.{Assertion, NoModelOfConstraint, NoModelOfBase, NoNearer, NoBetter, NoBreaker, NoModelWith}

-- the literals that say that the first variables of the list have these values
abbrev pub signed : List Lit → List Bool → List Lit
signed [] w = []
signed (l ∷ ls) [] = []
signed (l ∷ ls) (x ∷ w) = record { var = l.var; positive = x } ∷ signed ls w

-- a counter is at most a value: nothing is assumed where it always is
abbrev pub at_most_lits : List ℕ → ℕ → List Lit
at_most_lits outputs x = if nat_lt x (length outputs) then negative_lit (slice_index outputs x) ∷ [] else []

-- each level is at most its value
abbrev pub each_at_most : List (List ℕ) → List ℕ → List Lit
each_at_most [] values = []
each_at_most (l ∷ ls) [] = []
each_at_most (l ∷ ls) (x ∷ values) = at_most_lits l x ++ each_at_most ls values

-- the levels before level j are at most their values, and level j is below its value
abbrev pub better_lits : ℕ → List (List ℕ) → List ℕ → List Lit
better_lits j [] values = []
better_lits j (l ∷ ls) [] = []
better_lits zero (l ∷ ls) (x ∷ values) = negative_lit (slice_index l (x - 1)) ∷ []
better_lits (suc j) (l ∷ ls) (x ∷ values) = at_most_lits l x ++ better_lits j ls values

-- what a claim assumes: that it is false
abbrev pub assumed_in : Frame → Assertion → List Lit
assumed_in f NoModelOfConstraint = f.constraint ∷ []
assumed_in f (NoModelOfBase i) = (copy_in f.copies i).root ∷ []
assumed_in f (NoNearer i v k) = signed f.shared v ++ ((copy_in f.copies i).root ∷ negative_lit (slice_index (copy_in f.copies i).away (k - 1)) ∷ [])
assumed_in f (NoBetter j values) = roots_in f ++ better_lits j f.levels values
assumed_in f (NoBreaker q values) = roots_in f ++ (each_at_most f.levels values ++ negated (slice_index_or f.asks q (positive_lit 0)) ∷ [])
assumed_in f (NoModelWith values prefix) = roots_in f ++ (each_at_most f.levels values ++ signed f.shared prefix)

-- agents, queries and levels are numbered from 0 and are there; a valuation has a value for each shared literal, and a
-- prefix no more; a distance is from 1 to its counter's length; there is a value for each level, at most its length, and
-- at least 1 where a lower one is looked for
abbrev pub IsProperIn : Frame → Assertion → Type 0
IsProperIn f NoModelOfConstraint = Unit {0}
IsProperIn f (NoModelOfBase i) = i < length f.copies
IsProperIn f (NoNearer i v k) = (i < length f.copies) × (length v ≡ length f.shared) × (1 ≤ k) × (k ≤ length (copy_in f.copies i).away)
IsProperIn f (NoBetter j values) = (j < length f.levels) × FitLevels values f.levels × (1 ≤ slice_index values j)
IsProperIn f (NoBreaker q values) = (q < length f.asks) × FitLevels values f.levels
IsProperIn f (NoModelWith values prefix) = FitLevels values f.levels × (length prefix ≤ length f.shared)

-- the same of what is due
abbrev pub assumed : MainDue → Assertion → List Lit
assumed main claim = assumed_in (frame_of main) claim

abbrev pub IsProper : MainDue → Assertion → Type 0
IsProper main claim = IsProperIn (frame_of main) claim

abbrev pub AllTrue : (ℕ → Bool) → List Lit → Type 0
AllTrue b ls = AllByRecursion (λ l. lit_true b l ≡ true) ls

-- no assignment satisfies the main clauses with the assumptions
abbrev pub NoneSatisfies : MainDue → List Lit → Type 0
NoneSatisfies main lits = (b : ℕ → Bool) → AreTrue main.clauses b → AllTrue b lits → ⊥
