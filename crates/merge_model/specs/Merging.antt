-- Merging under a constraint, after Konieczny and Pino Pérez, "Merging Information Under Constraints",
-- 2002. A valuation is a list of truth values. `dist` is a distance and `rank` the rank of an
-- aggregator. All valuations over n atoms, in rising order, are `all_words n`.
use Rattle.std.specs.Prelude.{◌≡◌, ℕ, Bool, true, List, [], ◌∷◌, ◌++◌, length, map, filter, min, replicate, take, All, Any, ◌⊎◌, Option, None, Some}
use Rattle.formulas.specs.declared.formula.Formula.{Formula}
use Rattle.formulas.specs.Formulas.{holds}
use Rattle.formulas.specs.Words.{all_words, IsBefore}
use Rattle.ranks.specs.Ranks.{IsNoWorse}

-- a constraint and bases over n atoms, each base with the number of times that it counts. The paper
-- merges a multiset of bases; here each base is one formula (this project's choice)
pub record Profile : Type 0 where
  pub atoms : ℕ
  pub constraint : Formula
  pub times : List ℕ
  pub bases : List Formula

-- the valuation has n values, and the formula is true there
pub record IsModel (n : ℕ) (formula : Formula) (v : List Bool) : Type 0 where
  pub size : length v ≡ n
  pub true_there : holds formula v ≡ true

abbrev pub HasModel : ℕ → Formula → Type 0
HasModel n formula = (v : List Bool) × IsModel n formula v

-- the models of a formula, in rising order (the order is this project's choice)
abbrev pub models_of : ℕ → Formula → List (List Bool)
models_of n formula = filter (holds formula) (all_words n)

-- the least number of a list, 0 where it is empty
abbrev pub least_of : List ℕ → ℕ
least_of [] = 0
least_of (k ∷ []) = k
least_of (k ∷ l ∷ rest) = min k (least_of (l ∷ rest))

-- the distance from a valuation to a base that has a model: the least distance to one (the paper)
abbrev pub away : (List Bool → List Bool → ℕ) → List Bool → Formula → ℕ
away dist v base = least_of (map (dist v) (models_of (length v) base))

-- the vector of a valuation: its distance to each base, in order (the paper)
abbrev pub vector_of : (List Bool → List Bool → ℕ) → List Formula → List Bool → List ℕ
vector_of dist bases v = map (away dist v) bases

-- each entry as often as its number of times says, in order
abbrev pub repeated : {X : Type 0} → List ℕ → List X → List X
repeated [] us = []
repeated (t ∷ times) [] = []
repeated (t ∷ times) (u ∷ us) = replicate t u ++ repeated times us

-- the full vector of a valuation, which is what is compared (the paper's multiset of distances)
abbrev pub full_of : (List Bool → List Bool → ℕ) → Profile → List Bool → List ℕ
full_of dist p v = repeated p.times (vector_of dist p.bases v)

-- the constraint or some base has no model
abbrev pub LacksModel : Profile → Type 0
LacksModel p = (HasModel p.atoms p.constraint → ⊥) ⊎ Any (λ base. HasModel p.atoms base → ⊥) p.bases

-- a closest valuation (the paper's models of the merged base): every base has a model, it satisfies the
-- constraint, and it is no worse than any other valuation that does
pub record IsClosest (dist : List Bool → List Bool → ℕ) (rank : List ℕ → List ℕ) (p : Profile) (v : List Bool) : Type 0 where
  pub consistent : All (HasModel p.atoms) p.bases
  pub model : IsModel p.atoms p.constraint v
  pub best : (w : List Bool) → IsModel p.atoms p.constraint w → IsNoWorse rank (full_of dist p v) (full_of dist p w)

-- the formula is true at every closest valuation
abbrev pub IsEntailed : (List Bool → List Bool → ℕ) → (List ℕ → List ℕ) → Profile → Formula → Type 0
IsEntailed dist rank p formula = (v : List Bool) → IsClosest dist rank p v → holds formula v ≡ true

-- the second list has exactly the members of the first with the property, in order
abbrev pub Keeps : {X : Type 0} → (X → Type 0) → List X → List X → Type 0
Keeps P [] kept = kept ≡ []
Keeps {X} P (x ∷ xs) kept = (P x × (rest : List X) × (kept ≡ x ∷ rest) × Keeps P xs rest) ⊎ ((P x → ⊥) × Keeps P xs kept)

-- the valuation is above the one that is given; every valuation is above none
abbrev pub IsAbove : Option (List Bool) → List Bool → Type 0
IsAbove None v = Unit {0}
IsAbove (Some after) v = IsBefore after v

-- the first k closest valuations above the one that is given, in rising order, or all such where they
-- are fewer (this project's choice)
abbrev pub IsListed : (List Bool → List Bool → ℕ) → (List ℕ → List ℕ) → Profile → Option (List Bool) → ℕ → List (List Bool) → Type 0
IsListed dist rank p after k listed =
    (closest : List (List Bool)) × Keeps (λ v. IsClosest dist rank p v × IsAbove after v) (all_words p.atoms) closest × (listed ≡ take k closest)
