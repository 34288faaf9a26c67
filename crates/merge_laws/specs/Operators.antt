-- Merging as an operator on constraints and bases.
use Rattle.std.specs.Prelude.{◌≡◌, ◌≢◌, ℕ, ◌≤◌, Bool, List, [], length, map}
use Rattle.std.specs.List.{AllZip}
use Rattle.std.specs.List.Sorted.{IsPermutation}
use Rattle.formulas.specs.declared.formula.Formula.{Formula}
use Rattle.formulas.specs.Formulas.{holds}
use Rattle.formulas.specs.Limits.{valuation_limit}
use Rattle.merge_model.specs.Merging.{IsClosest}

-- over so many atoms, for a constraint and a list of bases: which valuations result
abbrev pub Operator : Type 1
Operator = ℕ → Formula → List Formula → List Bool → Type 0

-- M(c,E): the closest valuations for the constraint c and the bases E, each of which counts once
abbrev pub merging : (List Bool → List Bool → ℕ) → (List ℕ → List ℕ) → Operator
merging dist rank n c E = IsClosest dist rank (record { atoms = n; constraint = c; times = map (λ _. 1) E; bases = E })

-- from 1 to `valuation_limit` atoms, and at least one base
pub record IsGroup (n : ℕ) (E : List Formula) : Type 0 where
  pub some_atom : 1 ≤ n
  pub few_atoms : n ≤ valuation_limit
  pub some_base : E ≢ []

-- two formulas have the same models
abbrev pub HaveSameModels : ℕ → Formula → Formula → Type 0
HaveSameModels n f g = (w : List Bool) → length w ≡ n → holds f w ≡ holds g w

-- the second list is a permutation of one whose bases have, place by place, the models of the first
abbrev pub AreEquivalent : ℕ → List Formula → List Formula → Type 0
AreEquivalent n E G = (F : List Formula) × AllZip (HaveSameModels n) E F × IsPermutation F G
