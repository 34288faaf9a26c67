-- The claims on a problem, and what they say.
use Rattle.std.specs.Prelude.{◌≡◌, ℕ, zero, suc, ◌<◌, ◌≤◌, Bool, false, List, [], ◌∷◌, length, map, take, slice_index_or}
use Rattle.std.specs.List.{AllZip}
use Rattle.formulas.specs.declared.formula.Formula.{Formula}
use Rattle.formulas.specs.declared.formula.Formula as formula
use Rattle.formulas.specs.Formulas.{holds}
use Rattle.merge_model.specs.Merging.{Profile, IsModel, HasModel, repeated}
use Rattle.merge_encoding.specs.declared.claim.Claim.{Claim}
use Rattle.merge_encoding.specs.declared.claim.Claim.TheVariants as ours

-- what a claim says, as data that has no memory
pub data Assertion : Type 0 where
  NoModelOfConstraint : Assertion
  NoModelOfBase : ℕ → Assertion
  NoNearer : ℕ → List Bool → ℕ → Assertion
  NoBetter : ℕ → List ℕ → Assertion
  NoBreaker : ℕ → List ℕ → Assertion
  NoModelWith : List ℕ → List Bool → Assertion

abbrev pub said : Claim → Assertion
said ours.NoModelOfConstraint = NoModelOfConstraint
said (ours.NoModelOfBase i) = NoModelOfBase i
said (ours.NoNearer i v k) = NoNearer i v k
said (ours.NoBetter j values) = NoBetter j values
said (ours.NoBreaker q values) = NoBreaker q values
said (ours.NoModelWith values prefix) = NoModelWith values prefix

-- a model of the constraint, and one of each base
pub record IsCandidate (p : Profile) (v : List Bool) (ws : List (List Bool)) : Type 0 where
  pub model : IsModel p.atoms p.constraint v
  pub models : AllZip (IsModel p.atoms) p.bases ws

-- at most the values before place j, and below the value there
abbrev pub IsBetterAt : ℕ → List ℕ → List ℕ → Type 0
IsBetterAt j [] values = ⊥
IsBetterAt j (u ∷ us) [] = ⊥
IsBetterAt zero (u ∷ us) (x ∷ values) = u < x
IsBetterAt (suc j) (u ∷ us) (x ∷ values) = (u ≤ x) × IsBetterAt j us values

-- at most the values, place by place
abbrev pub AreUpTo : List ℕ → List ℕ → Type 0
AreUpTo us values = AllZip (λ u x. u ≤ x) us values

abbrev pub base_at : Profile → ℕ → Formula
base_at p i = slice_index_or p.bases i formula.Top

abbrev pub ask_at : List Formula → ℕ → Formula
ask_at asks q = slice_index_or asks q formula.Top

abbrev pub own_at : List (List Bool) → ℕ → List Bool
own_at ws i = slice_index_or ws i []

-- the level values of the repeated distances of valuations ws from v
abbrev pub values_at : (List Bool → List Bool → ℕ) → ℕ → (List ℕ → ℕ → List ℕ) → Profile → List Bool → List (List Bool) → List ℕ
values_at dist top values_of p v ws = values_of (repeated p.times (map (dist v) ws)) top

-- when a claim is true
abbrev pub IsTrueThat : (List Bool → List Bool → ℕ) → ℕ → (List ℕ → ℕ → List ℕ) → Profile → List Formula → Assertion → Type 0
IsTrueThat dist top values_of p asks NoModelOfConstraint = HasModel p.atoms p.constraint → ⊥
IsTrueThat dist top values_of p asks (NoModelOfBase i) = HasModel p.atoms (base_at p i) → ⊥
IsTrueThat dist top values_of p asks (NoNearer i v k) = (w : List Bool) → IsModel p.atoms (base_at p i) w → k ≤ dist v w
IsTrueThat dist top values_of p asks (NoBetter j values) = (v : List Bool) (ws : List (List Bool)) → IsCandidate p v ws → IsBetterAt j (values_at dist top values_of p v ws) values → ⊥
IsTrueThat dist top values_of p asks (NoBreaker q values) = (v : List Bool) (ws : List (List Bool)) → IsCandidate p v ws → holds (ask_at asks q) v ≡ false → AreUpTo (values_at dist top values_of p v ws) values → ⊥
IsTrueThat dist top values_of p asks (NoModelWith values prefix) = (v : List Bool) (ws : List (List Bool)) → IsCandidate p v ws → take (length prefix) v ≡ prefix → AreUpTo (values_at dist top values_of p v ws) values → ⊥

-- the valuations show that a claim is false: v of the shared atoms, and ws of the agents
abbrev pub Breaks : (List Bool → List Bool → ℕ) → ℕ → (List ℕ → ℕ → List ℕ) → Profile → List Formula → Assertion → List Bool → List (List Bool) → Type 0
Breaks dist top values_of p asks NoModelOfConstraint v ws = IsModel p.atoms p.constraint v
Breaks dist top values_of p asks (NoModelOfBase i) v ws = IsModel p.atoms (base_at p i) (own_at ws i)
Breaks dist top values_of p asks (NoNearer i u k) v ws = (v ≡ u) × IsModel p.atoms (base_at p i) (own_at ws i) × (dist u (own_at ws i) < k)
Breaks dist top values_of p asks (NoBetter j values) v ws = IsCandidate p v ws × IsBetterAt j (values_at dist top values_of p v ws) values
Breaks dist top values_of p asks (NoBreaker q values) v ws = IsCandidate p v ws × (holds (ask_at asks q) v ≡ false) × AreUpTo (values_at dist top values_of p v ws) values
Breaks dist top values_of p asks (NoModelWith values prefix) v ws = IsCandidate p v ws × (take (length prefix) v ≡ prefix) × AreUpTo (values_at dist top values_of p v ws) values
