-- The postulates IC0 to IC8 of Sébastien Konieczny and Ramón Pino Pérez, "Merging Information Under
-- Constraints: A Logical Framework", Journal of Logic and Computation, 2002, of any operator M.
use Rattle.std.specs.Prelude.{◌≡◌, ℕ, ◌↔◌, Bool, true, List, [], ◌∷◌, ◌++◌, All}
use Rattle.formulas.specs.declared.formula.Formula.{Formula}
use Rattle.formulas.specs.declared.formula.Formula.TheViews.{And}
use Rattle.formulas.specs.Formulas.{holds}
use Rattle.merge_model.specs.Merging.{IsModel, HasModel}
use Rattle.merge_laws.specs.Operators.{Operator, IsGroup, HaveSameModels, AreEquivalent}

-- IC0: each member of M(c,E) satisfies c
abbrev pub KeepsTheConstraint : Operator → Type 0
KeepsTheConstraint M = (n : ℕ) (c : Formula) (E : List Formula) (v : List Bool) → M n c E v → IsModel n c v

-- IC1: where c has a model and each base has one, M(c,E) has a member
abbrev pub HasAMember : Operator → Type 0
HasAMember M =
    (n : ℕ) (c : Formula) (E : List Formula) → IsGroup n E → All (HasModel n) E → HasModel n c →
    (v : List Bool) × M n c E v

-- IC2: where a valuation satisfies c and every base, M(c,E) has exactly those that do
abbrev pub IsConjunction : Operator → Type 0
IsConjunction M =
    (n : ℕ) (c : Formula) (E : List Formula) (u : List Bool) → IsGroup n E → IsModel n c u → All (λ f. IsModel n f u) E →
    (v : List Bool) → M n c E v ↔ (IsModel n c v × All (λ f. IsModel n f v) E)

-- IC3: neither the wording of c and of the bases nor the order of the bases matters
abbrev pub IgnoresWording : Operator → Type 0
IgnoresWording M =
    (n : ℕ) (c d : Formula) (E G : List Formula) → IsGroup n E → HaveSameModels n c d → AreEquivalent n E G →
    (v : List Bool) → M n c E v ↔ M n d G v

-- IC4: where each model of the bases k and l satisfies c, and a member of M(c,[k,l]) satisfies k, a
-- member satisfies l
abbrev pub IsFair : Operator → Type 0
IsFair M =
    (n : ℕ) (c k l : Formula) (v : List Bool) → IsGroup n (k ∷ l ∷ []) →
    ((w : List Bool) → IsModel n k w → IsModel n c w) → ((w : List Bool) → IsModel n l w → IsModel n c w) →
    M n c (k ∷ l ∷ []) v → holds k v ≡ true →
    (w : List Bool) × M n c (k ∷ l ∷ []) w × (holds l w ≡ true)

-- IC5: what is in M(c,E) and in M(c,F) is in M(c,E++F)
abbrev pub KeepsAgreement : Operator → Type 0
KeepsAgreement M =
    (n : ℕ) (c : Formula) (E F : List Formula) (v : List Bool) → IsGroup n E → IsGroup n F →
    M n c E v → M n c F v → M n c (E ++ F) v

-- IC6: where something is in M(c,E) and in M(c,F), what is in M(c,E++F) is in both
abbrev pub KeepsToAgreement : Operator → Type 0
KeepsToAgreement M =
    (n : ℕ) (c : Formula) (E F : List Formula) (u v : List Bool) → IsGroup n E → IsGroup n F →
    M n c E u → M n c F u → M n c (E ++ F) v → M n c E v × M n c F v

-- IC7: what is in M(c,E) and satisfies d is in M(c & d,E)
abbrev pub KeepsUnderMore : Operator → Type 0
KeepsUnderMore M =
    (n : ℕ) (c d : Formula) (E : List Formula) (v : List Bool) → M n c E v → holds d v ≡ true → M n (And c d) E v

-- IC8: where something in M(c,E) satisfies d, what is in M(c & d,E) is in M(c,E)
abbrev pub KeepsToUnderMore : Operator → Type 0
KeepsToUnderMore M =
    (n : ℕ) (c d : Formula) (E : List Formula) (u v : List Bool) →
    M n c E u → holds d u ≡ true → M n (And c d) E v → M n c E v
