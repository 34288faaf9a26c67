-- A line after lines without a fault may join them or has exactly one least fault, and never both.
use Rattle.std.proofs.Common.{◌≡◌, ℕ, List, [], ◌∷◌, ◌++◌, refl, subst, inl, inr}
use Rattle.problem_reading.specs.declared.stop.TextKind.{TextKind}
use Rattle.problem_reading.specs.Drafts.{Draft}
use Rattle.problem_reading.specs.Faults.{IsLineFault}
use Rattle.problem_reading.specs.Lines.{AreFaultless, IsCanonicalNext, IsNextFault}
use Rattle.problem_reading.specs.Saying.{after}
use Rattle.problem_reading.specs.Spelling.{Declares, one_more}
use Rattle.problem_reading.proofs.OneDraft.{declares_once, last_adds}
use Rattle.problem_laws.specs.HasOutcome.{HasOutcome}
use Rattle.problem_laws.proofs.LineChoice.{LineChoice, line_choice}
use Rattle.problem_laws.proofs.LineLaws.{one_fault, never_both}

pub one_next_fault : (lines : List (List ℕ)) (next : List ℕ) (k j : TextKind) → IsNextFault lines next k → IsNextFault lines next j → k ≡ j
one_next_fault lines next k j h i =
    one_fault i.0 next k j (subst (λ (d : Draft). IsLineFault d next k) (declares_once h.1 i.1 refl) h.2) i.2

pub never_joins : (lines : List (List ℕ)) (next : List ℕ) (k : TextKind) → IsNextFault lines next k → AreFaultless (lines ++ next ∷ []) → ⊥
never_joins lines next k fault all =
    let end = last_adds all.1 lines next refl in
    never_both end.0 next all.0 k end.2 (subst (λ (d : Draft). IsLineFault d next k) (declares_once fault.1 end.1 refl) fault.2)

of_choice : (lines : List (List ℕ)) (next : List ℕ) (d : Draft) → Declares lines d → LineChoice d next → HasOutcome lines next
of_choice lines next d declares (inl h) = inl (h.0, one_more next h.0 declares h.1)
of_choice lines next d declares (inr h) = inr (h.0, (d, declares, h.1))

pub has_outcome : (lines : List (List ℕ)) (next : List ℕ) → AreFaultless lines → HasOutcome lines next
has_outcome lines next all = of_choice lines next all.0 all.1 (line_choice all.0 next)

pub not_canonical : (lines : List (List ℕ)) (next : List ℕ) (k : TextKind) → IsNextFault lines next k → IsCanonicalNext lines next → ⊥
not_canonical lines next k fault h =
    never_joins lines next k fault (after h.0 h.1, one_more next (after h.0 h.1) h.2 (h.1, h.3, refl))
