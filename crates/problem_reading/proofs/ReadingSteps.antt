-- What a reading keeps, line by line.
use Rattle.std.proofs.Common.{◌≡◌, ℕ, ◌+◌, Bool, ◌↔◌, IsTrue, List, [], ◌∷◌, ◌++◌, length, length-append, refl, ap, sym, subst, arith}
use Rattle.problem_reading.specs.declared.said.Said.{Said}
use Rattle.problem_reading.specs.Canonical.{IsWritten}
use Rattle.problem_reading.specs.Drafts.{Draft, empty_draft}
use Rattle.problem_reading.specs.Lines.{HasRead, IsCanonicalNext}
use Rattle.problem_reading.specs.Saying.{Adds, Says}
use Rattle.problem_reading.specs.Spelling.{Declares, no_lines, one_more}
use Rattle.problem_reading.proofs.OneDraft.{declares_once}

pub read_none : (lines : List (List ℕ)) (d : Draft) → lines ≡ [] → d ≡ empty_draft → HasRead lines d 0
read_none lines d none empty = record {
  declares = subst (λ (ls : List (List ℕ)). Declares ls d) (sym none) (subst (λ (x : Draft). Declares [] x) (sym empty) no_lines);
  number = ap length (sym none);
}

pub read_more : (before lines : List (List ℕ)) (line : List ℕ) (d e : Draft) (n : ℕ) → HasRead before d n → Adds d line e → lines ≡ before ++ line ∷ [] →
    HasRead lines e (n + 1)
read_more before lines line d e n has adds joined = record {
  declares = subst (λ (ls : List (List ℕ)). Declares ls e) (sym joined) (one_more line e has.declares adds);
  number = omega (arith, has.number, length-append before (line ∷ []), ap length joined);
}

-- where the test is right for what the line says, it is right for the line
pub canonical_next : (lines : List (List ℕ)) (line : List ℕ) (d e : Draft) (written : Bool) → Declares lines d → Adds d line e →
    ((said : Said) → Says d line said → IsTrue written ↔ IsWritten d line said) → IsTrue written ↔ IsCanonicalNext lines line
canonical_next lines line d e written declares adds right = (
  λ yes. (d, adds.0, declares, adds.1, (right adds.0 adds.1).0 yes),
  λ next.
      let one = declares_once next.2 declares refl in
      let says = subst (λ (x : Draft). Says x line next.1) one next.3 in
      (right next.1 says).1 (subst (λ (x : Draft). IsWritten x line next.1) one next.4),
)
