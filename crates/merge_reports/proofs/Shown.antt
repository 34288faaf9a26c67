-- The steps that a search names, as proofs of claims.
use Rattle.std.proofs.Common.{◌≡◌, ℕ, zero, suc, ◌+◌, Bool, List, [], ◌∷◌, ◌++◌, length, refl, subst, arith, Option, None, Some}
use Rattle.std.specs.Prelude.{slice_get}
use Rattle.std.specs.List.{AllZip}
use Rattle.derivation_log.specs.Logs.{Log}
use Rattle.cdcl_core.specs.Replies.{IsLonger}
use Rattle.merge_encoding.specs.Claims.{Assertion, NoNearer, NoBetter}
use Rattle.distance_search.specs.Setting.{Setting}
use Rattle.distance_search.specs.Replies.{Shows}
use Rattle.distance_search.specs.Results.{IsProven, AreFar, AreLeast}
use Rattle.distance_search.proofs.Logs.{shows_on}
use Rattle.report_lines.specs.declared.report.Proof.{Proof}
use Rattle.report_lines.specs.declared.report.Proof.TheVariants as proof
use Rattle.report_lines.specs.ClaimsDue.{DueClaim, of_first, numbered, far_claims, least_claims}
use Rattle.report_lines.specs.Reports.{step_of}
use Rattle.merge_reports.specs.Proofs.{numbered_proofs, far_proofs, least_proofs}
use Rattle.merge_reports.specs.Found.{IsShownBy, AreShownBy}

pub zip_join : {X Y : Type 0} (R : X → Y → Type 0) (xs xs' : List X) (ys ys' : List Y) → AllZip R xs ys → AllZip R xs' ys' → AllZip R (xs ++ xs') (ys ++ ys')
zip_join R [] xs' [] ys' h k = k
zip_join R [] xs' (y ∷ ys) ys' h k = absurd h
zip_join R (x ∷ xs) xs' [] ys' h k = absurd h
zip_join R (x ∷ xs) xs' (y ∷ ys) ys' h k = (h.0, zip_join R xs xs' ys ys' h.1 k)

-- what is shown stays so in a longer log
pub shown_on : (s : Setting) (a b : Log) → IsLonger a b → (claims : List DueClaim) (proofs : List Proof) → AreShownBy s a claims proofs → AreShownBy s b claims proofs
shown_on s a b g [] [] h = tt
shown_on s a b g [] (p ∷ ps) h = absurd h
shown_on s a b g (c ∷ cs) [] h = absurd h
shown_on s a b g (c ∷ cs) (p ∷ ps) h = ((h.0.0, shows_on s a b (step_of p) c.says g h.0.1), shown_on s a b g cs ps h.1)

module _ (s : Setting) (log : Log) (says : ℕ → ℕ → Assertion) (of : ℕ → ℕ → DueClaim) (make : ℕ → ℕ → Proof) (per : (i k n : ℕ) → Shows s log n (says i k) → IsShownBy s log (of i k) (make i n)) where
  abbrev AreProvenFrom : ℕ → List ℕ → List (Option ℕ) → Type 0
  AreProvenFrom i ks ss = (j k : ℕ) (step : Option ℕ) → slice_get ks j ≡ Some k → slice_get ss j ≡ Some step → IsProven s log k (says (i + j) k) step

  rest_proven : (i x : ℕ) (y : Option ℕ) (ks : List ℕ) (ss : List (Option ℕ)) → AreProvenFrom i (x ∷ ks) (y ∷ ss) → AreProvenFrom (i + 1) ks ss
  rest_proven i x y ks ss each = λ j k step p q.
      let e : i + suc j ≡ i + 1 + j = omega arith in
      subst (λ (m : ℕ). IsProven s log k (says m k) step) e (each (suc j) k step p q)

  first_proven : (i x : ℕ) (y : Option ℕ) (ks : List ℕ) (ss : List (Option ℕ)) → AreProvenFrom i (x ∷ ks) (y ∷ ss) → IsProven s log x (says i x) y
  first_proven i x y ks ss each =
      let e : i + 0 ≡ i = omega arith in
      subst (λ (m : ℕ). IsProven s log x (says m x) y) e (each 0 x y refl refl)

  numbered_shown : (i : ℕ) (ks : List ℕ) (ss : List (Option ℕ)) → length ss ≡ length ks → AreProvenFrom i ks ss → AreShownBy s log (numbered of i ks) (numbered_proofs make i ss)
  numbered_shown i [] [] e each = tt
  numbered_shown i [] (y ∷ ss) e each = absurd (omega arith)
  numbered_shown i (x ∷ ks) [] e each = absurd (omega arith)
  numbered_shown i (zero ∷ ks) (None ∷ ss) e each = numbered_shown (i + 1) ks ss (omega arith) (rest_proven i zero None ks ss each)
  numbered_shown i (zero ∷ ks) (Some n ∷ ss) e each = let p = first_proven i zero (Some n) ks ss each in absurd (omega (arith, p.0))
  numbered_shown i (suc k ∷ ks) (None ∷ ss) e each = let p : suc k ≡ 0 = first_proven i (suc k) None ks ss each in absurd (omega arith)
  numbered_shown i (suc k ∷ ks) (Some n ∷ ss) e each =
      let p = first_proven i (suc k) (Some n) ks ss each in
      (per i (suc k) n p.1, numbered_shown (i + 1) ks ss (omega arith) (rest_proven i (suc k) (Some n) ks ss each))

from_zero : (s : Setting) (log : Log) (says : ℕ → ℕ → Assertion) (j k : ℕ) (step : Option ℕ) → IsProven s log k (says j k) step → IsProven s log k (says (0 + j) k) step
from_zero s log says j k step h =
    let e : j ≡ 0 + j = omega arith in
    subst (λ (m : ℕ). IsProven s log k (says m k) step) e h

pub far_shown : (s : Setting) (log : Log) (q : ℕ) (v : List Bool) (vector : List ℕ) (steps : List (Option ℕ)) → AreFar s log v vector steps → AreShownBy s log (far_claims q v vector) (far_proofs q 0 steps)
far_shown s log q v vector steps h =
    numbered_shown s log (λ i k. NoNearer i v k) (λ i k. record { model = q; says = NoNearer i v k }) (λ i n. proof.Far q i n) (λ i k n shows. (refl, shows)) 0 vector steps h.count
    (λ j k step a b. from_zero s log (λ i d. NoNearer i v d) j k step (h.each j k step a b))

pub least_shown : (s : Setting) (log : Log) (values : List ℕ) (steps : List (Option ℕ)) → AreLeast s log values steps → AreShownBy s log (least_claims values) (least_proofs 0 steps)
least_shown s log values steps h =
    numbered_shown s log (λ j k. NoBetter j values) (λ j k. of_first (NoBetter j values)) (λ j n. proof.Least j n) (λ j k n shows. (refl, shows)) 0 values steps h.count
    (λ j k step a b. from_zero s log (λ i d. NoBetter i values) j k step (h.each j k step a b))
