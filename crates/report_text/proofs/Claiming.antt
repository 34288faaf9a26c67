-- Claims that are taken are proper.
use Rattle.std.proofs.Common.{◌≡◌, ℕ, zero, suc, ◌+◌, ◌<◌, ◌≤◌, Bool, List, [], ◌∷◌, ◌++◌, length, map, sym, ap, subst, ◌∙◌, arith, All}
use Rattle.std.specs.Prelude.{slice_index}
use Rattle.std.proofs.lemmas.List.{map-append}
use Rattle.std.proofs.lemmas.List.Elements.{All-nil, All-cons, All-append}
use Rattle.merge_encoding.specs.Claims.{Assertion, NoNearer, NoBetter, said}
use Rattle.report_lines.specs.declared.kinds.Subject.{Subject}
use Rattle.report_lines.specs.declared.kinds.Subject.TheVariants.{TheConstraint, BaseOf}
use Rattle.report_lines.specs.ClaimsDue.{DueClaim, of_first, far_claims, least_claims, lack_of, numbered}
use Rattle.report_lines.specs.Places.{Position, atoms_at, values_at}
use Rattle.report_text.specs.declared.answering.claims.Claimed.{Claimed}
use Rattle.report_text.specs.Answering.{due_claim, IsProperAt, IsSubjectAt, IsVectorAt}

numbered_all : (P : DueClaim → Type 0) (claim : ℕ → ℕ → DueClaim) (i : ℕ) (ks : List ℕ) → ((j : ℕ) → j < length ks → 1 ≤ slice_index ks j → P (claim (i + j) (slice_index ks j))) → All P (numbered claim i ks)
numbered_all P claim i [] h = All-nil P
numbered_all P claim i (zero ∷ ks) h =
    numbered_all P claim (i + 1) ks (λ j lt some. let same : i + suc j ≡ i + 1 + j = omega arith in subst (λ (n : ℕ). P (claim n (slice_index ks j))) same (h (suc j) (omega arith) some))
numbered_all P claim i (suc k ∷ ks) h =
    let same : i + 0 ≡ i = omega arith in
    All-cons P (claim i (suc k)) (numbered claim (i + 1) ks)
    (subst (λ (n : ℕ). P (claim n (suc k))) same (h 0 (omega arith) (omega arith)))
    (numbered_all P claim (i + 1) ks (λ j lt some. let next : i + suc j ≡ i + 1 + j = omega arith in subst (λ (n : ℕ). P (claim n (slice_index ks j))) next (h (suc j) (omega arith) some)))

abbrev pub IsProperDue : Position → DueClaim → Type 0
IsProperDue p c = IsProperAt p c.says

pub far_proper : (p : Position) (number : ℕ) (model : List Bool) (vector : List ℕ) → length model ≡ atoms_at p → IsVectorAt p vector → All (IsProperDue p) (far_claims number model vector)
far_proper p number model vector size fits =
    numbered_all (IsProperDue p) (λ i d. record { model = number; says = NoNearer i model d }) 0 vector
    (λ j lt some. let e = fits.0 in (omega arith, size, some, fits.1 j 0 lt))

pub least_proper : (p : Position) (values : List ℕ) → IsVectorAt p p.best → values ≡ values_at p → All (IsProperDue p) (least_claims values)
least_proper p values fits is =
    numbered_all (IsProperDue p) (λ j x. of_first (NoBetter j values)) 0 values
    (λ j lt some. let same : 0 + j ≡ j = omega arith in (fits, is, subst (λ (n : ℕ). 1 ≤ slice_index values n) (sym same) some))

-- with those before
pub more_proper : (p : Position) (before more all : List DueClaim) → all ≡ before ++ more → All (IsProperDue p) before → All (IsProperDue p) more → All (IsProperDue p) all
more_proper p before more all e old new = subst (All (IsProperDue p)) (sym e) (All-append (IsProperDue p) before more old new)

pub lack_proper : (p : Position) (s : Subject) → IsSubjectAt p s → IsProperAt p (lack_of s)
lack_proper p TheConstraint h = tt
lack_proper p (BaseOf i) h = h

-- with one more
pub pushed_proper : (p : Position) (old new : List Claimed) (c : Claimed) (x : Assertion) → new ≡ old ++ c ∷ [] → said c.says ≡ x → All (IsProperDue p) (map due_claim old) → IsProperAt p x → All (IsProperDue p) (map due_claim new)
pushed_proper p old new c x e is before h =
    more_proper p (map due_claim old) (due_claim c ∷ []) (map due_claim new) (ap (map due_claim) e ∙ map-append due_claim old (c ∷ [])) before
    (All-cons (IsProperDue p) (due_claim c) [] (subst (IsProperAt p) (sym is) h) (All-nil (IsProperDue p)))

-- with some more
pub added_proper : (p : Position) (old more new : List Claimed) → new ≡ old ++ more → All (IsProperDue p) (map due_claim old) → All (IsProperDue p) (map due_claim more) → All (IsProperDue p) (map due_claim new)
added_proper p old more new e before after = more_proper p (map due_claim old) (map due_claim more) (map due_claim new) (ap (map due_claim) e ∙ map-append due_claim old more) before after
