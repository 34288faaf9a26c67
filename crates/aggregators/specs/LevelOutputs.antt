-- The outputs of levels: fresh variables, or outputs of the counters.
use Rattle.std.proofs.Common.{◌≡◌, ℕ, zero, suc, ◌-◌, ◌<◌, ◌≤◌, inl, inr, List, [], ◌∷◌, ◌++◌, length, refl, sym, ap, ◌∙◌, subst, arith, All}
use Rattle.std.specs.Prelude.{map, slice_index, Contains, ◌⊎◌}
use Rattle.std.specs.List.{AllByRecursion, concat}
use Rattle.std.proofs.lemmas.List.{append-nil, length-map}
use Rattle.std.proofs.lemmas.List.Elements.{All-head, All-weaker, All-from_get_or, All-contains_itself, Contains-get_or}
use Rattle.ranks.specs.Ranks.{downs}
use Rattle.ranks.proofs.Counts.{length-downs, index_downs}
use Rattle.clause_store.proofs.Each.{each_place}
use Rattle.totalizer.specs.Counter.{AreDistinct, AreFresh, leaves}
use Rattle.totalizer.specs.Total.{total_due}
use Rattle.totalizer.proofs.Distinct.{fresh_none, fresh_append}
use Rattle.totalizer.proofs.Sizes.{length-leaves, more_fresh}
use Rattle.totalizer.proofs.Totals.{total_grows}
use Rattle.aggregators.specs.Levels.{column, totals_due, AreFreshOrOf}

pub column_length : (k : ℕ) (cs : List (List ℕ)) → length (column k cs) ≡ length cs
column_length k cs = length-map cs (λ c. slice_index c k)

-- the outputs of levels, and the given outputs
pub record HaveOutputs (v : ℕ) (given xs : List ℕ) : Type 0 where
  pub origin : AreFreshOrOf v given xs
  pub distinct : AreDistinct given → AreDistinct xs

pub fresh_have : (v w : ℕ) (given xs : List ℕ) → AreFresh v w xs → HaveOutputs v given xs
fresh_have v w given xs f = record {
  origin = All-from_get_or (λ x. (v < x) ⊎ Contains given x) xs 0 (λ k lt. inl (f.above k lt));
  distinct = λ d. f.distinct;
}

same_have : (v : ℕ) (given xs : List ℕ) → given ≡ xs → HaveOutputs v given xs
same_have v given xs e = subst (λ ys. HaveOutputs v given ys) e (record {
  origin = All-weaker (Contains given) (λ x. (v < x) ⊎ Contains given x) (λ x c. inr c) given (All-contains_itself given);
  distinct = λ d. d;
})

-- of a total: of one part its outputs, of more fresh ones
pub total_outputs : (v : ℕ) (parts : List (List ℕ)) (given : List ℕ) → 1 ≤ length parts → (length parts ≡ 1 → concat parts ≡ given) → HaveOutputs v given (concat ((total_due v parts).outputs ∷ []))
total_outputs v [] given some alone = absurd (omega arith)
total_outputs v (p ∷ []) given some alone = same_have v given (p ++ []) (sym (alone refl))
total_outputs v (p ∷ q ∷ ps) given some alone =
    let d = total_due v (p ∷ q ∷ ps) in
    subst (λ xs. HaveOutputs v given xs) (sym (append-nil d.outputs)) (fresh_have v d.vars given d.outputs (more_fresh v (p ∷ q ∷ ps) (omega arith)))

-- the numbers are from 1 to n
abbrev pub AreNumbers : ℕ → List ℕ → Type 0
AreNumbers n ks = AllByRecursion (λ k. (1 ≤ k) × (k ≤ n)) ks

-- the variables of these numbers
abbrev picked : List ℕ → List ℕ → List ℕ
picked ks xs = map (λ k. slice_index xs (k - 1)) ks

picked_at : (ks xs : List ℕ) (i : ℕ) → i < length ks → slice_index (picked ks xs) i ≡ slice_index xs (slice_index ks i - 1)
picked_at [] xs i lt = absurd (omega arith)
picked_at (k ∷ ks) xs zero lt = refl
picked_at (k ∷ ks) xs (suc i) lt = picked_at ks xs i (omega arith)

picked_distinct : (n : ℕ) (ks xs : List ℕ) → n ≤ length xs → AreNumbers n ks → AreDistinct ks → AreDistinct xs → AreDistinct (picked ks xs)
picked_distinct n ks xs le numbers apart d i j hi hj e =
    let size = length-map ks (λ k. slice_index xs (k - 1)) in
    let a : i < length ks = omega arith in
    let b : j < length ks = omega arith in
    let p = each_place (λ k. (1 ≤ k) × (k ≤ n)) ks i 0 numbers a in
    let q = each_place (λ k. (1 ≤ k) × (k ≤ n)) ks j 0 numbers b in
    let same : slice_index ks i - 1 ≡ slice_index ks j - 1 = d (slice_index ks i - 1) (slice_index ks j - 1) (omega (arith, p.0, p.1)) (omega (arith, q.0, q.1)) (sym (picked_at ks xs i a) ∙ e ∙ picked_at ks xs j b) in
    apart i j a b (omega (arith, p.0, q.0))

picked_have : (v n : ℕ) (ks xs : List ℕ) → n ≤ length xs → AreNumbers n ks → AreDistinct ks → HaveOutputs v xs (picked ks xs)
picked_have v n ks xs le numbers apart = record {
  origin = All-from_get_or (λ x. (v < x) ⊎ Contains xs x) (picked ks xs) 0 (λ i lt.
      let a : i < length ks = omega (arith, length-map ks (λ k. slice_index xs (k - 1))) in
      let p = each_place (λ k. (1 ≤ k) × (k ≤ n)) ks i 0 numbers a in
      inr (subst (λ x. Contains xs x) (sym (picked_at ks xs i a)) (Contains-get_or xs (slice_index ks i - 1) 0 (omega (arith, p.0, p.1)))));
  distinct = picked_distinct n ks xs le numbers apart;
}

-- of one part, the levels are its outputs of these numbers
one_part : (ks : List ℕ) (v : ℕ) (p : List ℕ) → concat (totals_due ks v (p ∷ [])).levels ≡ picked ks p
one_part [] v p = refl
one_part (k ∷ ks) v p = ap (λ xs. slice_index p (k - 1) ∷ xs) (one_part ks v p)

levels_grow : (ks : List ℕ) (v : ℕ) (parts : List (List ℕ)) → v ≤ (totals_due ks v parts).vars
levels_grow [] v parts = omega arith
levels_grow (k ∷ ks) v parts =
    let xs = leaves (column (k - 1) parts) in
    omega (arith, total_grows (length xs) v xs, levels_grow ks (total_due v xs).vars parts)

-- of two or more, each level has new outputs
levels_fresh : (ks : List ℕ) (v : ℕ) (parts : List (List ℕ)) → 2 ≤ length parts → AreFresh v (totals_due ks v parts).vars (concat (totals_due ks v parts).levels)
levels_fresh [] v parts big = fresh_none v v
levels_fresh (k ∷ ks) v parts big =
    let xs = leaves (column (k - 1) parts) in
    let first = total_due v xs in
    let rest = totals_due ks first.vars parts in
    fresh_append v first.vars rest.vars first.outputs (concat rest.levels) (total_grows (length xs) v xs) (levels_grow ks first.vars parts)
    (more_fresh v xs (omega (arith, length-leaves (column (k - 1) parts), column_length (k - 1) parts)))
    (levels_fresh ks first.vars parts big)

pub totals_outputs : (ks : List ℕ) (n v : ℕ) (parts : List (List ℕ)) (given : List ℕ) → 1 ≤ length parts → All (λ c. length c ≡ n) parts → AreNumbers n ks → AreDistinct ks → (length parts ≡ 1 → concat parts ≡ given) → HaveOutputs v given (concat (totals_due ks v parts).levels)
totals_outputs ks n v [] given some sized numbers apart alone = absurd (omega arith)
totals_outputs ks n v (p ∷ []) given some sized numbers apart alone =
    let e : p ≡ given = sym (append-nil p) ∙ alone refl in
    subst (λ ys. HaveOutputs v ys (concat (totals_due ks v (p ∷ [])).levels)) e
    (subst (λ xs. HaveOutputs v p xs) (sym (one_part ks v p)) (picked_have v n ks p (omega (arith, All-head (λ c. length c ≡ n) p [] sized)) numbers apart))
totals_outputs ks n v (p ∷ q ∷ ps) given some sized numbers apart alone =
    let parts = p ∷ q ∷ ps in
    let d = totals_due ks v parts in
    fresh_have v d.vars given (concat d.levels) (levels_fresh ks v parts (omega arith))

-- the numbers from n down
pub downs_numbers : (t n : ℕ) → t ≤ n → AreNumbers n (downs t)
downs_numbers zero n le = tt
downs_numbers (suc t) n le = ((omega arith, le), downs_numbers t n (omega arith))

pub downs_distinct : (t : ℕ) → AreDistinct (downs t)
downs_distinct t i j hi hj e =
    let size = length-downs t in
    let a : i < t = omega arith in
    let b : j < t = omega arith in
    let x = index_downs t i a in
    let y = index_downs t j b in
    omega arith
