-- The level of the sum.
use Rattle.std.proofs.Common.{◌≡◌, ℕ, ◌+◌, ◌*◌, ◌≤◌, Bool, List, [], ◌∷◌, length, refl, ap, ◌∙◌, subst, arith, All, sum}
use Rattle.std.specs.List.{concat}
use Rattle.std.proofs.lemmas.List.Sums.{sum_by-cons, sum_by-le}
use Rattle.std.proofs.lemmas.List.Elements.{All-head, All-tail}
use Rattle.ranks.specs.Limits.{entry_limit, distance_limit}
use Rattle.clause_store.specs.Truth.{AreTrue}
use Rattle.clause_store.proofs.Blocks.{weaker}
use Rattle.totalizer.specs.Counter.{Due, count_of, AllUnary, sum_of}
use Rattle.totalizer.specs.Total.{total_due}
use Rattle.totalizer.proofs.Totals.{total_fuel, total_law, all_unary_agree}
use Rattle.totalizer.proofs.Sizes.{size, total_size}
use Rattle.merge_model.specs.Merging.{repeated}
use Rattle.merge_model.proofs.Fulls.{repeated_small}
use Rattle.aggregators.specs.LevelValues.{sum_values}
use Rattle.aggregators.specs.Levels.{counts_of, top_of, sum_due, HaveLevels, AreLevels}
use Rattle.aggregators.specs.Repeats.{unary_repeated, within_repeated, sized_repeated, counts_repeated, length_repeated, some_repeated, repeated_alone}
use Rattle.aggregators.specs.LevelOutputs.{total_outputs}
use Rattle.aggregators.specs.Limits.{levels_room}

size_at_most : (m : ℕ) (cs : List (List ℕ)) → m ≤ distance_limit → All (λ c. length c ≡ m) cs → size cs ≤ distance_limit * length cs
size_at_most m [] le h = omega arith
size_at_most m (c ∷ cs) le h = omega (arith, size_at_most m cs le (All-tail (λ x. length x ≡ m) c cs h), All-head (λ x. length x ≡ m) c cs h)

-- few parts add few variables for each output
pub total_bound : (v : ℕ) (parts : List (List ℕ)) → 1 ≤ length parts → length parts ≤ entry_limit → (total_due v parts).vars ≤ v + entry_limit * size parts
total_bound v parts some few =
    subst (λ (d : Due). d.vars ≤ v + entry_limit * size parts) (total_fuel entry_limit (length parts) v parts few (omega arith)) (total_size entry_limit v parts some few).0

sum_of_counts : (b : ℕ → Bool) (cs : List (List ℕ)) → sum_of b cs ≡ sum (counts_of b cs)
sum_of_counts b [] = refl
sum_of_counts b (c ∷ cs) = omega (arith, sum_of_counts b cs, sum_by-cons (λ x. x) (count_of b c) (counts_of b cs))

pub sum_room : (v : ℕ) (aways : List (List ℕ)) (times : List ℕ) → HaveLevels v aways times → (sum_due v aways times).vars ≤ v + levels_room
sum_room v aways times h =
    let parts = repeated times aways in
    omega (
      arith,
      total_bound v parts (some_repeated v aways times h) (omega (arith, length_repeated times aways h.lengths, h.few)),
      size_at_most (top_of aways) parts h.small (sized_repeated (top_of aways) times aways h.sized),
      length_repeated times aways h.lengths,
      h.few,
    )

size_is : (m : ℕ) (cs : List (List ℕ)) → All (λ c. length c ≡ m) cs → size cs ≡ length cs * m
size_is m [] h = omega arith
size_is m (c ∷ cs) h = omega (arith, size_is m cs (All-tail (λ x. length x ≡ m) c cs h), All-head (λ x. length x ≡ m) c cs h)

-- the sum of the repeated distances is at most the number of outputs
sum_fits : (v : ℕ) (aways : List (List ℕ)) (times us : List ℕ) → HaveLevels v aways times → length us ≡ length aways → All (λ u. u ≤ top_of aways) us → sum (repeated times us) ≤ length (total_due v (repeated times aways)).outputs
sum_fits v aways times us h same small =
    let m = top_of aways in
    let parts = repeated times aways in
    let full = repeated times us in
    let as_many : length full ≡ length parts = omega (arith, length_repeated times us (same ∙ h.lengths), length_repeated times aways h.lengths) in
    omega (
      arith,
      sum_by-le (λ x. x) m full (repeated_small m times us small),
      ap (λ n. n * m) as_many,
      size_is m parts (sized_repeated m times aways h.sized),
      (total_size (length parts) v parts (some_repeated v aways times h) (omega arith)).1,
    )

pub sum_is : (v : ℕ) (aways : List (List ℕ)) (times : List ℕ) → HaveLevels v aways times → AreLevels v aways times sum_values (sum_due v aways times)
sum_is v aways times h =
    let parts = repeated times aways in
    let d = total_due v parts in
    let some = some_repeated v aways times h in
    let t = total_law v parts some (within_repeated v times aways h.within) in
    let o = total_outputs v parts (concat aways) some (λ one. ap concat (repeated_alone times aways h.lengths h.positive one)) in
    record {
      extends = weaker (λ b. AllUnary b aways) (λ b. AllUnary b parts) (AreTrue d.clauses) (AreTrue d.clauses) v d.vars t.extends (λ a b h' p. all_unary_agree v a b aways h' h.within p) t.extends.within
          (λ b p. unary_repeated b times aways p) (λ b p r. r) (λ b p r. r);
      few = sum_room v aways times h;
      within = (t.within, tt);
      in_order = λ b p r. (t.in_order b (unary_repeated b times aways p) r, tt);
      values = λ b p r.
          ap (λ n. n ∷ []) (t.value b (unary_repeated b times aways p) r ∙ sum_of_counts b parts ∙ ap sum (counts_repeated b times aways));
      fits = λ us same small. (sum_fits v aways times us h same small, tt);
      origin = o.origin;
      distinct = o.distinct;
    }
