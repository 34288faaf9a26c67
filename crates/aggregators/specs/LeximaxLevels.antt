-- The levels of leximax.
use Rattle.std.proofs.Common.{◌≡◌, ℕ, zero, suc, ◌+◌, ◌*◌, ◌-◌, ◌<◌, ◌≤◌, Bool, List, [], ◌∷◌, length, refl, ap, ◌∙◌, arith, All}
use Rattle.std.specs.Prelude.{nat_lt, nat_le, if◌then◌else◌, slice_index}
use Rattle.std.proofs.lemmas.Bool.Decides.{nat_tests}
use Rattle.std.specs.List.{concat}
use Rattle.std.proofs.lemmas.List.Elements.{All-head, All-tail}
use Rattle.clause_store.specs.Truth.{AreTrue}
use Rattle.clause_store.specs.Extends.{Extends, Always}
use Rattle.clause_store.proofs.Truths.{both_true}
use Rattle.clause_store.proofs.Blocks.{weaker, next_are, no_clause}
use Rattle.totalizer.specs.Counter.{count_of, AreVarsWithin, AllUnary, AllVarsWithin, leaves, sum_of}
use Rattle.totalizer.specs.Total.{total_due}
use Rattle.totalizer.proofs.Law.{more_vars}
use Rattle.totalizer.proofs.Totals.{total_law, all_unary_agree, more_all}
use Rattle.totalizer.proofs.Sizes.{leaves_unary, leaves_within, length-leaves, size_leaves, total_size}
use Rattle.ranks.specs.Ranks.{at_least, bit, counts, downs}
use Rattle.ranks.proofs.Counts.{at_least_most, length-downs}
use Rattle.ranks.specs.Limits.{entry_limit}
use Rattle.merge_model.specs.Merging.{repeated}
use Rattle.aggregators.specs.LevelValues.{leximax_values}
use Rattle.aggregators.specs.Levels.{counts_of, top_of, column, totals_due, leximax_due, FitLevels, HaveLevels, AreLevels}
use Rattle.aggregators.specs.Repeats.{unary_repeated, within_repeated, sized_repeated, counts_repeated, length_repeated, some_repeated, repeated_alone}
use Rattle.aggregators.specs.LevelOutputs.{AreNumbers, column_length, totals_outputs, downs_numbers, downs_distinct}
use Rattle.aggregators.specs.SumLevel.{total_bound}
use Rattle.aggregators.specs.Limits.{level_room}

pub column_within : (v k n : ℕ) (cs : List (List ℕ)) → AllVarsWithin v cs → All (λ c. length c ≡ n) cs → k < n → AreVarsWithin v (column k cs)
column_within v k n [] w s lt j l = absurd (omega arith)
column_within v k n (c ∷ cs) w s lt zero l = w.0 k (omega (arith, All-head (λ x. length x ≡ n) c cs s))
column_within v k n (c ∷ cs) w s lt (suc j) l = column_within v k n cs w.1 (All-tail (λ x. length x ≡ n) c cs s) lt j (omega arith)

bit_is : (t : Bool) (k m : ℕ) → 1 ≤ k → t ≡ nat_lt (k - 1) m → (if t then suc 0 else 0) ≡ bit (nat_le k m)
bit_is t k m lo e = ap (λ x. if x then suc 0 else 0) e ∙ (let same : (if nat_lt (k - 1) m then suc 0 else 0) ≡ bit (nat_le k m) = grind (arith, nat_tests) in same)

-- how many of the outputs of one number, from 1, are true
pub column_count : (b : ℕ → Bool) (k n : ℕ) (cs : List (List ℕ)) → AllUnary b cs → All (λ c. length c ≡ n) cs → 1 ≤ k → k ≤ n → sum_of b (leaves (column (k - 1) cs)) ≡ at_least k (counts_of b cs)
column_count b k n [] u s lo hi = refl
column_count b k n (c ∷ cs) u s lo hi =
    let here = bit_is (b (slice_index c (k - 1))) k (count_of b c) lo (u.0 (k - 1) (omega (arith, All-head (λ x. length x ≡ n) c cs s))) in
    let rest = column_count b k n cs u.1 (All-tail (λ x. length x ≡ n) c cs s) lo hi in
    omega arith

-- what holds of the totals of the outputs of some numbers
pub record TotalsAre (v : ℕ) (ks : List ℕ) (parts : List (List ℕ)) : Type 0 where
  pub extends : Extends Always (AreTrue (totals_due ks v parts).clauses) v (totals_due ks v parts).vars
  pub few : (totals_due ks v parts).vars ≤ v + level_room * length ks
  pub within : AllVarsWithin (totals_due ks v parts).vars (totals_due ks v parts).levels
  pub in_order : (b : ℕ → Bool) → AreTrue (totals_due ks v parts).clauses b → AllUnary b (totals_due ks v parts).levels
  pub values : (b : ℕ → Bool) → AllUnary b parts → AreTrue (totals_due ks v parts).clauses b → counts_of b (totals_due ks v parts).levels ≡ counts ks (counts_of b parts)

pub totals_are : (ks : List ℕ) (n v : ℕ) (parts : List (List ℕ)) → 1 ≤ length parts → length parts ≤ entry_limit → AllVarsWithin v parts → All (λ c. length c ≡ n) parts → AreNumbers n ks → TotalsAre v ks parts
totals_are [] n v parts some few w s numbers = record {
  extends = no_clause Always v (λ a b h p. tt);
  few = omega arith;
  within = tt;
  in_order = λ b r. tt;
  values = λ b u r. refl;
}
totals_are (k ∷ ks) n v parts some few w s numbers =
    let lo = numbers.0.0 in
    let hi = numbers.0.1 in
    let xs = column (k - 1) parts in
    let first = total_due v (leaves xs) in
    let size = column_length (k - 1) parts in
    let t = total_law v (leaves xs) (omega (arith, length-leaves xs)) (leaves_within v xs (column_within v (k - 1) n parts w s (omega arith))) in
    let rest = totals_are ks n first.vars parts some few (more_all v first.vars parts t.extends.grows w) s numbers.1 in
    let rest_due = totals_due ks first.vars parts in
    record {
      extends = next_are Always Always v first.vars rest_due.vars first.clauses rest_due.clauses
          (weaker Always (λ b. AllUnary b (leaves xs)) (AreTrue first.clauses) (AreTrue first.clauses) v first.vars t.extends (λ a b h p. tt) t.extends.within (λ b p. leaves_unary b xs) (λ b p r. r) (λ b p r. r))
          rest.extends
          (λ b p r. tt);
      few = omega (arith, rest.few, total_bound v (leaves xs) (omega (arith, length-leaves xs)) (omega (arith, length-leaves xs)), size_leaves xs);
      within = (more_vars first.vars rest_due.vars first.outputs rest.extends.grows t.within, rest.within);
      in_order = λ b r. let both = both_true b first.clauses rest_due.clauses r in (t.in_order b (leaves_unary b xs) both.0, rest.in_order b both.1);
      values = λ b u r.
          let both = both_true b first.clauses rest_due.clauses r in
          let here : count_of b first.outputs ≡ at_least k (counts_of b parts) = t.value b (leaves_unary b xs) both.0 ∙ column_count b k n parts u s lo hi in
          let later : counts_of b rest_due.levels ≡ counts ks (counts_of b parts) = rest.values b u both.1 in
          ap (λ m. m ∷ counts_of b rest_due.levels) here ∙ ap (λ ms. at_least k (counts_of b parts) ∷ ms) later;
    }

-- a level has as many outputs as there are parts
pub totals_fit : (ks : List ℕ) (v : ℕ) (parts : List (List ℕ)) (full : List ℕ) → 1 ≤ length parts → length full ≡ length parts → FitLevels (counts ks full) (totals_due ks v parts).levels
totals_fit [] v parts full some same = tt
totals_fit (k ∷ ks) v parts full some same =
    let xs = column (k - 1) parts in
    let size = column_length (k - 1) parts in
    let outputs = (total_size (length (leaves xs)) v (leaves xs) (omega (arith, length-leaves xs)) (omega arith)).1 in
    (omega (arith, at_least_most k full, outputs, size_leaves xs), totals_fit ks (total_due v (leaves xs)).vars parts full some same)

pub leximax_is : (v : ℕ) (aways : List (List ℕ)) (times : List ℕ) → HaveLevels v aways times → AreLevels v aways times leximax_values (leximax_due v aways times)
leximax_is v aways times h =
    let n = top_of aways in
    let parts = repeated times aways in
    let size = length_repeated times aways h.lengths in
    let some = some_repeated v aways times h in
    let sized = sized_repeated n times aways h.sized in
    let t = totals_are (downs n) n v parts some (omega (arith, h.few)) (within_repeated v times aways h.within) sized (downs_numbers n n (omega arith)) in
    let o = totals_outputs (downs n) n v parts (concat aways) some sized (downs_numbers n n (omega arith)) (downs_distinct n) (λ one. ap concat (repeated_alone times aways h.lengths h.positive one)) in
    let d = totals_due (downs n) v parts in
    record {
      extends = weaker (λ b. AllUnary b aways) Always (AreTrue d.clauses) (AreTrue d.clauses) v d.vars t.extends (λ a b h' p. all_unary_agree v a b aways h' h.within p) t.extends.within (λ b p. tt) (λ b p r. r) (λ b p r. r);
      few = omega (arith, t.few, h.small, length-downs n);
      within = t.within;
      in_order = λ b p r. t.in_order b r;
      values = λ b p r. t.values b (unary_repeated b times aways p) r ∙ ap (λ (ns : List ℕ). counts (downs n) ns) (counts_repeated b times aways);
      fits = λ us same small. totals_fit (downs n) v parts (repeated times us) some (omega (arith, length_repeated times us (same ∙ h.lengths)));
      origin = o.origin;
      distinct = o.distinct;
    }
