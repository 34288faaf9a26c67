-- Steps of the calls that append levels.
use Rattle.std.proofs.Common.{◌≡◌, ℕ, zero, suc, ◌+◌, ◌-◌, ◌<◌, ◌≤◌, List, [], ◌∷◌, ◌++◌, length, get_or, sym, ap, ◌∙◌, subst, arith, append_assoc, All}
use Rattle.std.specs.Prelude.{map}
use Rattle.std.proofs.lemmas.List.{append-nil}
use Rattle.std.proofs.lemmas.List.Elements.{All-nil, All-cons, All-head, All-tail}
use Rattle.ranks.specs.Limits.{entry_limit}
use Rattle.ranks.specs.Ranks.{downs}
use Rattle.clause_store.specs.declared.lit.Lit.{Lit}
use Rattle.clause_store.specs.Lits.{sorted_clause}
use Rattle.clause_store.specs.Clauses.{Clauses}
use Rattle.clause_store.specs.Grew.{Grew}
use Rattle.clause_store.proofs.Grows.{grew_rest, list_rest, list_end, IsDueStill}
use Rattle.totalizer.specs.Counter.{AreVarsWithin, AllVarsWithin, leaves}
use Rattle.totalizer.specs.Total.{total_due}
use Rattle.totalizer.proofs.Sizes.{length-leaves, size_leaves}
use Rattle.aggregators.specs.Levels.{top_of, column, totals_due}
use Rattle.aggregators.specs.LevelOutputs.{column_length}
use Rattle.aggregators.specs.SumLevel.{total_bound}
use Rattle.aggregators.specs.Limits.{level_room}

pub levels_rest : {X : Type 0} (now new : List X) (x : X) (rest all : List X) → now ++ x ∷ rest ≡ all → new ≡ now ++ x ∷ [] → new ++ rest ≡ all
levels_rest now new x rest all e f = ap (λ y. y ++ rest) f ∙ append_assoc now (x ∷ []) rest ∙ e

pub top_first : (aways : List (List ℕ)) (c : List ℕ) → 1 ≤ length aways → c ≡ get_or aways 0 c → top_of aways ≡ length c
top_first [] c some e = absurd (omega arith)
top_first (a ∷ aways) c some e = ap length (sym e)

pub positive : (v : ℕ) (xs : List ℕ) → AreVarsWithin v xs → All (λ x. 1 ≤ x) xs
positive v [] h = All-nil (λ x. 1 ≤ x)
positive v (x ∷ xs) h = All-cons (λ x. 1 ≤ x) x xs (h 0 (omega arith)).0 (positive v xs (λ k lt. h (suc k) (omega arith)))

-- a total of few variables
pub level_grows : (v k : ℕ) (parts : List (List ℕ)) → 1 ≤ length parts → length parts ≤ entry_limit → (total_due v (leaves (column k parts))).vars ≤ v + level_room
level_grows v k parts some few =
    let xs = column k parts in
    let size = column_length k parts in
    omega (arith, total_bound v (leaves xs) (omega (arith, length-leaves xs)) (omega (arith, length-leaves xs)), size_leaves xs)

-- columns of parts that are long enough
pub within_long : (v k : ℕ) (cs : List (List ℕ)) → AllVarsWithin v cs → All (λ c. k < length c) cs → AreVarsWithin v (column k cs)
within_long v k [] w s j l = absurd (omega arith)
within_long v k (c ∷ cs) w s zero l = w.0 k (All-head (λ x. k < length x) c cs s)
within_long v k (c ∷ cs) w s (suc j) l = within_long v k cs w.1 (All-tail (λ x. k < length x) c cs s) j (omega arith)

pub longer : (k n : ℕ) (cs : List (List ℕ)) → k < n → All (λ c. length c ≡ n) cs → All (λ c. k < length c) cs
longer k n [] lt s = All-nil (λ c. k < length c)
longer k n (c ∷ cs) lt s =
    All-cons (λ c. k < length c) c cs (omega (arith, All-head (λ x. length x ≡ n) c cs s)) (longer k n cs lt (All-tail (λ x. length x ≡ n) c cs s))

-- one level fewer is due
module _ (k : ℕ) (ks : List ℕ) (parts : List (List ℕ)) where
  pub step_list : (v w : ℕ) (old now new all : List (List Lit)) → w ≡ (total_due v (leaves (column (k - 1) parts))).vars →
      IsDueStill old now (totals_due (k ∷ ks) v parts).clauses all → new ≡ now ++ map sorted_clause (total_due v (leaves (column (k - 1) parts))).clauses →
      IsDueStill old new (totals_due ks w parts).clauses all
  step_list v w old now new all is h f =
      let first = total_due v (leaves (column (k - 1) parts)) in
      subst (λ u. IsDueStill old new (totals_due ks u parts).clauses all) (sym is)
      (list_rest old now new first.clauses (totals_due ks first.vars parts).clauses all h f)

  pub step_vars : (v w m : ℕ) → w ≡ (total_due v (leaves (column (k - 1) parts))).vars → (totals_due (k ∷ ks) v parts).vars ≡ m → (totals_due ks w parts).vars ≡ m
  step_vars v w m is h = subst (λ u. (totals_due ks u parts).vars ≡ m) (sym is) h

  pub step_levels : (v w : ℕ) (now new all : List (List ℕ)) (x : List ℕ) → w ≡ (total_due v (leaves (column (k - 1) parts))).vars → x ≡ (total_due v (leaves (column (k - 1) parts))).outputs →
      now ++ (totals_due (k ∷ ks) v parts).levels ≡ all → new ≡ now ++ x ∷ [] → new ++ (totals_due ks w parts).levels ≡ all
  step_levels v w now new all x is outputs h f =
      let first = total_due v (leaves (column (k - 1) parts)) in
      subst (λ u. new ++ (totals_due ks u parts).levels ≡ all) (sym is)
      (levels_rest now new first.outputs (totals_due ks first.vars parts).levels all h (f ∙ ap (λ y. now ++ y ∷ []) outputs))

  pub step_grew : (old now new : Clauses) (all : List (List Lit)) → IsDueStill old.list now.list (totals_due (k ∷ ks) now.vars parts).clauses all → old.vars ≤ now.vars →
      Grew now new (total_due now.vars (leaves (column (k - 1) parts))).clauses → Grew old new all
  step_grew old now new all h le g =
      let first = total_due now.vars (leaves (column (k - 1) parts)) in
      grew_rest old now new first.clauses (totals_due ks first.vars parts).clauses all h le g

-- no level is left
pub end_list : (left v : ℕ) (parts : List (List ℕ)) (old now all : List (List Lit)) → left ≡ 0 → IsDueStill old now (totals_due (downs left) v parts).clauses all → now ≡ old ++ map sorted_clause all
end_list left v parts old now all e h = list_end old now all (subst (λ n. IsDueStill old now (totals_due (downs n) v parts).clauses all) e h)

pub end_levels : (left v : ℕ) (parts now all : List (List ℕ)) → left ≡ 0 → now ++ (totals_due (downs left) v parts).levels ≡ all → now ≡ all
end_levels left v parts now all e h = sym (append-nil now) ∙ subst (λ n. now ++ (totals_due (downs n) v parts).levels ≡ all) e h

pub end_vars : (left v m : ℕ) (parts : List (List ℕ)) → left ≡ 0 → (totals_due (downs left) v parts).vars ≡ m → v ≡ m
end_vars left v m parts e h = subst (λ n. (totals_due (downs n) v parts).vars ≡ m) e h
