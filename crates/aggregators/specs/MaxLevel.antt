-- The level of the maximum.
use Rattle.std.proofs.Common.{◌≡◌, ℕ, zero, suc, ◌+◌, ◌<◌, ◌≤◌, Bool, false, ◌||◌, List, [], ◌∷◌, ◌++◌, length, max, min, replicate, refl, sym, ap, ◌∙◌, subst, arith, All}
use Rattle.std.specs.Prelude.{nat_lt}
use Rattle.std.proofs.lemmas.Bool.Decides.{nat_tests}
use Rattle.std.proofs.lemmas.List.{append-nil, length-map}
use Rattle.std.specs.List.{concat}
use Rattle.std.proofs.lemmas.List.Elements.{All-head, All-tail}
use Rattle.clause_store.specs.Truth.{AreTrue}
use Rattle.clause_store.specs.Extends.{Extends, Always}
use Rattle.clause_store.proofs.Blocks.{weaker, next_are, no_clause}
use Rattle.clause_store.specs.Fresh.{fresh_vars}
use Rattle.clause_store.proofs.Fresh.{length-fresh_vars, index_fresh_vars}
use Rattle.totalizer.specs.Counter.{count_of, AllUnary, AllVarsWithin}
use Rattle.totalizer.specs.Either.{any_of, either_due}
use Rattle.totalizer.specs.Joined.{joined_blocks}
use Rattle.totalizer.proofs.Disjunctions.{either_is, either_to}
use Rattle.totalizer.proofs.FreshVars.{fresh_vars_within, fresh_vars_are, count_fresh_vars}
use Rattle.totalizer.proofs.Law.{count_le, joined_to, more_vars}
use Rattle.totalizer.proofs.Totals.{all_unary_agree}
use Rattle.ranks.specs.Ranks.{greatest}
use Rattle.ranks.proofs.Counts.{at_most}
use Rattle.ranks.proofs.Laws.{greatest_le}
use Rattle.merge_model.specs.Merging.{repeated}
use Rattle.merge_model.proofs.Fulls.{repeated_small}
use Rattle.aggregators.specs.LevelValues.{max_values}
use Rattle.aggregators.specs.Levels.{counts_of, top_of, column, output_clauses, max_due, HaveLevels, AreLevels}
use Rattle.aggregators.specs.LevelOutputs.{HaveOutputs, fresh_have}
use Rattle.aggregators.specs.LeximaxLevels.{column_within}

pub outputs_extend : (n m v : ℕ) (aways : List (List ℕ)) → AllVarsWithin v aways → All (λ c. length c ≡ m) aways → n ≤ m → Extends Always (AreTrue (joined_blocks (output_clauses v aways) n)) v (v + n)
outputs_extend zero m v aways w s le = subst (λ (u : ℕ). Extends Always (AreTrue []) v u) (let e : v ≡ v + 0 = omega arith in e) (no_clause Always v (λ a b h p. tt))
outputs_extend (suc n) m v aways w s le =
    let d = either_due (v + n) (column n aways) in
    subst (λ (u : ℕ). Extends Always (AreTrue (joined_blocks (output_clauses v aways) (suc n))) v u) (let e : v + n + 1 ≡ v + suc n = omega arith in e)
    (next_are Always Always v (v + n) d.vars (joined_blocks (output_clauses v aways) n) d.clauses
    (outputs_extend n m v aways w s (omega arith))
    (either_is (v + n) (column n aways) (more_vars v (v + n) (column n aways) (omega arith) (column_within v n m aways w s (omega arith)))).extends
    (λ b p r. tt))

pub output_is : (b : ℕ → Bool) (m v : ℕ) (aways : List (List ℕ)) → AllVarsWithin v aways → All (λ c. length c ≡ m) aways → AreTrue (joined_blocks (output_clauses v aways) m) b → (k : ℕ) → k < m → b (v + k + 1) ≡ any_of b (column k aways)
output_is b m v aways w s r k lt =
    either_to b (v + k + 1) (column k aways)
    (joined_to b (output_clauses v aways) m r k lt)

below_either : (k m n : ℕ) → (nat_lt k m || nat_lt k n) ≡ nat_lt k (max m n)
below_either k m n = grind (arith, nat_tests)

pub any_column : (b : ℕ → Bool) (k n : ℕ) (cs : List (List ℕ)) → AllUnary b cs → All (λ c. length c ≡ n) cs → k < n → any_of b (column k cs) ≡ nat_lt k (greatest (counts_of b cs))
any_column b k n [] u s lt = let none : false ≡ nat_lt k 0 = grind (arith, nat_tests) in none
any_column b k n (c ∷ cs) u s lt =
    ap (λ x. x || any_of b (column k cs)) (u.0 k (omega (arith, All-head (λ x. length x ≡ n) c cs s)))
    ∙ ap (λ y. nat_lt k (count_of b c) || y) (any_column b k n cs u.1 (All-tail (λ x. length x ≡ n) c cs s) lt)
    ∙ below_either k (count_of b c) (greatest (counts_of b cs))

greatest_counts : (b : ℕ → Bool) (n : ℕ) (cs : List (List ℕ)) → All (λ c. length c ≡ n) cs → greatest (counts_of b cs) ≤ n
greatest_counts b n [] s = omega arith
greatest_counts b n (c ∷ cs) s =
    omega (arith, count_le b c, All-head (λ x. length x ≡ n) c cs s, greatest_counts b n cs (All-tail (λ x. length x ≡ n) c cs s))

greatest_replicate : (t u : ℕ) (us : List ℕ) → 1 ≤ t → greatest (replicate t u ++ us) ≡ max u (greatest us)
greatest_replicate zero u us some = absurd (omega arith)
greatest_replicate (suc zero) u us some = refl
greatest_replicate (suc (suc t)) u us some = omega (arith, greatest_replicate (suc t) u us (omega arith))

pub greatest_repeated : (times us : List ℕ) → length us ≡ length times → All (λ t. 1 ≤ t) times → greatest (repeated times us) ≡ greatest us
greatest_repeated [] [] e h = refl
greatest_repeated [] (u ∷ us) e h = absurd (omega arith)
greatest_repeated (t ∷ times) [] e h = absurd (omega arith)
greatest_repeated (t ∷ times) (u ∷ us) e h =
    greatest_replicate t u (repeated times us) (All-head (λ x. 1 ≤ x) t times h)
    ∙ ap (λ n. max u n) (greatest_repeated times us (omega arith) (All-tail (λ x. 1 ≤ x) t times h))

max_outputs : (v n : ℕ) (given : List ℕ) → HaveOutputs v given (concat (fresh_vars v n ∷ []))
max_outputs v n given =
    subst (λ xs. HaveOutputs v given xs) (sym (append-nil (fresh_vars v n))) (fresh_have v (v + n) given (fresh_vars v n) (fresh_vars_are v v (v + n) n (omega arith) (omega arith)))

pub max_is : (v : ℕ) (aways : List (List ℕ)) (times : List ℕ) → HaveLevels v aways times → AreLevels v aways times max_values (max_due v aways times)
max_is v aways times h =
    let n = top_of aways in
    let cs = joined_blocks (output_clauses v aways) n in
    let extends : Extends Always (AreTrue cs) v (v + n) = outputs_extend n n v aways h.within h.sized (omega arith) in
    let tells : (b : ℕ → Bool) → AllUnary b aways → AreTrue cs b → (k : ℕ) → k < n → b (v + k + 1) ≡ nat_lt k (greatest (counts_of b aways)) =
    λ b p r k lt. output_is b n v aways h.within h.sized r k lt ∙ any_column b k n aways p h.sized lt in
    let count : (b : ℕ → Bool) → AllUnary b aways → AreTrue cs b → count_of b (fresh_vars v n) ≡ greatest (counts_of b aways) =
    λ b p r. (let most : greatest (counts_of b aways) ≤ n = greatest_counts b n aways h.sized in
    let is : count_of b (fresh_vars v n) ≡ min n (greatest (counts_of b aways)) = count_fresh_vars v n (greatest (counts_of b aways)) b (tells b p r) in
    omega arith) in
    let o = max_outputs v n (concat aways) in
    record {
      extends = weaker (λ b. AllUnary b aways) Always (AreTrue cs) (AreTrue cs) v (v + n) extends (λ a b h' p. all_unary_agree v a b aways h' h.within p) extends.within (λ b p. tt) (λ b p r. r) (λ b p r. r);
      few = omega (arith, h.small);
      within = (fresh_vars_within v n (v + n) (omega arith), tt);
      in_order = λ b p r. (
        (λ k lt.
            let l : k < n = omega (arith, length-fresh_vars v n) in
            ap b (index_fresh_vars v n k l) ∙ tells b p r k l ∙ ap (λ m. nat_lt k m) (sym (count b p r))),
        tt,
      );
      values = λ b p r.
          ap (λ m. m ∷ []) (count b p r ∙ sym (greatest_repeated times (counts_of b aways) (length-map aways (count_of b) ∙ h.lengths) h.positive));
      fits = λ us same small.
          (omega (arith, length-fresh_vars v n, greatest_le n (repeated times us) (at_most n (repeated times us) (repeated_small n times us small))), tt);
      origin = o.origin;
      distinct = o.distinct;
    }
