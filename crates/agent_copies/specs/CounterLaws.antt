-- What is due for a distance counts it.
use Rattle.std.proofs.Common.{◌≡◌, ℕ, zero, suc, ◌+◌, ◌*◌, ◌<◌, ◌≤◌, Bool, true, false, not, ◌&&◌, ◌||◌, List, [], ◌∷◌, length, refl, sym, ap, ◌∙◌, subst, arith}
use Rattle.std.specs.Prelude.{if◌then◌else◌, slice_index}
use Rattle.formulas.specs.Limits.{valuation_limit}
use Rattle.clause_store.specs.declared.lit.Lit.{Lit}
use Rattle.clause_store.specs.Lits.{positive_lit, negated, IsWithin, InRange}
use Rattle.clause_store.specs.Truth.{AreTrue, lit_true}
use Rattle.clause_store.specs.Extends.{Extends, Always}
use Rattle.clause_store.proofs.Truths.{lit_agree, lit_true-negated, both_true}
use Rattle.clause_store.proofs.Blocks.{single, next_are, no_clause}
use Rattle.clause_store.specs.Fresh.{fresh_vars}
use Rattle.clause_store.proofs.Fresh.{length-fresh_vars, index_fresh_vars}
use Rattle.clause_store.specs.Limits.{var_limit}
use Rattle.clause_store.proofs.Each.{each_place}
use Rattle.clause_translation.specs.Definition.{atom_lit}
use Rattle.merge_model.specs.Distances.{apart, hamming, drastic}
use Rattle.totalizer.specs.Counter.{Due, AllUnary, sum_of, leaves}
use Rattle.totalizer.specs.Joined.{joined_blocks}
use Rattle.totalizer.specs.Total.{total_due}
use Rattle.totalizer.specs.Either.{any_of, either_due}
use Rattle.totalizer.proofs.FreshVars.{fresh_vars_within}
use Rattle.totalizer.proofs.Law.{joined_to}
use Rattle.totalizer.proofs.Totals.{total_law}
use Rattle.totalizer.proofs.Sizes.{leaves_unary, leaves_within, length-leaves, size, size_leaves, total_size, one_fresh, total_fresh}
use Rattle.totalizer.proofs.Disjunctions.{either_is}
use Rattle.agent_copies.specs.Counter.{truth_of, IsCounter}
use Rattle.agent_copies.specs.Differences.{difference_clauses, difference_at, hamming_due, drastic_due}
use Rattle.agent_copies.specs.Limits.{counter_room}

-- whether two truth values differ
abbrev pub differ : Bool → Bool → Bool
differ true y = not y
differ false y = y

-- the truth table of a difference
differ_to : (e x y : Bool) → ((not e || (x || (y || false))) && ((not e || (not x || (not y || false))) && ((e || (not x || (y || false))) && ((e || (x || (not y || false))) && true)))) ≡ true → e ≡ differ x y
differ_to true true true h = cc
differ_to true true false h = refl
differ_to true false true h = refl
differ_to true false false h = cc
differ_to false true true h = refl
differ_to false true false h = cc
differ_to false false true h = cc
differ_to false false false h = refl

differ_from : (e x y : Bool) → e ≡ differ x y → ((not e || (x || (y || false))) && ((not e || (not x || (not y || false))) && ((e || (not x || (y || false))) && ((e || (x || (not y || false))) && true)))) ≡ true
differ_from true true true h = cc
differ_from true true false h = refl
differ_from true false true h = refl
differ_from true false false h = cc
differ_from false true true h = refl
differ_from false true false h = cc
differ_from false false true h = cc
differ_from false false false h = refl

-- with names for the negations
spelled : (e x y nx ny : Bool) → nx ≡ not x → ny ≡ not y → ((not e || (x || (y || false))) && ((not e || (nx || (ny || false))) && ((e || (nx || (y || false))) && ((e || (x || (ny || false))) && true)))) ≡ ((not e || (x || (y || false))) && ((not e || (not x || (not y || false))) && ((e || (not x || (y || false))) && ((e || (x || (not y || false))) && true))))
spelled e x y nx ny p q = cc (p, q)

difference_to : (b : ℕ → Bool) (e : ℕ) (x y : Lit) → AreTrue (difference_clauses (positive_lit e) x y) b → b e ≡ differ (lit_true b x) (lit_true b y)
difference_to b e x y r = differ_to (b e) (lit_true b x) (lit_true b y) (sym (spelled (b e) (lit_true b x) (lit_true b y) (lit_true b (negated x)) (lit_true b (negated y)) (lit_true-negated b x) (lit_true-negated b y)) ∙ r)

difference_from : (b : ℕ → Bool) (e : ℕ) (x y : Lit) → b e ≡ differ (lit_true b x) (lit_true b y) → AreTrue (difference_clauses (positive_lit e) x y) b
difference_from b e x y r = spelled (b e) (lit_true b x) (lit_true b y) (lit_true b (negated x)) (lit_true b (negated y)) (lit_true-negated b x) (lit_true-negated b y) ∙ differ_from (b e) (lit_true b x) (lit_true b y) r

difference_defines : (v : ℕ) (x y : Lit) → IsWithin v x → IsWithin v y → Extends Always (AreTrue (difference_clauses (positive_lit (v + 1)) x y)) v (v + 1)
difference_defines v x y hx hy =
    let wx : IsWithin (v + 1) x = (hx.0, let z = hx.1 in omega arith) in
    let wy : IsWithin (v + 1) y = (hy.0, let z = hy.1 in omega arith) in
    let we : (1 ≤ v + 1) × (v + 1 ≤ v + 1) = (omega arith, omega arith) in
    single Always v (difference_clauses (positive_lit (v + 1)) x y) (λ b. differ (lit_true b x) (lit_true b y)) (λ a b h p. tt)
    (λ a b h. let s = lit_agree v a b x h hx in let t = lit_agree v a b y h hy in cc (s, t))
    ((we, (wx, (wy, tt))), ((we, (wx, (wy, tt))), ((we, (wx, (wy, tt))), ((we, (wx, (wy, tt))), tt))))
    (λ b p r. difference_to b (v + 1) x y r)
    (λ b p r. difference_from b (v + 1) x y r)

wider : (v w : ℕ) (l : Lit) → v ≤ w → IsWithin v l → IsWithin w l
wider v w l le h = (h.0, let z = h.1 in omega arith)

differences_define : (v : ℕ) (xs ys : List Lit) (n : ℕ) → n ≤ length xs → n ≤ length ys → InRange v xs → InRange v ys → Extends Always (AreTrue (joined_blocks (difference_at v xs ys) n)) v (v + n)
differences_define v xs ys zero hx hy rx ry = let z : v ≡ v + 0 = omega arith in
    subst (λ w. Extends Always (AreTrue []) v w) z (no_clause Always v (λ a b h p. tt))
differences_define v xs ys (suc n) hx hy rx ry =
    let z : v + n + 1 ≡ v + suc n = omega arith in
    subst (λ w. Extends Always (AreTrue (joined_blocks (difference_at v xs ys) (suc n))) v w) z
    (next_are Always Always v (v + n) (v + n + 1) (joined_blocks (difference_at v xs ys) n) (difference_at v xs ys n) (differences_define v xs ys n (omega arith) (omega arith) rx ry)
    (difference_defines (v + n) (atom_lit xs n) (atom_lit ys n) (wider v (v + n) (atom_lit xs n) (omega arith) (each_place (IsWithin v) xs n (positive_lit 0) rx (omega arith))) (wider v (v + n) (atom_lit ys n) (omega arith) (each_place (IsWithin v) ys n (positive_lit 0) ry (omega arith)))) (λ b p r. tt))

-- each difference variable has its value
abbrev pub AreDifferences : (ℕ → Bool) → ℕ → List Lit → List Lit → Type 0
AreDifferences b v xs ys = (k : ℕ) → k < length xs → b (v + k + 1) ≡ differ (lit_true b (atom_lit xs k)) (lit_true b (atom_lit ys k))

are_differences : (b : ℕ → Bool) (v : ℕ) (xs ys : List Lit) → AreTrue (joined_blocks (difference_at v xs ys) (length xs)) b → AreDifferences b v xs ys
are_differences b v xs ys r = λ k lt. difference_to b (v + k + 1) (atom_lit xs k) (atom_lit ys k) (joined_to b (difference_at v xs ys) (length xs) r k lt)

later : (b : ℕ → Bool) (v : ℕ) (x y : Lit) (xs ys : List Lit) → AreDifferences b v (x ∷ xs) (y ∷ ys) → AreDifferences b (v + 1) xs ys
later b v x y xs ys h = λ k lt. let e : v + 1 + k + 1 ≡ v + suc k + 1 = omega arith in ap b e ∙ h (suc k) (omega arith)

head : (b : ℕ → Bool) (v : ℕ) (x y : Lit) (xs ys : List Lit) → AreDifferences b v (x ∷ xs) (y ∷ ys) → b (v + 1) ≡ differ (lit_true b x) (lit_true b y)
head b v x y xs ys h = let e : v + 1 ≡ v + 0 + 1 = omega arith in ap b e ∙ h 0 (omega arith)

apart_is : (t x y : Bool) (m n : ℕ) → t ≡ differ x y → m ≡ n → (if t then 1 else 0) + m ≡ apart x y + n
apart_is true true true m n e f = cc
apart_is true true false m n e f = omega arith
apart_is true false true m n e f = omega arith
apart_is true false false m n e f = cc
apart_is false true true m n e f = omega arith
apart_is false true false m n e f = cc
apart_is false false true m n e f = cc
apart_is false false false m n e f = omega arith

-- the difference variables sum to the Hamming distance
leaves_sum : (b : ℕ → Bool) (v : ℕ) (xs ys : List Lit) → length xs ≡ length ys → AreDifferences b v xs ys → sum_of b (leaves (fresh_vars v (length xs))) ≡ hamming (truth_of b xs) (truth_of b ys)
leaves_sum b v [] ys e h = refl
leaves_sum b v (x ∷ xs) [] e h = absurd (omega arith)
leaves_sum b v (x ∷ xs) (y ∷ ys) e h =
    apart_is (b (v + 1)) (lit_true b x) (lit_true b y) _ _ (head b v x y xs ys h) (leaves_sum b (v + 1) xs ys (omega arith) (later b v x y xs ys h))

some_is : (t u x y : Bool) (v w : List Bool) → t ≡ differ x y → (if u then 1 else 0) ≡ drastic v w → (if t || u then 1 else 0) ≡ drastic (x ∷ v) (y ∷ w)
some_is true u true true v w e f = cc
some_is true u true false v w e f = refl
some_is true u false true v w e f = refl
some_is true u false false v w e f = cc
some_is false u true true v w e f = f
some_is false u true false v w e f = cc
some_is false u false true v w e f = cc
some_is false u false false v w e f = f

-- some difference variable is true exactly where the drastic distance is 1
some_differs : (b : ℕ → Bool) (v : ℕ) (xs ys : List Lit) → length xs ≡ length ys → AreDifferences b v xs ys → (if any_of b (fresh_vars v (length xs)) then 1 else 0) ≡ drastic (truth_of b xs) (truth_of b ys)
some_differs b v [] [] e h = refl
some_differs b v [] (y ∷ ys) e h = absurd (omega arith)
some_differs b v (x ∷ xs) [] e h = absurd (omega arith)
some_differs b v (x ∷ xs) (y ∷ ys) e h =
    some_is (b (v + 1)) (any_of b (fresh_vars (v + 1) (length xs))) (lit_true b x) (lit_true b y) (truth_of b xs) (truth_of b ys) (head b v x y xs ys h) (some_differs b (v + 1) xs ys (omega arith) (later b v x y xs ys h))

mul_le : (n k : ℕ) → n ≤ k → n * n ≤ k * k
mul_le n k h = grind arith

big : (v n m s w : ℕ) → n ≤ valuation_limit → m ≡ n → s ≡ n → w ≤ (v + n) + m * s → w ≤ v + counter_room
big v n m s w h e f g = let x : n * n ≤ valuation_limit * valuation_limit = mul_le n valuation_limit h in let y : m * s ≡ n * n = cc in omega arith

-- the total of the difference variables is small
abbrev pub hamming_total : ℕ → ℕ → Due
hamming_total v n = total_due (v + n) (leaves (fresh_vars v n))

hamming_few : (v n : ℕ) → 1 ≤ n → n ≤ valuation_limit → (hamming_total v n).vars ≤ v + counter_room
hamming_few v n lo hi =
    let ls = leaves (fresh_vars v n) in
    let a = length-leaves (fresh_vars v n) ∙ length-fresh_vars v n in
    let s = total_size (length ls) (v + n) ls (omega (arith, a)) (omega arith) in
    big v n (length ls) (size ls) (hamming_total v n).vars hi a (size_leaves (fresh_vars v n) ∙ length-fresh_vars v n) s.0

hamming_size : (v n : ℕ) → 1 ≤ n → length (hamming_total v n).outputs ≡ n
hamming_size v n lo =
    let ls = leaves (fresh_vars v n) in
    let a = length-leaves (fresh_vars v n) ∙ length-fresh_vars v n in
    (total_size (length ls) (v + n) ls (omega (arith, a)) (omega arith)).1 ∙ size_leaves (fresh_vars v n) ∙ length-fresh_vars v n

between : (v n : ℕ) → (k : ℕ) → k < length (fresh_vars v n) → (v < slice_index (fresh_vars v n) k) × (slice_index (fresh_vars v n) k ≤ v + n)
between v n k lt =
    let l : k < n = omega (arith, length-fresh_vars v n) in
    let e = index_fresh_vars v n k l in
    (omega arith, omega arith)

-- what is due for the Hamming distance counts it
pub hamming_is : (v : ℕ) (xs ys : List Lit) → length xs ≡ length ys → 1 ≤ length xs → length xs ≤ valuation_limit → InRange v xs → InRange v ys → IsCounter v xs ys hamming (length xs) (hamming_due v xs ys)
hamming_is v xs ys e lo hi hx hy =
    let n = length xs in
    let vars = fresh_vars v n in
    let ls = leaves vars in
    let ds = joined_blocks (difference_at v xs ys) n in
    let a = length-leaves vars ∙ length-fresh_vars v n in
    let t = total_law (v + n) ls (omega (arith, a)) (leaves_within (v + n) vars (fresh_vars_within v n (v + n) (omega arith))) in
    record {
      extends = next_are Always (λ b. AllUnary b ls) v (v + n) (hamming_total v n).vars ds (hamming_total v n).clauses (differences_define v xs ys n (omega arith) (omega arith) hx hy) t.extends (λ b p r. leaves_unary b vars);
      few = hamming_few v n lo hi;
      size = hamming_size v n lo;
      fresh = total_fresh (length ls) v (v + n) vars (omega (arith, length-fresh_vars v n)) (omega (arith, length-leaves vars)) (omega arith) (between v n);
      in_order = λ b r. t.in_order b (leaves_unary b vars) (both_true b ds (hamming_total v n).clauses r).1;
      value = λ b r. t.value b (leaves_unary b vars) (both_true b ds (hamming_total v n).clauses r).1 ∙ leaves_sum b v xs ys e (are_differences b v xs ys (both_true b ds (hamming_total v n).clauses r).0);
    }

-- what is due for the drastic distance counts it
pub drastic_is : (v : ℕ) (xs ys : List Lit) → length xs ≡ length ys → 1 ≤ length xs → length xs ≤ valuation_limit → InRange v xs → InRange v ys → IsCounter v xs ys drastic 1 (drastic_due v xs ys)
drastic_is v xs ys e lo hi hx hy =
    let n = length xs in
    let vars = fresh_vars v n in
    let d = either_due (v + n) vars in
    let ds = joined_blocks (difference_at v xs ys) n in
    let t = either_is (v + n) vars (fresh_vars_within v n (v + n) (omega arith)) in
    record {
      extends = next_are Always Always v (v + n) (v + n + 1) ds d.clauses (differences_define v xs ys n (omega arith) (omega arith) hx hy) t.extends (λ b p r. tt);
      few = omega arith;
      size = refl;
      fresh = one_fresh v (v + n + 1) (v + n + 1) (omega arith) (omega arith);
      in_order = λ b r. t.in_order b (both_true b ds d.clauses r).1;
      value = λ b r. t.value b (both_true b ds d.clauses r).1 ∙ some_differs b v xs ys e (are_differences b v xs ys (both_true b ds d.clauses r).0);
    }

-- there is room for the total of the difference variables
pub hamming_room : (v n : ℕ) → 1 ≤ n → n ≤ valuation_limit → v + counter_room ≤ var_limit → (hamming_total v n).vars ≤ var_limit
hamming_room v n lo hi room = let h = hamming_few v n lo hi in omega arith
