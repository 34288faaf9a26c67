-- The clauses of a sum define its outputs.
use Rattle.std.proofs.Common.{◌≡◌, ℕ, zero, suc, ◌+◌, ◌-◌, ◌<◌, ◌≤◌, inl, inr, Bool, true, false, not, ◌&&◌, ◌||◌, List, [], ◌∷◌, ◌++◌, length, min, refl, sym, ap, ◌∙◌, subst, arith}
use Rattle.std.specs.Prelude.{slice_index, if◌then◌else◌, nat_lt, ◌==◌}
use Rattle.std.proofs.lemmas.Bool.Decides.{nat_tests, leb_tells}
use Rattle.clause_store.specs.declared.lit.Lit.{Lit}
use Rattle.clause_store.specs.Lits.{positive_lit, negative_lit, IsWithin, InRange, AreInRange}
use Rattle.clause_store.specs.Truth.{AreTrue, Agree, clause_true, all_true}
use Rattle.clause_store.specs.Extends.{Extends}
use Rattle.clause_store.proofs.Truths.{all_true-append, clause_true-append, and_left, and_right, and_both, or_none}
use Rattle.clause_store.proofs.Blocks.{block}
use Rattle.clause_store.proofs.Fresh.{length-fresh_vars, index_fresh_vars}
use Rattle.clause_store.specs.Fresh.{fresh_vars}
use Rattle.clause_store.proofs.Each.{each_append}
use Rattle.totalizer.proofs.FreshVars.{count_fresh_vars}
use Rattle.totalizer.specs.Counter.{count_of, IsUnary, AreVarsWithin}
use Rattle.totalizer.specs.Joined.{joined_blocks}
use Rattle.totalizer.specs.Plus.{under, over, up_clauses, down_clauses, pair_clauses, row_clauses, plus_clauses, plus_due, Both, IsSum}

count_step : (t : Bool) (m n : ℕ) → m ≤ n → (if t then suc m else m) ≤ suc n
count_step true m n h = omega arith
count_step false m n h = omega arith

-- no more are true than there are
pub count_le : (b : ℕ → Bool) (xs : List ℕ) → count_of b xs ≤ length xs
count_le b [] = omega arith
count_le b (x ∷ xs) = count_step (b x) (count_of b xs) (length xs) (count_le b xs)

under_num : (i c : ℕ) (w : Bool) → (1 ≤ i → w ≡ nat_lt (i - 1) c) → (if i == 0 then false else not w) ≡ nat_lt c i
under_num i c w h = grind (arith, nat_tests)

over_num : (i n c : ℕ) (w : Bool) → c ≤ n → i ≤ n → (i < n → w ≡ nat_lt i c) → (if i == n then false else w) ≡ nat_lt i c
over_num i n c w le in' h = grind (arith, nat_tests)

under_step : (t : Bool) (b : ℕ → Bool) (x : ℕ) → clause_true b (if t then [] else negative_lit x ∷ []) ≡ (if t then false else not (b x))
under_step true b x = refl
under_step false b x = or_none (not (b x))

over_step : (t : Bool) (b : ℕ → Bool) (x : ℕ) → clause_true b (if t then [] else positive_lit x ∷ []) ≡ (if t then false else b x)
over_step true b x = refl
over_step false b x = or_none (b x)

-- the literals of a counter, at a number that it may have
under_true : (b : ℕ → Bool) (xs : List ℕ) (i : ℕ) → IsUnary b xs → i ≤ length xs → clause_true b (under xs i) ≡ nat_lt (count_of b xs) i
under_true b xs i u h =
    under_step (i == 0) b (slice_index xs (i - 1)) ∙ under_num i (count_of b xs) (b (slice_index xs (i - 1))) (λ lo. u (i - 1) (omega arith))

over_true : (b : ℕ → Bool) (xs : List ℕ) (i : ℕ) → IsUnary b xs → i ≤ length xs → clause_true b (over xs i) ≡ nat_lt i (count_of b xs)
over_true b xs i u h =
    over_step (i == length xs) b (slice_index xs i) ∙ over_num i (length xs) (count_of b xs) (b (slice_index xs i)) (count_le b xs) h (λ lt. u i lt)

and_true : (x : Bool) → (x && true) ≡ x
and_true true = refl
and_true false = refl

up_step : (t : Bool) (b : ℕ → Bool) (us ws : List Lit) (k : ℕ) (m n : Bool) → clause_true b us ≡ m → clause_true b ws ≡ n → all_true b (if t then [] else (us ++ (ws ++ positive_lit k ∷ [])) ∷ []) ≡ (t || (m || (n || b k)))
up_step true b us ws k m n e f = refl
up_step false b us ws k m n e f =
    and_true (clause_true b (us ++ (ws ++ positive_lit k ∷ []))) ∙ clause_true-append b us (ws ++ positive_lit k ∷ []) ∙ ap (λ z. clause_true b us || z) (clause_true-append b ws (positive_lit k ∷ []))
    ∙ ap (λ z. clause_true b us || (clause_true b ws || z)) (or_none (b k)) ∙ ap (λ z. z || (clause_true b ws || b k)) e ∙ ap (λ z. m || (z || b k)) f

down_step : (t : Bool) (b : ℕ → Bool) (us ws : List Lit) (k : ℕ) (m n : Bool) → clause_true b us ≡ m → clause_true b ws ≡ n → all_true b (if t then [] else (us ++ (ws ++ negative_lit k ∷ [])) ∷ []) ≡ (t || (m || (n || not (b k))))
down_step true b us ws k m n e f = refl
down_step false b us ws k m n e f =
    and_true (clause_true b (us ++ (ws ++ negative_lit k ∷ []))) ∙ clause_true-append b us (ws ++ negative_lit k ∷ []) ∙ ap (λ z. clause_true b us || z) (clause_true-append b ws (negative_lit k ∷ []))
    ∙ ap (λ z. clause_true b us || (clause_true b ws || z)) (or_none (not (b k))) ∙ ap (λ z. z || (clause_true b ws || not (b k))) e ∙ ap (λ z. m || (z || not (b k))) f

up_truth : (b : ℕ → Bool) (xs ys : List ℕ) (v i j : ℕ) → IsUnary b xs → IsUnary b ys → i ≤ length xs → j ≤ length ys → all_true b (up_clauses xs ys v i j) ≡ ((i == 0 && (j == 0)) || (nat_lt (count_of b xs) i || (nat_lt (count_of b ys) j || b (v + i + j))))
up_truth b xs ys v i j u w h k =
    up_step (i == 0 && (j == 0)) b (under xs i) (under ys j) (v + i + j) (nat_lt (count_of b xs) i) (nat_lt (count_of b ys) j) (under_true b xs i u h) (under_true b ys j w k)

down_truth : (b : ℕ → Bool) (xs ys : List ℕ) (v i j : ℕ) → IsUnary b xs → IsUnary b ys → i ≤ length xs → j ≤ length ys → all_true b (down_clauses xs ys v i j) ≡ ((i == length xs && (j == length ys)) || (nat_lt i (count_of b xs) || (nat_lt j (count_of b ys) || not (b (v + i + j + 1)))))
down_truth b xs ys v i j u w h k =
    down_step (i == length xs && (j == length ys)) b (over xs i) (over ys j) (v + i + j + 1) (nat_lt i (count_of b xs)) (nat_lt j (count_of b ys)) (over_true b xs i u h) (over_true b ys j w k)

-- what the tests say
up_says : (i j m n : ℕ) (x : Bool) → ((i == 0 && (j == 0)) || (nat_lt m i || (nat_lt n j || x))) ≡ true → 1 ≤ i + j → i ≤ m → j ≤ n → x ≡ true
up_says i j m n x h lo le le' = grind (arith, nat_tests)

up_holds : (i j m n : ℕ) (x : Bool) → (1 ≤ i + j → i ≤ m → j ≤ n → x ≡ true) → ((i == 0 && (j == 0)) || (nat_lt m i || (nat_lt n j || x))) ≡ true
up_holds i j m n x h = grind (arith, nat_tests)

down_says : (i j p q m n : ℕ) (x : Bool) → ((i == p && (j == q)) || (nat_lt i m || (nat_lt j n || not x))) ≡ true → i ≤ p → j ≤ q → i + j < p + q → m ≤ i → n ≤ j → x ≡ false
down_says i j p q m n x h lo lo' lt le le' = grind (arith, nat_tests)

down_holds : (i j p q m n : ℕ) (x : Bool) → (i + j < p + q → m ≤ i → n ≤ j → x ≡ false) → i ≤ p → j ≤ q → ((i == p && (j == q)) || (nat_lt i m || (nat_lt j n || not x))) ≡ true
down_holds i j p q m n x h lo lo' = grind (arith, nat_tests)

pub joined_to : (b : ℕ → Bool) (f : ℕ → List (List Lit)) (n : ℕ) → AreTrue (joined_blocks f n) b → (j : ℕ) → j < n → AreTrue (f j) b
joined_to b f zero h j lt = absurd (omega arith)
joined_to b f (suc n) h j lt =
    let s = sym (all_true-append b (joined_blocks f n) (f n)) ∙ h in
    elim (leb_tells n j) [
      | inl x ↦ (let e : n ≡ j = let y = x.1 in omega arith in subst (λ j. AreTrue (f j) b) e (and_right (all_true b (joined_blocks f n)) (all_true b (f n)) s))
      | inr x ↦ joined_to b f n (and_left (all_true b (joined_blocks f n)) (all_true b (f n)) s) j x.1
    ]

pub joined_from : (b : ℕ → Bool) (f : ℕ → List (List Lit)) (n : ℕ) → ((j : ℕ) → j < n → AreTrue (f j) b) → AreTrue (joined_blocks f n) b
joined_from b f zero h = refl
joined_from b f (suc n) h =
    all_true-append b (joined_blocks f n) (f n) ∙ and_both (all_true b (joined_blocks f n)) (all_true b (f n)) (joined_from b f n (λ j lt. h j (omega arith))) (h n (omega arith))

pub joined_within : (v : ℕ) (f : ℕ → List (List Lit)) (n : ℕ) → ((j : ℕ) → j < n → AreInRange v (f j)) → AreInRange v (joined_blocks f n)
joined_within v f zero h = tt
joined_within v f (suc n) h = each_append (InRange v) (joined_blocks f n) (f n) (joined_within v f n (λ j lt. h j (omega arith))) (h n (omega arith))

lits_within-append : (v : ℕ) (xs ys : List Lit) → InRange v xs → InRange v ys → InRange v (xs ++ ys)
lits_within-append v [] ys h k = k
lits_within-append v (x ∷ xs) ys h k = (h.0, lits_within-append v xs ys h.1 k)

some_lits : (t : Bool) (v : ℕ) (l : Lit) → (t ≡ false → IsWithin v l) → InRange v (if t then [] else l ∷ [])
some_lits true v l h = tt
some_lits false v l h = (h refl, tt)

some_clause : (t : Bool) (v : ℕ) (c : List Lit) → (t ≡ false → InRange v c) → AreInRange v (if t then [] else c ∷ [])
some_clause true v c h = tt
some_clause false v c h = (h refl, tt)

not_zero : (i : ℕ) → (i == 0) ≡ false → 1 ≤ i
not_zero i h = grind (arith, nat_tests)

not_last : (i n : ℕ) → (i == n) ≡ false → i ≤ n → i < n
not_last i n h le = grind (arith, nat_tests)

not_both_zero : (i j : ℕ) → (i == 0 && (j == 0)) ≡ false → 1 ≤ i + j
not_both_zero i j h = grind (arith, nat_tests)

not_both_last : (i j p q : ℕ) → (i == p && (j == q)) ≡ false → i ≤ p → j ≤ q → i + j < p + q
not_both_last i j p q h le le' = grind (arith, nat_tests)

pub more_vars : (v w : ℕ) (xs : List ℕ) → v ≤ w → AreVarsWithin v xs → AreVarsWithin w xs
more_vars v w xs le h = λ k lt. let x = h k lt in let y = x.1 in (x.0, omega arith)

under_within : (w : ℕ) (xs : List ℕ) (i : ℕ) → AreVarsWithin w xs → i ≤ length xs → InRange w (under xs i)
under_within w xs i h le = some_lits (i == 0) w (negative_lit (slice_index xs (i - 1))) (λ e. let lo = not_zero i e in h (i - 1) (omega arith))

over_within : (w : ℕ) (xs : List ℕ) (i : ℕ) → AreVarsWithin w xs → i ≤ length xs → InRange w (over xs i)
over_within w xs i h le = some_lits (i == length xs) w (positive_lit (slice_index xs i)) (λ e. h i (not_last i (length xs) e le))

pair_within : (v w : ℕ) (xs ys : List ℕ) (i j : ℕ) → w ≡ v + (length xs + length ys) → AreVarsWithin w xs → AreVarsWithin w ys → i ≤ length xs → j ≤ length ys → AreInRange w (pair_clauses xs ys v i j)
pair_within v w xs ys i j e hx hy le le' =
    each_append (InRange w) (up_clauses xs ys v i j) (down_clauses xs ys v i j)
    (some_clause (i == 0 && (j == 0)) w (under xs i ++ (under ys j ++ positive_lit (v + i + j) ∷ [])) (λ t. let lo = not_both_zero i j t in
    lits_within-append w (under xs i) (under ys j ++ positive_lit (v + i + j) ∷ []) (under_within w xs i hx le) (lits_within-append w (under ys j) (positive_lit (v + i + j) ∷ []) (under_within w ys j hy le') ((omega arith, omega arith), tt))))
    (some_clause (i == length xs && (j == length ys)) w (over xs i ++ (over ys j ++ negative_lit (v + i + j + 1) ∷ [])) (λ t. let hi = not_both_last i j (length xs) (length ys) t le le' in
    lits_within-append w (over xs i) (over ys j ++ negative_lit (v + i + j + 1) ∷ []) (over_within w xs i hx le) (lits_within-append w (over ys j) (negative_lit (v + i + j + 1) ∷ []) (over_within w ys j hy le') ((omega arith, omega arith), tt))))

-- assignments that agree count alike
pub count_agree : (v : ℕ) (a b : ℕ → Bool) (xs : List ℕ) → Agree v a b → AreVarsWithin v xs → count_of a xs ≡ count_of b xs
count_agree v a b [] h w = refl
count_agree v a b (x ∷ xs) h w =
    let y = w 0 (omega arith) in
    let ih = count_agree v a b xs h (λ k lt. w (suc k) (omega arith)) in
    let e = h x y.0 y.1 in
    cc (ih, e)

pub unary_agree : (v : ℕ) (a b : ℕ → Bool) (xs : List ℕ) → Agree v a b → AreVarsWithin v xs → IsUnary a xs → IsUnary b xs
unary_agree v a b xs h w u = λ k lt. let y = w k lt in sym (h (slice_index xs k) y.0 y.1) ∙ u k lt ∙ ap (λ n. nat_lt k n) (count_agree v a b xs h w)

-- the new outputs, from 0, say whether the sum is above their number
pub plus_to : (v : ℕ) (xs ys : List ℕ) (b : ℕ → Bool) → Both xs ys b → AreTrue (plus_clauses xs ys v) b → (m : ℕ) → m < length xs + length ys → b (v + m + 1) ≡ nat_lt m (count_of b xs + count_of b ys)
plus_to v xs ys b p r m lt =
    let pick : (i j : ℕ) → i ≤ length xs → j ≤ length ys → AreTrue (pair_clauses xs ys v i j) b = λ i j le le'.
    joined_to b (pair_clauses xs ys v i) (length ys + 1) (joined_to b (row_clauses xs ys v) (length xs + 1) r i (omega arith)) j (omega arith) in
    let up : (i j : ℕ) → i ≤ length xs → j ≤ length ys → all_true b (up_clauses xs ys v i j) ≡ true = λ i j le le'. and_left _ _ (sym (all_true-append b (up_clauses xs ys v i j) (down_clauses xs ys v i j)) ∙ pick i j le le') in
    let down : (i j : ℕ) → i ≤ length xs → j ≤ length ys → all_true b (down_clauses xs ys v i j) ≡ true = λ i j le le'. and_right _ _ (sym (all_true-append b (up_clauses xs ys v i j) (down_clauses xs ys v i j)) ∙ pick i j le le') in
    let a = count_of b xs in
    let c = count_of b ys in
    let ale : a ≤ length xs = count_le b xs in
    let cle : c ≤ length ys = count_le b ys in
    elim (leb_tells (a + c) m) [
      | inl x ↦ (let big : a + c ≤ m = x.1 in
          let i = a + min (m - (a + c)) (length xs - a) in
          let j = m - i in
          let e : v + i + j + 1 ≡ v + m + 1 = omega arith in
          let d = down_says i j (length xs) (length ys) a c (b (v + i + j + 1)) (sym (down_truth b xs ys v i j p.0 p.1 (omega arith) (omega arith)) ∙ down i j (omega arith) (omega arith)) (omega arith) (omega arith) (omega arith) (omega arith) (omega arith) in
          let no : nat_lt m (a + c) ≡ false = grind (arith, nat_tests) in
          ap b (sym e) ∙ d ∙ sym no)
      | inr x ↦ (let small : m < a + c = x.1 in
          let i = min a (m + 1) in
          let j = m + 1 - i in
          let e : v + i + j ≡ v + m + 1 = omega arith in
          let d = up_says i j a c (b (v + i + j)) (sym (up_truth b xs ys v i j p.0 p.1 (omega arith) (omega arith)) ∙ up i j (omega arith) (omega arith)) (omega arith) (omega arith) (omega arith) in
          let yes : nat_lt m (a + c) ≡ true = grind (arith, nat_tests) in
          ap b (sym e) ∙ d ∙ sym yes)
    ]

plus_from : (v : ℕ) (xs ys : List ℕ) (b : ℕ → Bool) → Both xs ys b → ((m : ℕ) → m < length xs + length ys → b (v + m + 1) ≡ nat_lt m (count_of b xs + count_of b ys)) → AreTrue (plus_clauses xs ys v) b
plus_from v xs ys b p d =
    let a = count_of b xs in
    let c = count_of b ys in
    let ale : a ≤ length xs = count_le b xs in
    let cle : c ≤ length ys = count_le b ys in
    joined_from b (row_clauses xs ys v) (length xs + 1) (λ i hi. joined_from b (pair_clauses xs ys v i) (length ys + 1) (λ j hj.
    all_true-append b (up_clauses xs ys v i j) (down_clauses xs ys v i j)
    ∙ and_both _ _
    (up_truth b xs ys v i j p.0 p.1 (omega arith) (omega arith) ∙ up_holds i j a c (b (v + i + j)) (λ lo le le'.
    let e : v + i + j ≡ v + (i + j - 1) + 1 = omega arith in
    let yes : nat_lt (i + j - 1) (a + c) ≡ true = grind (arith, nat_tests) in
    ap b e ∙ d (i + j - 1) (omega arith) ∙ yes))
    (down_truth b xs ys v i j p.0 p.1 (omega arith) (omega arith) ∙ down_holds i j (length xs) (length ys) a c (b (v + i + j + 1)) (λ lt le le'.
    let e : v + i + j + 1 ≡ v + (i + j) + 1 = omega arith in
    let no : nat_lt (i + j) (a + c) ≡ false = grind (arith, nat_tests) in
    ap b e ∙ d (i + j) lt ∙ no) (omega arith) (omega arith))))

-- the clauses of a sum extend uniquely, where the given counters are in order
pub plus_defines : (v : ℕ) (xs ys : List ℕ) → AreVarsWithin v xs → AreVarsWithin v ys → Extends (Both xs ys) (AreTrue (plus_clauses xs ys v)) v (v + (length xs + length ys))
plus_defines v xs ys hx hy =
    let w = v + (length xs + length ys) in
    let wx : AreVarsWithin w xs = more_vars v w xs (omega arith) hx in
    let wy : AreVarsWithin w ys = more_vars v w ys (omega arith) hy in
    block (Both xs ys) v w (plus_clauses xs ys v) (λ b k. nat_lt (k - (v + 1)) (count_of b xs + count_of b ys)) (omega arith)
    (λ a b h p. (unary_agree v a b xs h hx p.0, unary_agree v a b ys h hy p.1))
    (λ a b h k. let e = count_agree v a b xs h hx in let f = count_agree v a b ys h hy in cc (e, f))
    (joined_within w (row_clauses xs ys v) (length xs + 1) (λ i hi. joined_within w (pair_clauses xs ys v i) (length ys + 1) (λ j hj. pair_within v w xs ys i j refl wx wy (omega arith) (omega arith))))
    (λ b p r k lo hi. let e : k ≡ v + (k - (v + 1)) + 1 = omega arith in ap b e ∙ plus_to v xs ys b p r (k - (v + 1)) (omega arith))
    (λ b p d. plus_from v xs ys b p (λ m lt. let e : v + m + 1 - (v + 1) ≡ m = omega arith in d (v + m + 1) (omega arith) (omega arith) ∙ ap (λ z. nat_lt z (count_of b xs + count_of b ys)) e))

-- the outputs of a sum are in order, and as many are true as in both
pub plus_value : (v : ℕ) (xs ys : List ℕ) (b : ℕ → Bool) → Both xs ys b → AreTrue (plus_clauses xs ys v) b → (count_of b (fresh_vars v (length xs + length ys)) ≡ count_of b xs + count_of b ys) × IsUnary b (fresh_vars v (length xs + length ys))
plus_value v xs ys b p r =
    let n = length xs + length ys in
    let ale : count_of b xs ≤ length xs = count_le b xs in
    let cle : count_of b ys ≤ length ys = count_le b ys in
    let e : count_of b (fresh_vars v n) ≡ count_of b xs + count_of b ys = let m = count_fresh_vars v n (count_of b xs + count_of b ys) b (plus_to v xs ys b p r) in omega arith in
    (e, λ k lt. let l : k < n = omega (arith, length-fresh_vars v n) in ap b (index_fresh_vars v n k l) ∙ plus_to v xs ys b p r k l ∙ ap (λ z. nat_lt k z) (sym e))

-- what is due for a sum is a sum
pub plus_is : (v : ℕ) (xs ys : List ℕ) → AreVarsWithin v xs → AreVarsWithin v ys → IsSum v xs ys (plus_due v xs ys)
plus_is v xs ys hx hy = record {
  extends = plus_defines v xs ys hx hy;
  in_order = λ b p r. (plus_value v xs ys b p r).1;
  value = λ b p r. (plus_value v xs ys b p r).0;
}
