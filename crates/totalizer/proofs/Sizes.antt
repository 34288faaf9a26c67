-- How many variables and outputs a total has, and that new outputs are distinct.
use Rattle.std.proofs.Common.{◌≡◌, ℕ, zero, suc, ◌+◌, ◌*◌, ◌<◌, ◌≤◌, ◌/◌, Bool, true, false, List, [], ◌∷◌, length, take, drop, length-take, length-drop, refl, sym, subst, arith}
use Rattle.std.specs.Prelude.{nat_le, nat_lt, if◌then◌else◌, slice_index}
use Rattle.std.proofs.lemmas.Bool.Decides.{nat_tests}
use Rattle.clause_store.specs.Fresh.{fresh_vars}
use Rattle.clause_store.proofs.Fresh.{length-fresh_vars}
use Rattle.totalizer.specs.Counter.{Due, IsUnary, AreVarsWithin, AllUnary, AllVarsWithin, leaves, AreFresh}
use Rattle.totalizer.specs.Total.{both_due, total_by, total_due}
use Rattle.totalizer.proofs.FreshVars.{fresh_vars_are}
use Rattle.totalizer.proofs.Totals.{total_grows, total_more, pick_false}

one_unary : (t : Bool) → t ≡ nat_lt 0 (if t then 1 else 0)
one_unary true = refl
one_unary false = refl

pub leaf_unary : (b : ℕ → Bool) (x : ℕ) → IsUnary b (x ∷ [])
leaf_unary b x zero lt = one_unary (b x)
leaf_unary b x (suc k) lt = absurd (omega arith)

pub leaves_unary : (b : ℕ → Bool) (xs : List ℕ) → AllUnary b (leaves xs)
leaves_unary b [] = tt
leaves_unary b (x ∷ xs) = (leaf_unary b x, leaves_unary b xs)

one_within : (x w : ℕ) → 1 ≤ x → x ≤ w → AreVarsWithin w (x ∷ [])
one_within x w lo hi zero lt = (lo, hi)
one_within x w lo hi (suc k) lt = absurd (omega arith)

pub leaves_within : (w : ℕ) (xs : List ℕ) → AreVarsWithin w xs → AllVarsWithin w (leaves xs)
leaves_within w [] h = tt
leaves_within w (x ∷ xs) h = (one_within x w (h 0 (omega arith)).0 (h 0 (omega arith)).1, leaves_within w xs (λ k lt. h (suc k) (omega arith)))

pub length-leaves : (xs : List ℕ) → length (leaves xs) ≡ length xs
length-leaves [] = refl
length-leaves (x ∷ xs) = omega (arith, length-leaves xs)

-- how many variables and outputs a total has
abbrev pub size : List (List ℕ) → ℕ
size [] = 0
size (p ∷ ps) = length p + size ps

size_split : (n : ℕ) (parts : List (List ℕ)) → size (take n parts) + size (drop n parts) ≡ size parts
size_split zero parts = omega arith
size_split (suc n) [] = refl
size_split (suc n) (p ∷ ps) = let s = size_split n ps in omega arith

pub size_leaves : (xs : List ℕ) → size (leaves xs) ≡ length xs
size_leaves [] = refl
size_leaves (x ∷ xs) = omega (arith, size_leaves xs)

size_num : (f v a b s lv rv lo ro : ℕ) → lv ≤ v + f * a → lo ≡ a → rv ≤ lv + f * b → ro ≡ b → a + b ≡ s → rv + (lo + ro) ≤ v + suc f * s
size_num f v a b s lv rv lo ro h e k g i = grind arith

pub total_size : (f v : ℕ) (parts : List (List ℕ)) → 1 ≤ length parts → length parts ≤ f → ((total_by f v parts).vars ≤ v + f * size parts) × (length (total_by f v parts).outputs ≡ size parts)
total_size zero v parts lo hi = absurd (omega arith)
total_size (suc f) v [] lo hi = absurd (omega arith)
total_size (suc f) v (p ∷ []) lo hi = (omega arith, omega arith)
total_size (suc f) v (p ∷ q ∷ ps) lo hi =
    let parts = p ∷ q ∷ ps in
    let n = length parts / 2 in
    let l = total_by f v (take n parts) in
    let a = total_size f v (take n parts) (omega (arith, length-take n parts)) (omega (arith, length-take n parts)) in
    let b = total_size f l.vars (drop n parts) (omega (arith, length-drop n parts)) (omega (arith, length-drop n parts)) in
    let s = size_split n parts in
    let r = total_by f l.vars (drop n parts) in
    let e : nat_le (length parts) 1 ≡ false = grind (arith, nat_tests) in
    let x : r.vars + (length l.outputs + length r.outputs) ≤ v + suc f * size parts = size_num f v (size (take n parts)) (size (drop n parts)) (size parts) l.vars r.vars (length l.outputs) (length r.outputs) a.0 a.1 b.0 b.1 s in
    let y : length (fresh_vars r.vars (length l.outputs + length r.outputs)) ≡ size parts = let p = a.1 in let q = b.1 in omega (arith, length-fresh_vars r.vars (length l.outputs + length r.outputs)) in
    let both : ((both_due l r).vars ≤ v + suc f * size parts) × (length (both_due l r).outputs ≡ size parts) = (x, y) in
    subst (λ (d : Due). (d.vars ≤ v + suc f * size parts) × (length d.outputs ≡ size parts)) (sym (pick_false (nat_le (length parts) 1) _ _ e)) both

above_one : (u x k : ℕ) → u < x → k < length (x ∷ []) → u < slice_index (x ∷ []) k
above_one u x zero lo lt = lo
above_one u x (suc k) lo lt = absurd (omega arith)

within_one : (x w k : ℕ) → x ≤ w → k < length (x ∷ []) → slice_index (x ∷ []) k ≤ w
within_one x w zero hi lt = hi
within_one x w (suc k) hi lt = absurd (omega arith)

pub one_fresh : (u x w : ℕ) → u < x → x ≤ w → AreFresh u w (x ∷ [])
one_fresh u x w lo hi = record { above = λ k. above_one u x k lo; within = λ k. within_one x w k hi; distinct = λ j k hj hk e. omega arith }

-- the outputs of a total of fresh variables
pub total_fresh : (f u v : ℕ) (xs : List ℕ) → 1 ≤ length xs → length xs ≤ f → u ≤ v → ((k : ℕ) → k < length xs → (u < slice_index xs k) × (slice_index xs k ≤ v)) → AreFresh u (total_by f v (leaves xs)).vars (total_by f v (leaves xs)).outputs
total_fresh zero u v xs lo hi le h = absurd (omega arith)
total_fresh (suc f) u v [] lo hi le h = absurd (omega arith)
total_fresh (suc f) u v (x ∷ []) lo hi le h = one_fresh u x v (h 0 (omega arith)).0 (h 0 (omega arith)).1
total_fresh (suc f) u v (x ∷ y ∷ xs) lo hi le h =
    let parts = leaves (x ∷ y ∷ xs) in
    let n = length parts / 2 in
    let l = total_by f v (take n parts) in
    let r = total_by f l.vars (drop n parts) in
    let e : nat_le (length parts) 1 ≡ false = grind (arith, nat_tests) in
    let a = total_grows f v (take n parts) in
    let b = total_grows f l.vars (drop n parts) in
    subst (λ (d : Due). AreFresh u d.vars d.outputs) (sym (pick_false (nat_le (length parts) 1) _ _ e))
    (fresh_vars_are u r.vars (r.vars + (length l.outputs + length r.outputs)) (length l.outputs + length r.outputs) (omega arith) (omega arith))

-- a total of two or more parts has new outputs alone
pub more_fresh : (v : ℕ) (parts : List (List ℕ)) → 2 ≤ length parts → AreFresh v (total_due v parts).vars (total_due v parts).outputs
more_fresh v parts big =
    let front = take (length parts / 2) parts in
    let l = total_due v front in
    let back = drop (length parts / 2) parts in
    let r = total_due l.vars back in
    let a = total_grows (length front) v front in
    let b = total_grows (length back) l.vars back in
    let n = length l.outputs + length r.outputs in
    subst (λ (d : Due). AreFresh v d.vars d.outputs) (sym (total_more v parts big)) (fresh_vars_are v r.vars (r.vars + n) n (omega arith) (omega arith))
