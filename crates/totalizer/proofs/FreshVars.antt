-- What holds of variables one after another.
use Rattle.std.proofs.Common.{◌≡◌, ℕ, zero, suc, ◌+◌, ◌-◌, ◌<◌, ◌≤◌, Bool, min, ap, ◌∙◌, arith}
use Rattle.std.specs.Prelude.{if◌then◌else◌, nat_lt}
use Rattle.std.proofs.lemmas.Bool.Decides.{nat_tests}
use Rattle.clause_store.specs.Fresh.{fresh_vars}
use Rattle.clause_store.proofs.Fresh.{length-fresh_vars, index_fresh_vars}
use Rattle.totalizer.specs.Counter.{count_of, AreVarsWithin, AreFresh}

pub fresh_vars_within : (v n w : ℕ) → v + n ≤ w → AreVarsWithin w (fresh_vars v n)
fresh_vars_within v n w le = λ k lt.
    let l : k < n = omega (arith, length-fresh_vars v n) in
    let e = index_fresh_vars v n k l in
    (omega arith, omega arith)

pub fresh_vars_are : (u v w n : ℕ) → u ≤ v → v + n ≤ w → AreFresh u w (fresh_vars v n)
fresh_vars_are u v w n le hi = record {
  above = λ k lt. let l : k < n = omega (arith, length-fresh_vars v n) in let e = index_fresh_vars v n k l in omega arith;
  within = λ k lt. let l : k < n = omega (arith, length-fresh_vars v n) in let e = index_fresh_vars v n k l in omega arith;
  distinct = λ j k hj hk e.
      let a : j < n = omega (arith, length-fresh_vars v n) in
      let b : k < n = omega (arith, length-fresh_vars v n) in
      let x = index_fresh_vars v n j a in
      let y = index_fresh_vars v n k b in
      omega arith;
}

below_next : (m c : ℕ) → nat_lt (suc m) c ≡ nat_lt m (c - 1)
below_next m c = grind (arith, nat_tests)

count_first : (n c : ℕ) (t : Bool) (m : ℕ) → m ≡ min n (c - 1) → t ≡ nat_lt 0 c → (if t then suc m else m) ≡ min (suc n) c
count_first n c t m e f = grind (arith, nat_tests)

-- where the first c variables are true, so many of n are
pub count_fresh_vars : (v n c : ℕ) (b : ℕ → Bool) → ((m : ℕ) → m < n → b (v + m + 1) ≡ nat_lt m c) → count_of b (fresh_vars v n) ≡ min n c
count_fresh_vars v zero c b h = omega arith
count_fresh_vars v (suc n) c b h =
    let first : v + 1 ≡ v + 0 + 1 = omega arith in
    let rest = count_fresh_vars (v + 1) n (c - 1) b (λ m lt. let e : v + 1 + m + 1 ≡ v + suc m + 1 = omega arith in ap b e ∙ h (suc m) (omega arith) ∙ below_next m c) in
    count_first n c (b (v + 1)) (count_of b (fresh_vars (v + 1) n)) rest (ap b first ∙ h 0 (omega arith))
