-- What is due for a copy is a copy.
use Rattle.std.proofs.Common.{◌≡◌, ℕ, zero, suc, ◌+◌, ◌<◌, ◌≤◌, Bool, List, ◌∷◌, ◌++◌, length, refl, sym, ap, subst, arith}
use Rattle.std.specs.Prelude.{slice_index}
use Rattle.clause_store.specs.declared.lit.Lit.{Lit}
use Rattle.clause_store.specs.Lits.{InRange}
use Rattle.clause_store.specs.Extends.{Always}
use Rattle.clause_store.proofs.Truths.{within_more, both_true}
use Rattle.clause_store.proofs.Blocks.{next_are}
use Rattle.clause_store.specs.Fresh.{fresh_vars, fresh_lits}
use Rattle.clause_store.proofs.Fresh.{length-fresh_lits, fresh_lits_in}
use Rattle.formulas.specs.declared.formula.Formula.{Formula}
use Rattle.formulas.specs.Formulas.{width_of}
use Rattle.formulas.specs.Limits.{valuation_limit}
use Rattle.clause_translation.specs.Definition.{definition}
use Rattle.clause_translation.proofs.Parts.{root_is, some_node}
use Rattle.clause_translation.proofs.Defines.{defines}
use Rattle.totalizer.specs.Counter.{Due, AreFresh}
use Rattle.agent_copies.specs.Counter.{IsCounter}
use Rattle.agent_copies.specs.Copy.{copy_due, IsCopy}

-- what the law of a distance says
abbrev pub Counts : (List Bool → List Bool → ℕ) → (ℕ → ℕ) → (ℕ → List Lit → List Lit → Due) → Type 0
Counts dist most due = (v : ℕ) (shared own : List Lit) → length shared ≡ length own → 1 ≤ length shared → length shared ≤ valuation_limit → InRange v shared → InRange v own → IsCounter v shared own dist (most (length shared)) (due v shared own)

cons_above : (u v w x : ℕ) (ys : List ℕ) → u < x → x ≤ v → AreFresh v w ys → (k : ℕ) → k < length (x ∷ ys) → u < slice_index (x ∷ ys) k
cons_above u v w x ys lo hi f zero lt = lo
cons_above u v w x ys lo hi f (suc k) lt = let y = f.above k (omega arith) in omega arith

cons_within : (u v w x : ℕ) (ys : List ℕ) → u < x → x ≤ v → v ≤ w → AreFresh v w ys → (k : ℕ) → k < length (x ∷ ys) → slice_index (x ∷ ys) k ≤ w
cons_within u v w x ys lo hi le f zero lt = omega arith
cons_within u v w x ys lo hi le f (suc k) lt = f.within k (omega arith)

cons_distinct : (u v w x : ℕ) (ys : List ℕ) → x ≤ v → AreFresh v w ys → (j k : ℕ) → j < length (x ∷ ys) → k < length (x ∷ ys) → slice_index (x ∷ ys) j ≡ slice_index (x ∷ ys) k → j ≡ k
cons_distinct u v w x ys hi f zero zero hj hk e = refl
cons_distinct u v w x ys hi f zero (suc k) hj hk e = absurd (let y = f.above k (omega arith) in omega arith)
cons_distinct u v w x ys hi f (suc j) zero hj hk e = absurd (let y = f.above j (omega arith) in omega arith)
cons_distinct u v w x ys hi f (suc j) (suc k) hj hk e = ap suc (f.distinct j k (omega arith) (omega arith) e)

-- one more variable, below the others
pub fresh_cons : (u v w x : ℕ) (ys : List ℕ) → u < x → x ≤ v → v ≤ w → AreFresh v w ys → AreFresh u w (x ∷ ys)
fresh_cons u v w x ys lo hi le f = record {
  above = cons_above u v w x ys lo hi f;
  within = cons_within u v w x ys lo hi le f;
  distinct = cons_distinct u v w x ys hi f;
}

fresh_row : (v n w : ℕ) (ys : List ℕ) → v + n ≤ w → AreFresh (v + n) w ys → AreFresh v w (fresh_vars v n ++ ys)
fresh_row v zero w ys le f = let e : v + 0 ≡ v = omega arith in subst (λ n. AreFresh n w ys) e f
fresh_row v (suc n) w ys le f =
    let e : v + suc n ≡ v + 1 + n = omega arith in
    fresh_cons v (v + 1) w (v + 1) (fresh_vars (v + 1) n ++ ys) (omega arith) (omega arith) (omega arith)
    (fresh_row (v + 1) n w ys (omega arith) (subst (λ m. AreFresh m w ys) e f))

-- what is due for a copy is a copy
pub copy_is : (dist : List Bool → List Bool → ℕ) (most : ℕ → ℕ) (due : ℕ → List Lit → List Lit → Due) → Counts dist most due → (v : ℕ) (shared : List Lit) (base : Formula) → 1 ≤ length shared → length shared ≤ valuation_limit → InRange v shared → width_of base ≤ length shared → IsCopy v shared base dist (most (length shared)) (copy_due due v shared base)
copy_is dist most due law v shared base lo hi in_range wide =
    let n = length shared in
    let own = fresh_lits v n in
    let ln = length-fresh_lits v n in
    let d = definition own base (v + n) in
    let rn = root_is base own (v + n) in
    let sn = some_node base in
    let c = due d.root shared own in
    let defined = defines base (v + n) own (fresh_lits_in v n (v + n) (omega arith)) (omega (arith, ln)) in
    let counted = law d.root shared own (sym ln) lo hi (within_more v d.root shared (omega (arith, rn)) in_range) (fresh_lits_in v n d.root (omega (arith, rn))) in
    let grows = counted.extends.grows in
    let few = counted.few in
    record {
      own = refl;
      extends = next_are Always Always (v + n) d.root c.vars d.clauses c.clauses defined.extends counted.extends (λ b p r. tt);
      few = omega (arith, rn, few);
      root = λ b r. defined.value b (both_true b d.clauses c.clauses r).0;
      in_order = λ b r. counted.in_order b (both_true b d.clauses c.clauses r).1;
      value = λ b r. counted.value b (both_true b d.clauses c.clauses r).1;
      size = counted.size;
      fresh = fresh_row v n c.vars (d.root ∷ c.outputs) (omega (arith, rn, grows)) (fresh_cons (v + n) d.root c.vars d.root c.outputs (omega (arith, rn, sn)) (omega arith) grows counted.fresh);
    }
