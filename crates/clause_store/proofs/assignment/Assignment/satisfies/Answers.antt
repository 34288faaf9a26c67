use Rattle.std.proofs.Common.{◌≡◌, ◌+◌, ◌&&◌, ◌∙◌, ℕ, Bool, true, false, List, [], ◌∷◌, Some, zero, suc, drop, sym, ap, arith, add-one}
use Rattle.std.specs.Prelude.{slice_get}
use Rattle.clause_store.specs.declared.lit.Lit.{Lit}
use Rattle.clause_store.specs.Truth.{all_true, clause_true, values_of}
use Rattle.clause_store.proofs.assignment.Assignment.satisfies.Goals as goal

-- a clause of the list, and what follows it
from_suc : (a : ℕ → Bool) (cs : List (List Lit)) (k : ℕ) (c : List Lit) → slice_get cs k ≡ Some c → all_true a (drop k cs) ≡ (clause_true a c && all_true a (drop (suc k) cs))
from_suc a [] k c e = absurd (cc)
from_suc a (d ∷ ds) zero c e = let f : d ≡ c = cc in ap (λ (x : List Lit). clause_true a x && all_true a ds) f
from_suc a (d ∷ ds) (suc k) c e = from_suc a ds k c e

from_clause : (a : ℕ → Bool) (cs : List (List Lit)) (k : ℕ) (c : List Lit) → slice_get cs k ≡ Some c → all_true a (drop k cs) ≡ (clause_true a c && all_true a (drop (k + 1) cs))
from_clause a cs k c e = rw add-one (from_suc a cs k c e)

pub returns-then-not-has_true : goal.returns-then-not-has_true
returns-then-not-has_true c =
    let a = values_of c.args.self.now in
    let t : clause_true a c.clause.result.now ≡ false = sym c.has_true.ensures ∙ c.if-not-has_true.true in
    ap (λ (b : Bool). b && all_true a (drop (c.loop-number.number + 1) c.args.clauses.now.list)) (sym t)
    ∙ sym (from_clause a c.args.clauses.now.list c.loop-number.number c.clause.result.now c.clause.ensures.value)
    ∙ c.loop-number.invariant.so_far

pub loop-number-preserved : goal.loop-number-preserved
loop-number-preserved c =
    let a = values_of c.args.self.now in
    let t : clause_true a c.clause.result.now ≡ true = sym c.has_true.ensures ∙ c.if-not-has_true.false in
    record {
      within = omega (arith, c.loop-number-test.true, c.len.ensures.len);
      so_far = ap (λ (b : Bool). b && all_true a (drop (c.loop-number.number + 1) c.args.clauses.now.list)) (sym t)
          ∙ sym (from_clause a c.args.clauses.now.list c.loop-number.number c.clause.result.now c.clause.ensures.value)
          ∙ c.loop-number.invariant.so_far;
    }
