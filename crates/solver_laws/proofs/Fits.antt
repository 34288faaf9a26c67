-- Learned clauses are counted.
use Rattle.std.proofs.Common.{◌≡◌, ℕ, ◌+◌, ◌*◌, ◌<◌, ◌≤◌, Bool, true, false, List, [], ◌∷◌, refl, ap, sym, arith, cond, inl, inr, subst, Some, None, Option}
use Rattle.std.proofs.lemmas.Bool.{cases_lt}
use Rattle.std.proofs.Math.Bool.{beq}
use Rattle.clause_store.specs.declared.lit.Lit.{Lit}
use Rattle.clause_store.specs.Lits.{rank_of, IsBelow, Ascends, InRange}
use Rattle.watch_lists.specs.declared.entry.Entry.{Entry}
use Rattle.watch_lists.specs.Trace.{entry_of, under, room_of}
use Rattle.solver_laws.specs.Ready.{IsFalseIn}
use Rattle.std.specs.List.{AllByRecursion}
use Rattle.solver_laws.specs.Digits.{IsAbove, IsFit}

both_false : (o : Option Entry) → under o true ≡ Some false → under o false ≡ Some false → ⊥
both_false None h k = cc
both_false (Some e) h k = go e.lit.positive h k
  where
    go : (s : Bool) → (let x : Option Bool = Some (beq s true) in x ≡ Some false) → (let y : Option Bool = Some (beq s false) in y ≡ Some false) → ⊥
    go true h k = cc
    go false h k = cc

rank_below : (v w : ℕ) (p q : Bool) → (2 * v + cond p 0 1) < (2 * w + cond q 0 1) → (v ≡ w → (p ≡ true) × (q ≡ false)) × (v ≤ w)
rank_below v w true true h = ((λ e. absurd (omega arith)), omega arith)
rank_below v w true false h = ((λ e. (refl, refl)), omega arith)
rank_below v w false true h = ((λ e. absurd (omega arith)), omega arith)
rank_below v w false false h = ((λ e. absurd (omega arith)), omega arith)

next_var : (es : List Entry) (l m : Lit) → rank_of l < rank_of m → IsFalseIn es l → IsFalseIn es m → l.var < m.var
next_var es l m h a b =
    let r = rank_below l.var m.var l.positive m.positive h in
    elim (cases_lt l.var m.var) [
      | inl g ↦ g
      | inr g ↦ (let e : l.var ≡ m.var = omega (arith, r.1) in
          let p = r.0 e in
          let x = subst (λ (s : Bool). under (entry_of es l.var) s ≡ Some false) p.0 a in
          let y = subst (λ (s : Bool). under (entry_of es m.var) s ≡ Some false) p.1 b in
          absurd (both_false (entry_of es l.var) x (subst (λ (v : ℕ). under (entry_of es v) false ≡ Some false) (sym e) y)))
    ]

rising : (es : List Entry) (v : ℕ) (c : List Lit) → Ascends c → AllByRecursion (IsFalseIn es) c → ((l : Lit) (ls : List Lit) → c ≡ l ∷ ls → v < l.var) → IsAbove v c
rising es v [] a f h = tt
rising es v (l ∷ ls) a f h = (h l ls refl, rising es l.var ls a.1 f.1 (λ m ms e. (let b = subst (IsBelow l) e a.0 in let g = subst (AllByRecursion (IsFalseIn es)) e f.1 in next_var es l m b.0 f.0 g.0)))

first_pos : (V : ℕ) (c : List Lit) → InRange V c → (l : Lit) (ls : List Lit) → c ≡ l ∷ ls → 0 < l.var
first_pos V [] r l ls e = absurd (cc)
first_pos V (x ∷ xs) r l ls e = let q : x ≡ l = cc in omega (arith, r.0.0, ap (λ (y : Lit). y.var) q)

pub fit_law : (V : ℕ) (es low : List Entry) (c : List Lit) → Ascends c → InRange V c → AllByRecursion (IsFalseIn es) c → room_of low c ≡ 1 → IsFit V c
fit_law V es low c a r f one = record {
  full = λ e. (let z = ap (room_of low) e in absurd (omega (arith, z, one)));
  above = rising es 0 c a f (first_pos V c r);
  within = r;
}
