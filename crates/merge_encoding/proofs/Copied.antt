-- The copies of the agents, one after another.
use Rattle.std.proofs.Common.{◌≡◌, ℕ, zero, suc, ◌+◌, ◌-◌, ◌<◌, ◌≤◌, inl, inr, Bool, List, [], ◌∷◌, ◌++◌, length, map, refl, sym, ap, ◌∙◌, subst, arith, All, length-append}
use Rattle.std.specs.List.{AllZip, AllByRecursion, concat}
use Rattle.std.proofs.lemmas.Bool.Decides.{leb_tells}
use Rattle.std.proofs.lemmas.List.Elements.{All-nil, All-cons, All-head, All-tail}
use Rattle.clause_store.specs.declared.lit.Lit.{Lit}
use Rattle.clause_store.specs.Lits.{InRange}
use Rattle.clause_store.specs.Extends.{Extends, Always}
use Rattle.clause_store.specs.Truth.{AreTrue}
use Rattle.clause_store.proofs.Truths.{within_more, both_true, true_both}
use Rattle.clause_store.proofs.Blocks.{next, nothing, weaker}
use Rattle.formulas.specs.declared.formula.Formula.{Formula}
use Rattle.formulas.specs.Formulas.{holds, width_of}
use Rattle.totalizer.specs.Counter.{AllUnary, AllVarsWithin, AreFresh}
use Rattle.totalizer.proofs.Distinct.{ShareNone, place_left, place_right, fresh_none, fresh_append, fresh_tail, fresh_rest}
use Rattle.totalizer.proofs.Law.{more_vars}
use Rattle.agent_copies.specs.Counter.{truth_of}
use Rattle.formulas.specs.Limits.{valuation_limit}
use Rattle.agent_copies.proofs.Truths.{free}
use Rattle.agent_copies.specs.Copy.{CopyDue, copy_due}
use Rattle.clause_store.specs.Fresh.{fresh_lits}
use Rattle.agent_copies.proofs.Copies.{Counts, copy_is, fresh_cons}
use Rattle.clause_store.proofs.Fresh.{length-fresh_lits, fresh_lits_in}
use Rattle.aggregators.specs.Levels.{counts_of}
use Rattle.merge_encoding.specs.MainDues.{DueCounter, CopiesDue, copies_due, aways_of, owns_of}
use Rattle.merge_encoding.specs.Frames.{copy_of, IsCopyOver}
use Rattle.merge_encoding.proofs.Defined.{fresh_within}

abbrev pub roots_of : List CopyDue → List ℕ
roots_of copies = map (λ (c : CopyDue). c.root) copies

-- what copies are: for each list of valuations the clauses hold in exactly one extension that has them; there the roots
-- have the values of the bases and the counters count the distances. Roots and outputs are distinct and fresh
pub record AreCopies (v : ℕ) (shared : List Lit) (bases : List Formula) (dist : List Bool → List Bool → ℕ) (top : ℕ) (d : CopiesDue) : Type 0 where
  pub grows : v ≤ d.vars
  pub extends : (ws : List (List Bool)) → length ws ≡ length bases → All (λ w. length w ≡ length shared) ws → Extends Always (λ b. (owns_of b d.copies ≡ ws) × AreTrue d.clauses b) v d.vars
  pub size : length d.copies ≡ length bases
  pub roots : (b : ℕ → Bool) → AreTrue d.clauses b → AllZip (λ base (c : CopyDue). b c.root ≡ holds base (truth_of b c.own)) bases d.copies
  pub in_order : (b : ℕ → Bool) → AreTrue d.clauses b → AllUnary b (aways_of d.copies)
  pub values : (b : ℕ → Bool) → AreTrue d.clauses b → counts_of b (aways_of d.copies) ≡ map (dist (truth_of b shared)) (owns_of b d.copies)
  pub sized : All (λ c. length c ≡ top) (aways_of d.copies)
  pub within : AllVarsWithin d.vars (aways_of d.copies)
  pub wide : All (λ (c : CopyDue). length c.own ≡ length shared) d.copies
  pub over : AllByRecursion (IsCopyOver d.vars (length shared)) (map copy_of d.copies)
  pub roots_fresh : AreFresh v d.vars (roots_of d.copies)
  pub outputs_fresh : AreFresh v d.vars (concat (aways_of d.copies))
  pub apart : ShareNone (roots_of d.copies) (concat (aways_of d.copies))

copies_none : (v : ℕ) (ws : List (List Bool)) → length ws ≡ 0 → Extends Always (λ b. (owns_of b [] ≡ ws) × AreTrue [] b) v v
copies_none v [] e = weaker Always Always (λ b. (owns_of b [] ≡ []) × AreTrue [] b) Always v v (nothing Always v (λ a b h p. tt)) (λ a b h p. tt) (λ a b h r. (refl, refl)) (λ b p. tt) (λ b p r. tt) (λ b p r. (refl, refl))
copies_none v (w ∷ ws) e = absurd (omega arith)

copies_more : (v u w n : ℕ) (c : CopyDue) (cs : List CopyDue) (ds : List (List Lit)) (m : ℕ) → c.own ≡ fresh_lits v n → Extends Always (AreTrue c.clauses) (v + n) u →
    ((ws : List (List Bool)) → length ws ≡ m → All (λ x. length x ≡ n) ws → Extends Always (λ b. (owns_of b cs ≡ ws) × AreTrue ds b) u w) →
    (ws : List (List Bool)) → length ws ≡ suc m → All (λ x. length x ≡ n) ws → Extends Always (λ b. (owns_of b (c ∷ cs) ≡ ws) × AreTrue (c.clauses ++ ds) b) v w
copies_more v u w n c cs ds m own one rest [] e o = absurd (omega arith)
copies_more v u w n c cs ds m own one rest (x ∷ ws) e o =
    let R : (ℕ → Bool) → Type 0 = λ b. (truth_of b (fresh_lits v n) ≡ x) × AreTrue c.clauses b in
    let S : (ℕ → Bool) → Type 0 = λ b. (owns_of b cs ≡ ws) × AreTrue ds b in
    let T : (ℕ → Bool) → Type 0 = λ b. (owns_of b (c ∷ cs) ≡ x ∷ ws) × AreTrue (c.clauses ++ ds) b in
    let here : Extends Always R v u = next Always Always (λ b. truth_of b (fresh_lits v n) ≡ x) (AreTrue c.clauses) v (v + n) u (free v n x (All-head (λ y. length y ≡ n) x ws o)) one (λ b p r. tt) in
    let both = next Always Always R S v u w here (rest ws (omega arith) (All-tail (λ y. length y ≡ n) x ws o)) (λ b p r. tt) in
    let to : (b : ℕ → Bool) → T b → R b × S b = λ b r.
    let s = both_true b c.clauses ds r.1 in
    let h : truth_of b c.own ≡ x = let e = r.0 in cc in
    let t : owns_of b cs ≡ ws = let e = r.0 in cc in
    ((ap (truth_of b) (sym own) ∙ h, s.0), (t, s.1)) in
    let from : (b : ℕ → Bool) → R b × S b → T b = λ b r.
    (ap (λ y. y ∷ owns_of b cs) (ap (truth_of b) own ∙ r.0.0) ∙ ap (λ ys. x ∷ ys) r.1.0, true_both b c.clauses ds r.0.1 r.1.1) in
    weaker Always Always T (λ b. R b × S b) v w both (λ a b h p. tt) (λ a b h r. from b (both.within a b h (to a r))) (λ b p. p) (λ b p r. to b r) (λ b p r. from b r)

apart_more : (v u w r : ℕ) (xs roots outputs : List ℕ) → AreFresh v u (r ∷ xs) → AreFresh u w roots → AreFresh u w outputs → ShareNone roots outputs → ShareNone (r ∷ roots) (xs ++ outputs)
apart_more v u w r xs roots outputs f rf of apart zero k hj hk e =
    let size = length-append xs outputs in
    elim (leb_tells (length xs) k) [
      | inl x ↦ (let far : length xs ≤ k = x.1 in
          let y = of.above (k - length xs) (omega arith) in
          let hi = f.within 0 (omega arith) in
          let at_k = place_right xs outputs k far in
          omega arith)
      | inr x ↦ (let near : k < length xs = x.1 in
          let at_k = place_left xs outputs k near in
          let s : zero ≡ suc k = f.distinct zero (suc k) (omega arith) (omega arith) (e ∙ at_k) in
          omega arith)
    ]
apart_more v u w r xs roots outputs f rf of apart (suc j) k hj hk e =
    let size = length-append xs outputs in
    elim (leb_tells (length xs) k) [
      | inl x ↦ (let far : length xs ≤ k = x.1 in apart j (k - length xs) (omega arith) (omega arith) (e ∙ place_right xs outputs k far))
      | inr x ↦ (let near : k < length xs = x.1 in
          let y = rf.above j (omega arith) in
          let hi = f.within (suc k) (omega arith) in
          let at_k = place_left xs outputs k near in
          omega arith)
    ]

pub copies_are : (dist : List Bool → List Bool → ℕ) (most : ℕ → ℕ) (due : DueCounter) → Counts dist most due → (shared : List Lit) → 1 ≤ length shared → length shared ≤ valuation_limit → (v : ℕ) → InRange v shared → (bases : List Formula) → All (λ f. width_of f ≤ length shared) bases → AreCopies v shared bases dist (most (length shared)) (copies_due due shared v bases)
copies_are dist most due law shared lo hi v in_range [] wide = record {
  grows = omega arith;
  extends = λ ws e o. copies_none v ws e;
  size = refl;
  roots = λ b r. tt;
  in_order = λ b r. tt;
  values = λ b r. refl;
  sized = All-nil (λ c. length c ≡ most (length shared));
  within = tt;
  wide = All-nil (λ (c : CopyDue). length c.own ≡ length shared);
  over = tt;
  roots_fresh = fresh_none v v;
  outputs_fresh = fresh_none v v;
  apart = λ j k hj hk e. omega arith;
}
copies_are dist most due law shared lo hi v in_range (base ∷ bases) wide =
    let n = length shared in
    let c = copy_due due v shared base in
    let d = copies_due due shared c.vars bases in
    let one = copy_is dist most due law v shared base lo hi in_range (All-head (λ f. width_of f ≤ n) base bases wide) in
    let up : v + n ≤ c.vars = one.extends.grows in
    let g : v ≤ c.vars = omega arith in
    let rest = copies_are dist most due law shared lo hi c.vars (within_more v c.vars shared g in_range) bases (All-tail (λ f. width_of f ≤ n) base bases wide) in
    let more : c.vars ≤ d.vars = rest.grows in
    let f : AreFresh v c.vars (c.root ∷ c.away) = fresh_rest v c.vars v n (c.root ∷ c.away) one.fresh in
    let outs : AreFresh v c.vars c.away = fresh_tail v c.vars c.root c.away f in
    let above : v < c.root = f.above 0 (omega arith) in
    let below : c.root ≤ c.vars = f.within 0 (omega arith) in
    let long : length c.own ≡ n = ap length one.own ∙ length-fresh_lits v n in
    let away_in = more_vars c.vars d.vars c.away more (fresh_within v c.vars c.away outs) in
    record {
      grows = omega arith;
      extends = λ ws e o. copies_more v c.vars d.vars n c d.copies d.clauses (length bases) one.own one.extends rest.extends ws e o;
      size = omega (arith, rest.size);
      roots = λ b r. let s = both_true b c.clauses d.clauses r in (one.root b s.0, rest.roots b s.1);
      in_order = λ b r. let s = both_true b c.clauses d.clauses r in (one.in_order b s.0, rest.in_order b s.1);
      values = λ b r.
          let s = both_true b c.clauses d.clauses r in
          ap (λ x. x ∷ counts_of b (aways_of d.copies)) (one.value b s.0) ∙ ap (λ xs. dist (truth_of b shared) (truth_of b c.own) ∷ xs) (rest.values b s.1);
      sized = All-cons (λ x. length x ≡ most n) c.away (aways_of d.copies) one.size rest.sized;
      within = (away_in, rest.within);
      wide = All-cons (λ (x : CopyDue). length x.own ≡ n) c d.copies long rest.wide;
      over = (record { size = long; own = subst (λ ls. InRange d.vars ls) (sym one.own) (fresh_lits_in v n d.vars (omega arith)); root = (omega arith, omega arith); away = away_in }, rest.over);
      roots_fresh = fresh_cons v c.vars d.vars c.root (roots_of d.copies) above below more rest.roots_fresh;
      outputs_fresh = fresh_append v c.vars d.vars c.away (concat (aways_of d.copies)) g more outs rest.outputs_fresh;
      apart = apart_more v c.vars d.vars c.root c.away (roots_of d.copies) (concat (aways_of d.copies)) f rest.roots_fresh rest.outputs_fresh rest.apart;
    }
