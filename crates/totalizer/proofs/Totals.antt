-- Sums of many counters.
use Rattle.std.proofs.Common.{◌≡◌, ℕ, zero, suc, ◌+◌, ◌/◌, ◌<◌, ◌≤◌, inl, inr, Bool, true, false, List, [], ◌∷◌, ◌++◌, length, take, drop, refl, sym, ap, ◌∙◌, subst, arith, length-take, length-drop, append_assoc}
use Rattle.std.specs.Prelude.{map, if◌then◌else◌, nat_le}
use Rattle.std.proofs.lemmas.Bool.Decides.{nat_tests, leb_tells}
use Rattle.clause_store.specs.declared.lit.Lit.{Lit}
use Rattle.clause_store.specs.Lits.{sorted_clause}
use Rattle.clause_store.specs.Clauses.{Clauses}
use Rattle.clause_store.specs.Truth.{Agree, AreTrue}
use Rattle.clause_store.specs.Extends.{Always}
use Rattle.clause_store.specs.Grew.{Grew}
use Rattle.clause_store.proofs.Truths.{all_true-append, and_left, and_right}
use Rattle.clause_store.proofs.Blocks.{next_are, nothing, weaker}
use Rattle.clause_store.proofs.Grows.{stored-append, grew_front, grew_next}
use Rattle.clause_store.specs.Limits.{var_limit}
use Rattle.totalizer.specs.Counter.{Due, count_of, IsUnary, AreVarsWithin, AllUnary, AllVarsWithin, sum_of}
use Rattle.totalizer.specs.Plus.{plus_clauses, plus_due}
use Rattle.totalizer.specs.Total.{both_due, alone_due, total_by, total_due, IsTotal}
use Rattle.totalizer.proofs.FreshVars.{fresh_vars_within}
use Rattle.totalizer.proofs.Law.{plus_defines, plus_value, unary_agree, more_vars}

-- with enough fuel the amount does not matter
pub total_fuel : (f g v : ℕ) (parts : List (List ℕ)) → length parts ≤ f → length parts ≤ g → total_by f v parts ≡ total_by g v parts
total_fuel zero zero v parts h k = refl
total_fuel zero (suc g) v parts h k = let e : nat_le (length parts) 1 ≡ true = grind (arith, nat_tests) in sym (ap (λ t. if t then alone_due v parts else both_due (total_by g v (take (length parts / 2) parts)) (total_by g (total_by g v (take (length parts / 2) parts)).vars (drop (length parts / 2) parts))) e)
total_fuel (suc f) zero v parts h k = let e : nat_le (length parts) 1 ≡ true = grind (arith, nat_tests) in ap (λ t. if t then alone_due v parts else both_due (total_by f v (take (length parts / 2) parts)) (total_by f (total_by f v (take (length parts / 2) parts)).vars (drop (length parts / 2) parts))) e
total_fuel (suc f) (suc g) v parts h k =
    let n = length parts in
    elim (leb_tells n 1) [
      | inl x ↦ (let e = x.0 in simp e)
      | inr x ↦ (let big : 1 < n = x.1 in
          let l = total_fuel f g v (take (n / 2) parts) (omega (arith, length-take (n / 2) parts)) (omega (arith, length-take (n / 2) parts)) in
          let r = total_fuel f g (total_by g v (take (n / 2) parts)).vars (drop (n / 2) parts) (omega (arith, length-drop (n / 2) parts)) (omega (arith, length-drop (n / 2) parts)) in
          cc (l, r))
    ]

pub pick_false : (t : Bool) (x y : Due) → t ≡ false → (if t then x else y) ≡ y
pick_false true x y e = cc
pick_false false x y e = refl

-- a sum of more parts than one
pub total_more : (v : ℕ) (parts : List (List ℕ)) → 2 ≤ length parts → total_due v parts ≡ both_due (total_due v (take (length parts / 2) parts)) (total_due (total_due v (take (length parts / 2) parts)).vars (drop (length parts / 2) parts))
total_more v [] h = absurd (omega arith)
total_more v (p ∷ ps) h =
    let parts = p ∷ ps in
    let n = length parts in
    let e : nat_le n 1 ≡ false = grind (arith, nat_tests) in
    let l = total_fuel (length ps) (length (take (n / 2) parts)) v (take (n / 2) parts) (omega (arith, length-take (n / 2) parts)) (omega arith) in
    let r = total_fuel (length ps) (length (drop (n / 2) parts)) (total_due v (take (n / 2) parts)).vars (drop (n / 2) parts) (omega (arith, length-drop (n / 2) parts)) (omega arith) in
    pick_false (nat_le n 1) _ _ e ∙ cc (l, r)

grows_step : (t : Bool) (x y : Due) (v : ℕ) → v ≤ x.vars → v ≤ y.vars → v ≤ (if t then x else y).vars
grows_step true x y v h k = h
grows_step false x y v h k = k

pub total_grows : (f v : ℕ) (parts : List (List ℕ)) → v ≤ (total_by f v parts).vars
total_grows zero v parts = omega arith
total_grows (suc f) v parts =
    let a = total_grows f v (take (length parts / 2) parts) in
    let b = total_grows f (total_by f v (take (length parts / 2) parts)).vars (drop (length parts / 2) parts) in
    grows_step (nat_le (length parts) 1) _ _ v (omega arith) (omega arith)

-- what a call on the halves needs
pub total_room : (v : ℕ) (parts : List (List ℕ)) → 2 ≤ length parts → ((total_due v (take (length parts / 2) parts)).vars ≤ (total_due v parts).vars) × ((total_due (total_due v (take (length parts / 2) parts)).vars (drop (length parts / 2) parts)).vars + (length (total_due v (take (length parts / 2) parts)).outputs + length (total_due (total_due v (take (length parts / 2) parts)).vars (drop (length parts / 2) parts)).outputs) ≡ (total_due v parts).vars)
total_room v parts h =
    let e = ap (λ (d : Due). d.vars) (total_more v parts h) in
    let l = take (length parts / 2) parts in
    let r = drop (length parts / 2) parts in
    let a = total_grows (length l) v l in
    let b = total_grows (length r) (total_due v l).vars r in
    (omega (arith, e), sym e)

unary_split : (b : ℕ → Bool) (n : ℕ) (parts : List (List ℕ)) → AllUnary b parts → AllUnary b (take n parts) × AllUnary b (drop n parts)
unary_split b zero parts h = (tt, h)
unary_split b (suc n) [] h = (tt, tt)
unary_split b (suc n) (p ∷ ps) h = let s = unary_split b n ps h.1 in ((h.0, s.0), s.1)

pub within_split : (v n : ℕ) (parts : List (List ℕ)) → AllVarsWithin v parts → AllVarsWithin v (take n parts) × AllVarsWithin v (drop n parts)
within_split v zero parts h = (tt, h)
within_split v (suc n) [] h = (tt, tt)
within_split v (suc n) (p ∷ ps) h = let s = within_split v n ps h.1 in ((h.0, s.0), s.1)

sum_split : (b : ℕ → Bool) (n : ℕ) (parts : List (List ℕ)) → sum_of b (take n parts) + sum_of b (drop n parts) ≡ sum_of b parts
sum_split b zero parts = omega arith
sum_split b (suc n) [] = refl
sum_split b (suc n) (p ∷ ps) = let s = sum_split b n ps in omega arith

pub all_unary_agree : (v : ℕ) (a b : ℕ → Bool) (parts : List (List ℕ)) → Agree v a b → AllVarsWithin v parts → AllUnary a parts → AllUnary b parts
all_unary_agree v a b [] h w u = tt
all_unary_agree v a b (p ∷ ps) h w u = (unary_agree v a b p h w.0 u.0, all_unary_agree v a b ps h w.1 u.1)

pub more_all : (v w : ℕ) (parts : List (List ℕ)) → v ≤ w → AllVarsWithin v parts → AllVarsWithin w parts
more_all v w [] le h = tt
more_all v w (p ∷ ps) le h = (more_vars v w p le h.0, more_all v w ps le h.1)

plus_total : (v n : ℕ) (parts : List (List ℕ)) (l r : Due) → AllVarsWithin v parts → IsTotal v (take n parts) l → IsTotal l.vars (drop n parts) r → IsTotal v parts (both_due l r)
plus_total v n parts l r w first second =
    let P : (ℕ → Bool) → Type 0 = λ b. AllUnary b parts in
    let g : l.vars ≤ r.vars = second.extends.grows in
    let both : (b : ℕ → Bool) → P b → AreTrue (l.clauses ++ r.clauses) b → AreTrue l.clauses b × AreTrue r.clauses b = λ b p h. let s = sym (all_true-append b l.clauses r.clauses) ∙ h in (and_left _ _ s, and_right _ _ s) in
    let given : (a b : ℕ → Bool) → Agree v a b → P a → P b = λ a b h p. all_unary_agree v a b parts h w p in
    let one = weaker P (λ b. AllUnary b (take n parts)) (AreTrue l.clauses) (AreTrue l.clauses) v l.vars first.extends given first.extends.within (λ b p. (unary_split b n parts p).0) (λ b p h. h) (λ b p h. h) in
    let two = next_are P (λ b. AllUnary b (drop n parts)) v l.vars r.vars l.clauses r.clauses one second.extends (λ b p h. (unary_split b n parts p).1) in
    let three = next_are P (λ b. IsUnary b l.outputs × IsUnary b r.outputs) v r.vars (r.vars + (length l.outputs + length r.outputs)) (l.clauses ++ r.clauses) (plus_clauses l.outputs r.outputs r.vars) two (plus_defines r.vars l.outputs r.outputs (more_vars l.vars r.vars l.outputs g first.within) second.within)
    (λ b p h. let s = both b p h in let u = unary_split b n parts p in (first.in_order b u.0 s.0, second.in_order b u.1 s.1)) in
    let means : (b : ℕ → Bool) → P b → AreTrue (both_due l r).clauses b → (count_of b (both_due l r).outputs ≡ sum_of b parts) × IsUnary b (both_due l r).outputs = λ b p h.
    let t = sym (all_true-append b (l.clauses ++ r.clauses) (plus_clauses l.outputs r.outputs r.vars)) ∙ h in
    let s = both b p (and_left _ _ t) in
    let u = unary_split b n parts p in
    let x = first.value b u.0 s.0 in
    let y = second.value b u.1 s.1 in
    let z = plus_value r.vars l.outputs r.outputs b (first.in_order b u.0 s.0, second.in_order b u.1 s.1) (and_right _ _ t) in
    ((let e = z.0 in omega (arith, sum_split b n parts)), z.1) in
    record {
      extends = three;
      within = fresh_vars_within r.vars (length l.outputs + length r.outputs) (r.vars + (length l.outputs + length r.outputs)) (omega arith);
      in_order = λ b p h. (means b p h).1;
      value = λ b p h. (means b p h).0;
    }

alone : (v : ℕ) (p : List ℕ) → AreVarsWithin v p → IsTotal v (p ∷ []) (alone_due v (p ∷ []))
alone v p w = record {
  extends = weaker (λ b. AllUnary b (p ∷ [])) (λ b. AllUnary b (p ∷ [])) (AreTrue []) Always v v (nothing (λ b. AllUnary b (p ∷ [])) v (λ a b h u. (unary_agree v a b p h w u.0, tt))) (λ a b h u. (unary_agree v a b p h w u.0, tt)) (λ a b h r. refl) (λ b u. u) (λ b u r. tt) (λ b u r. refl);
  within = w;
  in_order = λ b u h. u.0;
  value = λ b u h. omega arith;
}

-- the total is the sum
pub total_is : (f v : ℕ) (parts : List (List ℕ)) → 1 ≤ length parts → length parts ≤ f → AllVarsWithin v parts → IsTotal v parts (total_by f v parts)
total_is zero v parts h k w = absurd (omega arith)
total_is (suc f) v [] h k w = absurd (omega arith)
total_is (suc f) v (p ∷ []) h k w = alone v p w.0
total_is (suc f) v (p ∷ q ∷ ps) h k w =
    let parts = p ∷ q ∷ ps in
    let n = length parts / 2 in
    let e : nat_le (length parts) 1 ≡ false = grind (arith, nat_tests) in
    let s = within_split v n parts w in
    let l = total_by f v (take n parts) in
    let first = total_is f v (take n parts) (omega (arith, length-take n parts)) (omega (arith, length-take n parts)) s.0 in
    let second = total_is f l.vars (drop n parts) (omega (arith, length-drop n parts)) (omega (arith, length-drop n parts)) (more_all v l.vars (drop n parts) first.extends.grows s.1) in
    subst (λ d. IsTotal v parts d) (sym (pick_false (nat_le (length parts) 1) _ _ e)) (plus_total v n parts l (total_by f l.vars (drop n parts)) w first second)

pub total_law : (v : ℕ) (parts : List (List ℕ)) → 1 ≤ length parts → AllVarsWithin v parts → IsTotal v parts (total_due v parts)
total_law v parts h w = total_is (length parts) v parts h (omega arith) w

-- what the calls on the halves need
pub front_some : (parts front : List (List ℕ)) → 2 ≤ length parts → front ≡ take (length parts / 2) parts → (1 ≤ length front) × (length front < length parts)
front_some parts front big e = (omega (arith, ap length e, length-take (length parts / 2) parts), omega (arith, ap length e, length-take (length parts / 2) parts))

pub back_some : (parts back : List (List ℕ)) → 2 ≤ length parts → back ≡ drop (length parts / 2) parts → (1 ≤ length back) × (length back < length parts)
back_some parts back big e = (omega (arith, ap length e, length-drop (length parts / 2) parts), omega (arith, ap length e, length-drop (length parts / 2) parts))

pub front_in : (v : ℕ) (parts front : List (List ℕ)) → front ≡ take (length parts / 2) parts → AllVarsWithin v parts → AllVarsWithin v front
front_in v parts front e w = subst (λ ps. AllVarsWithin v ps) (sym e) (within_split v (length parts / 2) parts w).0

pub front_room : (v : ℕ) (parts front : List (List ℕ)) → 2 ≤ length parts → front ≡ take (length parts / 2) parts → (total_due v parts).vars ≤ var_limit → (total_due v front).vars ≤ var_limit
front_room v parts front big e h = let r = total_room v parts big in let k = ap (λ ps. (total_due v ps).vars) e in omega (arith, r.0, k)

-- where the totals of both halves are done
module _ (parts : List (List ℕ)) (old : Clauses) (big : 2 ≤ length parts) where
  abbrev front_due : Due
  front_due = total_due old.vars (take (length parts / 2) parts)

  abbrev back_due : Due
  back_due = total_due front_due.vars (drop (length parts / 2) parts)

  abbrev own : List (List Lit)
  own = plus_clauses front_due.outputs back_due.outputs back_due.vars

  whole : (total_due old.vars parts).clauses ≡ (front_due.clauses ++ back_due.clauses) ++ own
  whole = ap (λ (d : Due). d.clauses) (total_more old.vars parts big)

  -- a refusal in the front half
  pub front_grew : (new : Clauses) (front : List (List ℕ)) → front ≡ take (length parts / 2) parts → Grew old new (total_due old.vars front).clauses → Grew old new (total_due old.vars parts).clauses
  front_grew new front e g =
      let h : Grew old new front_due.clauses = subst (λ ps. Grew old new (total_due old.vars ps).clauses) e g in
      subst (λ cs. Grew old new cs) (sym whole) (grew_front old new (front_due.clauses ++ back_due.clauses) own (grew_front old new front_due.clauses back_due.clauses h))

  module _ (front back : List (List ℕ)) (is_front : front ≡ take (length parts / 2) parts) (is_back : back ≡ drop (length parts / 2) parts) (mid : Clauses) (list : mid.list ≡ old.list ++ map sorted_clause (total_due old.vars front).clauses) (vars : mid.vars ≡ (total_due old.vars front).vars) where
    list_front : mid.list ≡ old.list ++ map sorted_clause front_due.clauses
    list_front = list ∙ ap (λ ps. old.list ++ map sorted_clause (total_due old.vars ps).clauses) is_front

    vars_front : mid.vars ≡ front_due.vars
    vars_front = vars ∙ ap (λ ps. (total_due old.vars ps).vars) is_front

    past_front : old.vars ≤ mid.vars
    past_front = let g = total_grows (length (take (length parts / 2) parts)) old.vars (take (length parts / 2) parts) in omega (arith, vars_front)

    due_back : total_due mid.vars back ≡ back_due
    due_back = ap (λ n. total_due n back) vars_front ∙ ap (total_due front_due.vars) is_back

    pub back_in : AllVarsWithin old.vars parts → AllVarsWithin mid.vars back
    back_in w = more_all old.vars mid.vars back past_front (subst (λ ps. AllVarsWithin old.vars ps) (sym is_back) (within_split old.vars (length parts / 2) parts w).1)

    pub back_room : (total_due old.vars parts).vars ≤ var_limit → (total_due mid.vars back).vars ≤ var_limit
    back_room h = let r = total_room old.vars parts big in let e = ap (λ (d : Due). d.vars) due_back in omega (arith, r.1, e)

    -- a refusal in the back half
    pub back_grew : (new : Clauses) → Grew mid new (total_due mid.vars back).clauses → Grew old new (total_due old.vars parts).clauses
    back_grew new g =
        let h : Grew mid new back_due.clauses = subst (λ (d : Due). Grew mid new d.clauses) due_back g in
        subst (λ cs. Grew old new cs) (sym whole) (grew_front old new (front_due.clauses ++ back_due.clauses) own (grew_next old mid new front_due.clauses back_due.clauses list_front past_front h))

    module _ (left right : List ℕ) (is_left : left ≡ (total_due old.vars front).outputs) (is_right : right ≡ (total_due mid.vars back).outputs) (end : Clauses) (list' : end.list ≡ mid.list ++ map sorted_clause (total_due mid.vars back).clauses) (vars' : end.vars ≡ (total_due mid.vars back).vars) where
      list_back : end.list ≡ old.list ++ map sorted_clause (front_due.clauses ++ back_due.clauses)
      list_back = let e = ap (λ (d : Due). mid.list ++ map sorted_clause d.clauses) due_back in cc (list', e, list_front, append_assoc old.list (map sorted_clause front_due.clauses) (map sorted_clause back_due.clauses), stored-append front_due.clauses back_due.clauses)

      vars_back : end.vars ≡ back_due.vars
      vars_back = vars' ∙ ap (λ (d : Due). d.vars) due_back

      past_back : old.vars ≤ end.vars
      past_back = let g = total_grows (length (drop (length parts / 2) parts)) front_due.vars (drop (length parts / 2) parts) in omega (arith, vars_back, vars_front, past_front)

      is_front_outputs : left ≡ front_due.outputs
      is_front_outputs = is_left ∙ ap (λ ps. (total_due old.vars ps).outputs) is_front

      is_back_outputs : right ≡ back_due.outputs
      is_back_outputs = is_right ∙ ap (λ (d : Due). d.outputs) due_back

      pub due_both : plus_due end.vars left right ≡ plus_due back_due.vars front_due.outputs back_due.outputs
      due_both = ap (λ n. plus_due n left right) vars_back ∙ ap (λ xs. plus_due back_due.vars xs right) is_front_outputs ∙ ap (plus_due back_due.vars front_due.outputs) is_back_outputs

      pub both_vars : (plus_due end.vars left right).vars ≡ (total_due old.vars parts).vars
      both_vars = ap (λ (d : Due). d.vars) due_both ∙ sym (ap (λ (d : Due). d.vars) (total_more old.vars parts big))

      pub both_outputs : (plus_due end.vars left right).outputs ≡ (total_due old.vars parts).outputs
      both_outputs = ap (λ (d : Due). d.outputs) due_both ∙ sym (ap (λ (d : Due). d.outputs) (total_more old.vars parts big))

      pub both_room : (total_due old.vars parts).vars ≤ var_limit → (plus_due end.vars left right).vars ≤ var_limit
      both_room h = omega (arith, both_vars)

      pub left_in : AllVarsWithin old.vars parts → AreVarsWithin end.vars left
      left_in w =
          let t = total_law old.vars front (front_some parts front big is_front).0 (front_in old.vars parts front is_front w) in
          let past : (total_due old.vars front).vars ≤ end.vars =
          let g = total_grows (length (drop (length parts / 2) parts)) front_due.vars (drop (length parts / 2) parts) in omega (arith, vars_back, vars_front, vars) in
          more_vars (total_due old.vars front).vars end.vars left past (subst (λ xs. AreVarsWithin (total_due old.vars front).vars xs) (sym is_left) t.within)

      pub right_in : AllVarsWithin old.vars parts → AreVarsWithin end.vars right
      right_in w =
          let t = total_law mid.vars back (back_some parts back big is_back).0 (back_in w) in
          more_vars (total_due mid.vars back).vars end.vars right (omega (arith, vars')) (subst (λ xs. AreVarsWithin (total_due mid.vars back).vars xs) (sym is_right) t.within)

      -- a refusal in their sum
      pub both_grew : (new : Clauses) → Grew end new (plus_due end.vars left right).clauses → Grew old new (total_due old.vars parts).clauses
      both_grew new g =
          let h : Grew end new own = subst (λ (d : Due). Grew end new d.clauses) due_both g in
          subst (λ cs. Grew old new cs) (sym whole) (grew_next old end new (front_due.clauses ++ back_due.clauses) own list_back past_back h)

      pub both_list : (new : Clauses) → new.list ≡ end.list ++ map sorted_clause (plus_due end.vars left right).clauses → new.list ≡ old.list ++ map sorted_clause (total_due old.vars parts).clauses
      both_list new h =
          let e = ap (λ (d : Due). end.list ++ map sorted_clause d.clauses) due_both in
          let w = ap (λ cs. old.list ++ map sorted_clause cs) whole in
          cc (h, e, w, list_back, append_assoc old.list (map sorted_clause (front_due.clauses ++ back_due.clauses)) (map sorted_clause own), stored-append (front_due.clauses ++ back_due.clauses) own)
