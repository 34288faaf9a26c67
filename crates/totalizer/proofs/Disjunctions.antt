-- A fresh variable that is true where one of several is.
use Rattle.std.proofs.Common.{◌≡◌, ℕ, zero, suc, ◌+◌, ◌≤◌, Bool, true, false, not, ◌&&◌, ◌||◌, List, [], ◌∷◌, ◌++◌, refl, sym, ap, ◌∙◌, subst, arith, take, drop}
use Rattle.std.specs.Prelude.{map, if◌then◌else◌}
use Rattle.clause_store.specs.Lits.{positive_lit, sorted_clause, InRange, AreInRange}
use Rattle.clause_store.specs.Clauses.{Clauses}
use Rattle.clause_store.specs.Grew.{Grew}
use Rattle.clause_store.specs.Truth.{AreTrue, Agree, clause_true, all_true}
use Rattle.clause_store.specs.Extends.{Extends, Always}
use Rattle.clause_store.proofs.Truths.{all_true-append, and_left, and_right, and_both}
use Rattle.clause_store.proofs.Blocks.{single}
use Rattle.clause_store.proofs.Grows.{grew_none, grew_front, grew_next, grew_vars}
use Rattle.clause_store.proofs.Each.{each_append}
use Rattle.totalizer.specs.Counter.{AreVarsWithin}
use Rattle.totalizer.specs.Either.{any_of, lifts, needs_one, either_due, IsEither}
use Rattle.totalizer.proofs.Law.{more_vars}
use Rattle.totalizer.proofs.Sizes.{leaf_unary}

any_pos : (b : ℕ → Bool) (xs : List ℕ) → clause_true b (map positive_lit xs) ≡ any_of b xs
any_pos b [] = refl
any_pos b (x ∷ xs) = ap (λ z. b x || z) (any_pos b xs)

tail_within : (v x : ℕ) (xs : List ℕ) → AreVarsWithin v (x ∷ xs) → AreVarsWithin v xs
tail_within v x xs h = λ k lt. h (suc k) (omega arith)

any_agree : (v : ℕ) (a b : ℕ → Bool) (xs : List ℕ) → Agree v a b → AreVarsWithin v xs → any_of a xs ≡ any_of b xs
any_agree v a b [] h w = refl
any_agree v a b (x ∷ xs) h w =
    let y = w 0 (omega arith) in
    let e = h x y.0 y.1 in
    let f = any_agree v a b xs h (tail_within v x xs w) in
    cc (e, f)

step_none : (r : Bool) → true ≡ (r || not false)
step_none true = refl
step_none false = refl

step_one : (x r a : Bool) → ((not x || (r || false)) && (r || not a)) ≡ (r || not (x || a))
step_one true true a = refl
step_one true false a = refl
step_one false true a = refl
step_one false false a = refl

both_to : (r a : Bool) → (r || not a) ≡ true → ((not r || a) && true) ≡ true → r ≡ a
both_to true true h k = refl
both_to true false h k = cc
both_to false true h k = cc
both_to false false h k = refl

first_from : (r a : Bool) → r ≡ a → (r || not a) ≡ true
first_from true a e = refl
first_from false true e = cc
first_from false false e = refl

last_from : (r a : Bool) → r ≡ a → ((not r || a) && true) ≡ true
last_from true true e = refl
last_from true false e = cc
last_from false a e = refl

-- with r true, or no variable true, the first clauses hold
ups_is : (b : ℕ → Bool) (r : ℕ) (xs : List ℕ) → all_true b (map (lifts r) xs) ≡ (b r || not (any_of b xs))
ups_is b r [] = step_none (b r)
ups_is b r (x ∷ xs) = ap (λ z. (not (b x) || (b r || false)) && z) (ups_is b r xs) ∙ step_one (b x) (b r) (any_of b xs)

pub either_to : (b : ℕ → Bool) (r : ℕ) (xs : List ℕ) → AreTrue (map (lifts r) xs ++ needs_one r xs ∷ []) b → b r ≡ any_of b xs
either_to b r xs h =
    let s = sym (all_true-append b (map (lifts r) xs) (needs_one r xs ∷ [])) ∙ h in
    both_to (b r) (any_of b xs) (sym (ups_is b r xs) ∙ and_left _ _ s) (sym (ap (λ z. (not (b r) || z) && true) (any_pos b xs)) ∙ and_right _ _ s)

either_from : (b : ℕ → Bool) (r : ℕ) (xs : List ℕ) → b r ≡ any_of b xs → AreTrue (map (lifts r) xs ++ needs_one r xs ∷ []) b
either_from b r xs e =
    all_true-append b (map (lifts r) xs) (needs_one r xs ∷ []) ∙ and_both _ _ (ups_is b r xs ∙ first_from (b r) (any_of b xs) e) (ap (λ z. (not (b r) || z) && true) (any_pos b xs) ∙ last_from (b r) (any_of b xs) e)

ups_within : (v r : ℕ) (xs : List ℕ) → 1 ≤ r → r ≤ v → AreVarsWithin v xs → AreInRange v (map (lifts r) xs)
ups_within v r [] lo hi h = tt
ups_within v r (x ∷ xs) lo hi h = ((h 0 (omega arith), ((lo, hi), tt)), ups_within v r xs lo hi (tail_within v x xs h))

pub pos_within : (v : ℕ) (xs : List ℕ) → AreVarsWithin v xs → InRange v (map positive_lit xs)
pos_within v [] h = tt
pos_within v (x ∷ xs) h = (h 0 (omega arith), pos_within v xs (tail_within v x xs h))

pub needs_within : (v r : ℕ) (xs : List ℕ) → 1 ≤ r → r ≤ v → AreVarsWithin v xs → InRange v (needs_one r xs)
needs_within v r xs lo hi h = ((lo, hi), pos_within v xs h)

-- either of several variables, as a fresh one
pub either_defines : (v : ℕ) (xs : List ℕ) → AreVarsWithin v xs → Extends Always (AreTrue ((either_due v xs).clauses)) v (v + 1)
either_defines v xs h =
    let w = more_vars v (v + 1) xs (omega arith) h in
    single Always v ((either_due v xs).clauses) (λ b. any_of b xs) (λ a b h p. tt) (λ a b k. any_agree v a b xs k h)
    (each_append (InRange (v + 1)) (map (lifts (v + 1)) xs) (needs_one (v + 1) xs ∷ []) (ups_within (v + 1) (v + 1) xs (omega arith) (omega arith) w) (((omega arith, omega arith), pos_within (v + 1) xs w), tt))
    (λ b p r. either_to b (v + 1) xs r) (λ b p r. either_from b (v + 1) xs r)

-- what is due for either
pub either_is : (v : ℕ) (xs : List ℕ) → AreVarsWithin v xs → IsEither v xs (either_due v xs)
either_is v xs h = record {
  extends = either_defines v xs h;
  in_order = λ b r. leaf_unary b (v + 1);
  value = λ b r. ap (λ t. if t then 1 else 0) (either_to b (v + 1) xs r);
}

lifts_split : (r i : ℕ) (xs : List ℕ) → map (lifts r) (take i xs) ++ map (lifts r) (drop i xs) ≡ map (lifts r) xs
lifts_split r zero xs = refl
lifts_split r (suc i) [] = refl
lifts_split r (suc i) (x ∷ xs) = ap (λ cs. lifts r x ∷ cs) (lifts_split r i xs)

-- a refusal at one of the variables
pub lifts_grew : (r i : ℕ) (xs : List ℕ) (old now new : Clauses) → now.list ≡ old.list ++ map sorted_clause (map (lifts r) (take i xs)) → old.vars ≤ now.vars → new.list ≡ now.list → now.vars ≤ new.vars → Grew old new (map (lifts r) xs)
lifts_grew r i xs old now new e le h k =
    subst (λ cs. Grew old new cs) (lifts_split r i xs) (grew_next old now new (map (lifts r) (take i xs)) (map (lifts r) (drop i xs)) e le (grew_none now new (map (lifts r) (drop i xs)) h k))

-- a refusal among the clauses of the variables
pub either_grew : (v : ℕ) (xs : List ℕ) (old mid new : Clauses) → mid.list ≡ old.list → old.vars ≤ mid.vars → Grew mid new (map (lifts (v + 1)) xs) → Grew old new (either_due v xs).clauses
either_grew v xs old mid new e le g = grew_front old new (map (lifts (v + 1)) xs) (needs_one (v + 1) xs ∷ []) (grew_vars old mid new (map (lifts (v + 1)) xs) e le g)
