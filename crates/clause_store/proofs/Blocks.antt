-- Blocks of clauses that define variables, one after another.
use Rattle.std.proofs.Common.{◌≡◌, ℕ, ◌+◌, ◌<◌, ◌≤◌, Bool, List, [], ◌++◌, refl, sym, ap, ◌∙◌, inl, inr, arith}
use Rattle.std.specs.Prelude.{nat_le, if◌then◌else◌}
use Rattle.std.proofs.lemmas.Bool.Decides.{leb_tells, nat_tests}
use Rattle.clause_store.specs.declared.lit.Lit.{Lit}
use Rattle.clause_store.specs.Lits.{AreInRange}
use Rattle.clause_store.specs.Truth.{AreTrue, Agree}
use Rattle.clause_store.specs.Extends.{Extends, Always, AreDefined}
use Rattle.clause_store.proofs.Truths.{all_agree, agree_then, both_true, true_both}

-- no variable, no rule
pub nothing : (P : (ℕ → Bool) → Type 0) (v : ℕ) → ((a b : ℕ → Bool) → Agree v a b → P a → P b) → Extends P Always v v
nothing P v local = record {
  grows = omega arith;
  given = local;
  within = λ a b h r. tt;
  some = λ a p. (a, (λ k lo hi. refl), tt);
  one = λ b c p h r s. h;
}

-- one block after another
pub next : (P Q R S : (ℕ → Bool) → Type 0) (u v w : ℕ) → Extends P R u v → Extends Q S v w → ((b : ℕ → Bool) → P b → R b → Q b) → Extends P (λ b. R b × S b) u w
next P Q R S u v w first second leads = record {
  grows = let x = first.grows in let y = second.grows in omega arith;
  given = first.given;
  within = λ a b h r. (first.within a b (λ k lo hi. h k lo (let y = second.grows in omega arith)) r.0, second.within a b h r.1);
  some = λ a p. let x = first.some a p in
      let y = second.some x.0 (leads x.0 (first.given a x.0 x.1 p) x.2) in
      (y.0, agree_then u v a x.0 y.0 first.grows x.1 y.1, (first.within x.0 y.0 y.1 x.2, y.2));
  one = λ b c p h r s. second.one b c (leads b p r.0) (first.one b c p h r.0 s.0) r.1 s.1;
}

-- a stronger premise, and a rule that says the same under it
pub weaker : (P Q R S : (ℕ → Bool) → Type 0) (v w : ℕ) → Extends Q S v w → ((a b : ℕ → Bool) → Agree v a b → P a → P b) → ((a b : ℕ → Bool) → Agree w a b → R a → R b) → ((b : ℕ → Bool) → P b → Q b) → ((b : ℕ → Bool) → P b → R b → S b) → ((b : ℕ → Bool) → P b → S b → R b) → Extends P R v w
weaker P Q R S v w e given within up to from = record {
  grows = e.grows;
  given = given;
  within = within;
  some = λ a p. let x = e.some a (up a p) in (x.0, x.1, from x.0 (given a x.0 x.1 p) x.2);
  one = λ b c p h r s. e.one b c (up b p) h (to b p r) (to c (given b c h p) s);
}

-- no clause, no variable
pub no_clause : (P : (ℕ → Bool) → Type 0) (v : ℕ) → ((a b : ℕ → Bool) → Agree v a b → P a → P b) → Extends P (AreTrue []) v v
no_clause P v local = weaker P P (AreTrue []) Always v v (nothing P v local) local (λ a b h r. refl) (λ b p. p) (λ b p r. tt) (λ b p r. refl)

-- the old values up to v, and new ones above
abbrev pub onto : ℕ → (ℕ → Bool) → (ℕ → Bool) → ℕ → Bool
onto v a f k = if nat_le k v then a k else f k

pub onto_old : (v : ℕ) (a f : ℕ → Bool) (k : ℕ) → k ≤ v → onto v a f k ≡ a k
onto_old v a f k le = grind (arith, nat_tests)

pub onto_new : (v : ℕ) (a f : ℕ → Bool) (k : ℕ) → v < k → onto v a f k ≡ f k
onto_new v a f k lt = grind (arith, nat_tests)

pub defined : (P : (ℕ → Bool) → Type 0) (v w : ℕ) (f : (ℕ → Bool) → ℕ → Bool) → v ≤ w → ((a b : ℕ → Bool) → Agree v a b → P a → P b) → ((a b : ℕ → Bool) → Agree v a b → (k : ℕ) → f a k ≡ f b k) → Extends P (AreDefined v w f) v w
defined P v w f le local same = record {
  grows = le;
  given = local;
  within = λ a b h r k lo hi. sym (h k (omega arith) hi) ∙ r k lo hi ∙ same a b (λ j l m. h j l (omega arith)) k;
  some = λ a p. let old : Agree v a (onto v a (f a)) = λ k lo hi. sym (onto_old v a (f a) k hi) in
      (onto v a (f a), old, λ k lo hi. onto_new v a (f a) k lo ∙ same a (onto v a (f a)) old k);
  one = λ b c p h r s k lo hi.
      elim (leb_tells k v) [ inl x ↦ h k lo x.1 | inr x ↦ r k x.1 hi ∙ same b c h k ∙ sym (s k x.1 hi) ];
}

-- clauses that say what the new variables are
pub block : (P : (ℕ → Bool) → Type 0) (v w : ℕ) (cs : List (List Lit)) (f : (ℕ → Bool) → ℕ → Bool) → v ≤ w → ((a b : ℕ → Bool) → Agree v a b → P a → P b) → ((a b : ℕ → Bool) → Agree v a b → (k : ℕ) → f a k ≡ f b k) → AreInRange w cs → ((b : ℕ → Bool) → P b → AreTrue cs b → AreDefined v w f b) → ((b : ℕ → Bool) → P b → AreDefined v w f b → AreTrue cs b) → Extends P (AreTrue cs) v w
block P v w cs f le given same within to from =
    weaker P P (AreTrue cs) (AreDefined v w f) v w (defined P v w f le given same) given (λ a b h r. sym (all_agree w a b cs h within) ∙ r) (λ b p. p) to from

-- one variable
pub single : (P : (ℕ → Bool) → Type 0) (v : ℕ) (cs : List (List Lit)) (f : (ℕ → Bool) → Bool) → ((a b : ℕ → Bool) → Agree v a b → P a → P b) → ((a b : ℕ → Bool) → Agree v a b → f a ≡ f b) → AreInRange (v + 1) cs → ((b : ℕ → Bool) → P b → AreTrue cs b → b (v + 1) ≡ f b) → ((b : ℕ → Bool) → P b → b (v + 1) ≡ f b → AreTrue cs b) → Extends P (AreTrue cs) v (v + 1)
single P v cs f given same within to from =
    block P v (v + 1) cs (λ a k. f a) (omega arith) given (λ a b h k. same a b h) within
    (λ b p r k lo hi. let e : k ≡ v + 1 = omega arith in ap b e ∙ to b p r)
    (λ b p d. from b p (d (v + 1) (omega arith) (omega arith)))

-- two blocks of clauses
pub next_are : (P Q : (ℕ → Bool) → Type 0) (u v w : ℕ) (cs ds : List (List Lit)) → Extends P (AreTrue cs) u v → Extends Q (AreTrue ds) v w → ((b : ℕ → Bool) → P b → AreTrue cs b → Q b) → Extends P (AreTrue (cs ++ ds)) u w
next_are P Q u v w cs ds first second leads =
    let both = next P Q (AreTrue cs) (AreTrue ds) u v w first second leads in
    weaker P P (AreTrue (cs ++ ds)) (λ b. AreTrue cs b × AreTrue ds b) u w both first.given (λ a b h r. let x = both.within a b h (both_true a cs ds r) in true_both b cs ds x.0 x.1) (λ b p. p) (λ b p r. both_true b cs ds r) (λ b p r. true_both b cs ds r.0 r.1)
