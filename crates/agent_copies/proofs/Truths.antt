-- The values of literals.
use Rattle.std.proofs.Common.{◌≡◌, ℕ, suc, ◌+◌, ◌-◌, inl, inr, Bool, false, List, [], ◌∷◌, length, get_or, refl, sym, ap, ◌∙◌, subst, arith}
use Rattle.std.proofs.lemmas.Bool.Decides.{leb_tells}
use Rattle.clause_store.specs.declared.lit.Lit.{Lit}
use Rattle.clause_store.specs.Lits.{InRange}
use Rattle.clause_store.specs.Fresh.{fresh_lits}
use Rattle.clause_store.specs.Truth.{Agree}
use Rattle.clause_store.specs.Extends.{Extends, Always, AreDefined}
use Rattle.clause_store.proofs.Fresh.{fresh_lits_in}
use Rattle.clause_store.proofs.Truths.{lit_agree}
use Rattle.clause_store.proofs.Blocks.{weaker, defined}
use Rattle.agent_copies.specs.Counter.{truth_of}

pub truths_agree : (v : ℕ) (a b : ℕ → Bool) (ls : List Lit) → Agree v a b → InRange v ls → truth_of a ls ≡ truth_of b ls
truths_agree v a b [] h w = refl
truths_agree v a b (l ∷ ls) h w = cc (lit_agree v a b l h w.0, truths_agree v a b ls h w.1)

-- the value that a list gives the variable k, where its first one is that of the variable after v
abbrev value_in : ℕ → List Bool → ℕ → Bool
value_in v w k = get_or w (k - (v + 1)) false

truths_to : (b : ℕ → Bool) (v : ℕ) (w : List Bool) → truth_of b (fresh_lits v (length w)) ≡ w → AreDefined v (v + length w) (λ b k. value_in v w k) b
truths_to b v [] e k lo hi = absurd (omega arith)
truths_to b v (x ∷ w) e k lo hi =
    elim (leb_tells k (v + 1)) [
      | inl y ↦ (let q : k ≡ v + 1 = let z = y.1 in omega arith in
          let i : k - (v + 1) ≡ 0 = omega arith in
          let h : b (v + 1) ≡ x = cc in
          ap b q ∙ h ∙ sym (ap (λ i. get_or (x ∷ w) i false) i))
      | inr y ↦ (let tl : truth_of b (fresh_lits (v + 1) (length w)) ≡ w = cc in
          let i : k - (v + 1) ≡ suc (k - (v + 1 + 1)) = let z = y.1 in omega arith in
          truths_to b (v + 1) w tl k y.1 (omega arith) ∙ sym (ap (λ i. get_or (x ∷ w) i false) i))
    ]

truths_from : (b : ℕ → Bool) (v : ℕ) (w : List Bool) → AreDefined v (v + length w) (λ b k. value_in v w k) b → truth_of b (fresh_lits v (length w)) ≡ w
truths_from b v [] d = refl
truths_from b v (x ∷ w) d =
    let i : v + 1 - (v + 1) ≡ 0 = omega arith in
    let h : b (v + 1) ≡ x = d (v + 1) (omega arith) (omega arith) ∙ ap (λ i. get_or (x ∷ w) i false) i in
    let ih = truths_from b (v + 1) w (λ k lo hi. let j : k - (v + 1) ≡ suc (k - (v + 1 + 1)) = omega arith in d k (omega arith) (omega arith) ∙ ap (λ i. get_or (x ∷ w) i false) j) in
    cc (h, ih)

-- fresh variables may have any values
pub free : (v n : ℕ) (w : List Bool) → length w ≡ n → Extends Always (λ b. truth_of b (fresh_lits v n) ≡ w) v (v + n)
free v n w e =
    subst (λ n. Extends Always (λ b. truth_of b (fresh_lits v n) ≡ w) v (v + n)) e
    (weaker Always Always (λ b. truth_of b (fresh_lits v (length w)) ≡ w) (AreDefined v (v + length w) (λ b k. value_in v w k)) v (v + length w)
    (defined Always v (v + length w) (λ b k. value_in v w k) (omega arith) (λ a b h p. tt) (λ a b h k. refl))
    (λ a b h p. tt)
    (λ a b h r. sym (truths_agree (v + length w) a b (fresh_lits v (length w)) h (fresh_lits_in v (length w) (v + length w) (omega arith))) ∙ r)
    (λ b p. p) (λ b p r. truths_to b v w r) (λ b p r. truths_from b v w r))
