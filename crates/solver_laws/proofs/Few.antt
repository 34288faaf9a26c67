-- Fewer clauses are learned than 3 to the number of variables.
use Rattle.std.proofs.Common.{◌≡◌, ◌≢◌, ℕ, ◌<◌, List, [], ◌∷◌, ◌++◌, length, refl, sym, ◌∙◌, arith, inl, inr, subst, zero, suc, get_or, length-append}
use Rattle.std.specs.Prelude.{All, AllPairs, ◌^◌}
use Rattle.std.proofs.lemmas.Bool.{cases_Bool}
use Rattle.clause_store.specs.declared.lit.Lit.{Lit}
use Rattle.derivation_log.specs.Logs.{Log, learned_of, IsNew, is_learned}
use Rattle.derivation_log.specs.declared.step.Step.{Step}
use Rattle.clause_store.specs.Lits.{Includes}
use Rattle.clause_store.proofs.Each.{each_index}
use Rattle.solver_laws.specs.Digits.{IsFit}
use Rattle.solver_laws.proofs.Codes.{count_law}
use Rattle.solver_laws.specs.Ready.{AllFit, IsLog}

all_cons : (P : List Lit → Type 0) (x : List Lit) (xs : List (List Lit)) → P x → All P xs → All P (x ∷ xs)
all_cons P x xs p a zero d lt = p
all_cons P x xs p a (suc k) d lt = a k d (omega arith)

all_fit : (V : ℕ) (ss : List Step) → AllFit V ss → All (IsFit V) (learned_of ss)
all_fit V [] a = λ k d lt. absurd (omega arith)
all_fit V (s ∷ ss) a = elim (cases_Bool (is_learned s.kind)) [ inl t ↦ rw t (all_cons (IsFit V) s.clause (learned_of ss) (a.0 t) (all_fit V ss a.1)) | inr t ↦ rw t (all_fit V ss a.1) ]

-- a clause before all steps is none of the learned ones
not_before : (c : List Lit) (before : List (List Lit)) (ss : List Step) (i : ℕ) → IsNew before ss → i < length before → get_or before i [] ≡ c → All (λ d. c ≢ d) (learned_of ss)
not_before c before [] i n lt e = λ k d l. absurd (omega arith)
not_before c before (s ∷ ss) i n lt e =
    elim (cases_Bool (is_learned s.kind)) [
      | inl t ↦ rw t (all_cons (λ d. c ≢ d) s.clause (learned_of ss)
          (λ q. each_index (λ d. Includes s.clause d → ⊥) before (n.0 t) i [] lt (subst (λ (x : List Lit). Includes s.clause x) (sym q ∙ sym e) (λ l h. h)))
          (not_before c (before ++ s.clause ∷ []) ss i (rw t at n.1) (omega (arith, length-append before (s.clause ∷ []))) (get_front before (s.clause ∷ []) i lt ∙ e)))
      | inr t ↦ rw t (not_before c before ss i (rw t at n.1) lt e)
    ]
  where
    get_front : (xs ys : List (List Lit)) (i : ℕ) → i < length xs → get_or (xs ++ ys) i [] ≡ get_or xs i []
    get_front [] ys i h = absurd (omega arith)
    get_front (x ∷ xs) ys zero h = refl
    get_front (x ∷ xs) ys (suc i) h = get_front xs ys i (omega arith)

pairs_cons : (c : List Lit) (cs : List (List Lit)) → All (λ d. c ≢ d) cs → AllPairs (λ (a b : List Lit). a ≢ b) cs → AllPairs (λ (a b : List Lit). a ≢ b) (c ∷ cs)
pairs_cons c cs a p zero (suc j) d lt h = a j d (omega arith)
pairs_cons c cs a p zero zero d lt h = absurd (omega arith)
pairs_cons c cs a p (suc i) zero d lt h = absurd (omega arith)
pairs_cons c cs a p (suc i) (suc j) d lt h = p i j d (omega arith) (omega arith)

get_last : (xs : List (List Lit)) (c : List Lit) → get_or (xs ++ c ∷ []) (length xs) [] ≡ c
get_last [] c = refl
get_last (x ∷ xs) c = get_last xs c

pub apart : (before : List (List Lit)) (ss : List Step) → IsNew before ss → AllPairs (λ (a b : List Lit). a ≢ b) (learned_of ss)
apart before [] n = λ i j d lt h. absurd (omega arith)
apart before (s ∷ ss) n =
    elim (cases_Bool (is_learned s.kind)) [
      | inl t ↦ rw t (pairs_cons s.clause (learned_of ss) (not_before s.clause (before ++ s.clause ∷ []) ss (length before) (rw t at n.1) (omega (arith, length-append before (s.clause ∷ []))) (get_last before s.clause)) (apart (before ++ s.clause ∷ []) ss (rw t at n.1)))
      | inr t ↦ rw t (apart before ss (rw t at n.1))
    ]

pub few_learned : (g : Log) → IsLog g → length (learned_of g.steps) < 3 ^ g.vars
few_learned g l = count_law g.vars (learned_of g.steps) (record { distinct = apart g.main g.steps l.new; fit = all_fit g.vars g.steps l.fit })
