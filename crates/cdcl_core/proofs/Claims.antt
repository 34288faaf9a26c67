-- Lemmas on claimed steps.
use Rattle.std.proofs.Common.{◌≡◌, ℕ, ◌-◌, ◌≤◌, true, false, List, [], ◌∷◌, ◌++◌, length, refl, ap, sym, ◌∙◌, arith, inl, inr, subst, Some, None, drop}
use Rattle.std.specs.Prelude.{slice_get}
use Rattle.std.proofs.lemmas.Bool.{cases_Bool}
use Rattle.clause_store.specs.declared.lit.Lit.{Lit}
use Rattle.clause_store.specs.Lits.{negated, same_lit, without, resolvent, Ascends, InRange, has}
use Rattle.clause_store.proofs.Lits.{negated-twice}
use Rattle.watch_lists.specs.declared.entry.Entry.{Entry}
use Rattle.watch_lists.specs.Trace.{Attached, IsStacked, StandIn, oldest}
use Rattle.derivation_log.specs.declared.step.Link.{Link}
use Rattle.clause_store.specs.Refutes.{Refutes}
use Rattle.solver_laws.specs.Ready.{IsFalseIn, IsJustified, DecidesOnly, IsBarred, IsLesson}
use Rattle.std.specs.List.{AllByRecursion}
use Rattle.solver_laws.proofs.Rooms.{same_lit-is, each_map, each_resolvent, each_lacks, false_before}
use Rattle.solver_laws.proofs.Steps.{lesson_more, reason_at}

-- all decisions are assumptions
abbrev pub AllDecided : List Lit → List Entry → Type 0
AllDecided asked [] = Unit {0}
AllDecided asked (e ∷ es) = (e.reason ≡ None → has e.lit asked ≡ true) × AllDecided asked es

pub decides_all : (as' : List Lit) (n lv : ℕ) (es : List Entry) → IsStacked lv es → lv ≤ n → DecidesOnly as' n es → AllDecided as' es
decides_all as' n lv [] s h d = tt
decides_all as' n lv (e ∷ es) s h d =
    ((λ r. d.0 r (omega (arith, s.0))), elim s.1 [ inl x ↦ decides_all as' n x.1.0 es x.1.2 (omega (arith, x.1.1)) d.1 | inr i ↦ decides_all as' n lv es i.1 h d.1 ])

pub record IsClaiming (known : List (List Lit)) (watched : List Attached) (vars : ℕ) (assumptions : List Lit) (rest : List Entry) (first : ℕ) (chain : List Link) (clause : List Lit) : Type 0 where
  pub decided : AllDecided assumptions rest
  pub barred : AllByRecursion (IsBarred assumptions rest) clause
  pub justified : IsJustified watched rest
  pub lesson : IsLesson known vars first chain clause

barred_before : (as' : List Lit) (es : List Entry) (e : Entry) (p l : Lit) → p ≡ negated e.lit → IsBarred as' (e ∷ es) l → same_lit l p ≡ false → IsBarred as' es l
barred_before as' es e p l q b t = elim b [ inl h ↦ inl h | inr f ↦ inr (false_before es e l f (subst (λ (y : Lit). same_lit l y ≡ false) q t)) ]

pub claim_skip : (known : List (List Lit)) (watched : List Attached) (vars first : ℕ) (as' : List Lit) (rest : List Entry) (e : Entry) (chain : List Link) (c : List Lit) (p : Lit) → p ≡ negated e.lit →
    IsClaiming known watched vars as' (e ∷ rest) first chain c → has p c ≡ false → IsClaiming known watched vars as' rest first chain c
claim_skip known watched vars first as' rest e chain c p q w h =
    record {
      decided = w.decided.1;
      barred = each_lacks (IsBarred as' (e ∷ rest)) (IsBarred as' rest) p c (λ l x t. barred_before as' rest e p l q x t) w.barred h;
      justified = w.justified.1;
      lesson = w.lesson;
    }

pub claim_decided : (known : List (List Lit)) (watched : List Attached) (vars first : ℕ) (as' : List Lit) (rest : List Entry) (e : Entry) (chain : List Link) (c : List Lit) →
    IsClaiming known watched vars as' (e ∷ rest) first chain c → e.reason ≡ None → IsClaiming known watched vars as' rest first chain c
claim_decided known watched vars first as' rest e chain c w r =
    record {
      decided = w.decided.1;
      barred = each_map (IsBarred as' (e ∷ rest)) (IsBarred as' rest) c (λ l x. elim (cases_Bool (same_lit l (negated e.lit))) [
        | inl t ↦ inl (subst (λ (y : Lit). has y as' ≡ true) (sym (ap negated (same_lit-is l (negated e.lit) t) ∙ negated-twice e.lit)) (w.decided.0 r))
        | inr t ↦ barred_before as' rest e (negated e.lit) l refl x t
      ]) w.barred;
      justified = w.justified.1;
      lesson = w.lesson;
    }

pub claim_step : (known : List (List Lit)) (watched : List Attached) (vars first : ℕ) (as' : List Lit) (rest : List Entry) (e : Entry) (chain : List Link) (c d : List Lit) (p : Lit) (n : ℕ) → StandIn known watched → p ≡ negated e.lit →
    IsClaiming known watched vars as' (e ∷ rest) first chain c → e.reason ≡ Some n → slice_get known n ≡ Some d → Ascends d → InRange vars d → has p c ≡ true →
    IsClaiming known watched vars as' rest first (chain ++ record { pivot = p; number = n } ∷ []) (resolvent p c d)
claim_step known watched vars first as' rest e chain c d p n st q w r g a ra h =
    let j = reason_at watched known rest e n d st w.justified.0 r g in
    let np : negated p ≡ e.lit = ap negated q ∙ negated-twice e.lit in
    let hd : has (negated p) d ≡ true = subst (λ (x : Lit). has x d ≡ true) (sym np) j.has in
    let others : AllByRecursion (IsFalseIn rest) (without (negated p) d) = subst (λ (x : Lit). AllByRecursion (IsFalseIn rest) (without x d)) (sym np) j.others in
    record {
      decided = w.decided.1;
      barred = each_resolvent (IsBarred as' (e ∷ rest)) (IsBarred as' rest) p c d (λ l x t. barred_before as' rest e p l q x t) w.barred (each_map (IsFalseIn rest) (IsBarred as' rest) (without (negated p) d) (λ l f. inr f) others);
      justified = w.justified.1;
      lesson = lesson_more known vars first chain c d p n w.lesson g a ra h hd;
    }

pub claim_end : (as' : List Lit) (c : List Lit) → AllByRecursion (IsBarred as' []) c → Refutes c as'
claim_end as' c e = each_map (IsBarred as' []) (λ (l : Lit). has (negated l) as' ≡ true) c (λ l x. elim x [ inl h ↦ h | inr f ↦ absurd (cc) ]) e

pub oldest_all : (es : List Entry) → oldest (length es) es ≡ es
oldest_all es = let e : length es - length es ≡ 0 = omega arith in ap (λ (n : ℕ). drop n es) e
