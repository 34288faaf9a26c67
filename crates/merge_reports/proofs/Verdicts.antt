-- Verdicts with their proofs, one query after another.
use Rattle.std.proofs.Common.{◌≡◌, ℕ, suc, ◌+◌, ◌<◌, ◌≤◌, List, [], ◌∷◌, ◌++◌, length, take, sym, ap, ◌∙◌, subst, arith, append_assoc, length-append}
use Rattle.std.specs.List.{AllZip}
use Rattle.std.proofs.lemmas.List.{take_more, take_all, append-nil}
use Rattle.std.proofs.lemmas.Slice.Zip.{all_zipped_more}
use Rattle.formulas.specs.declared.formula.Formula as formula
use Rattle.derivation_log.specs.Logs.{Log}
use Rattle.cdcl_core.specs.Replies.{IsLonger}
use Rattle.merge_model.specs.declared.answer.Answer.TheVariants.{Merged}
use Rattle.merge_model.specs.declared.answer.Verdict.{Verdict}
use Rattle.merge_model.specs.declared.answer.Verdict.TheVariants as verdict
use Rattle.merge_model.specs.Answers.{IsVerdict}
use Rattle.merge_encoding.specs.Claims.{ask_at}
use Rattle.distance_search.specs.declared.answer.Away.{Away}
use Rattle.distance_search.specs.declared.answer.Best.{Best}
use Rattle.distance_search.specs.declared.answer.Entails.{Entails}
use Rattle.distance_search.specs.declared.answer.Entails.TheVariants.{No}
use Rattle.distance_search.specs.Setting.{Setting}
use Rattle.distance_search.specs.Results.{IsJudged, IsBest}
use Rattle.report_lines.specs.declared.report.Proof.{Proof}
use Rattle.report_lines.specs.ClaimsDue.{DueClaim, far_claims, least_claims, verdict_claims}
use Rattle.merge_reports.specs.Proofs.{far_proofs, least_proofs, best_proofs}
use Rattle.merge_reports.specs.Found.{IsShownBy, AreShownBy, claims_on, IsRuled, AreRuled, values_by, IsFound}
use Rattle.merge_reports.proofs.Shown.{zip_join, shown_on, far_shown, least_shown}

pub no_ruled : (s : Setting) (log : Log) (values : List ℕ) (q : ℕ) (found : Away) (old new : List Proof) (judged : Entails) → judged ≡ No found → IsJudged s log q values judged → new ≡ old ++ far_proofs (q + 1) 0 found.far → IsRuled s log values q old new (verdict.No found.shown)
no_ruled s log values q found old new judged is h e =
    let j = subst (λ r. IsJudged s log q values r) is h in
    let away = j.2 in
    record { right = (j.0, away.shown, j.1); more = far_proofs (q + 1) 0 found.far; appended = e; shown = far_shown s log (q + 1) found.shown.model found.shown.vector found.far away.far }

-- the verdicts on the first queries are right, in order, and the proofs of them were appended
pub record AreRuledTo (s : Setting) (log : Log) (values : List ℕ) (q : ℕ) (old new : List Proof) (verdicts : List Verdict) : Type 0 where
  pub right : AllZip (IsVerdict s.dist s.rank s.profile) (take q s.asks) verdicts
  pub count : length verdicts ≡ q
  pub more : List Proof
  pub appended : new ≡ old ++ more
  pub shown : AreShownBy s log (verdict_claims values 0 verdicts) more

pub none_ruled : (s : Setting) (log : Log) (values : List ℕ) (proofs : List Proof) (verdicts : List Verdict) → verdicts ≡ [] → AreRuledTo s log values 0 proofs proofs verdicts
none_ruled s log values proofs verdicts e = record {
  right = subst (λ vs. AllZip (IsVerdict s.dist s.rank s.profile) (take 0 s.asks) vs) (sym e) tt;
  count = ap length e;
  more = [];
  appended = sym (append-nil proofs);
  shown = subst (λ vs. AreShownBy s log (verdict_claims values 0 vs) []) (sym e) tt;
}

-- one more verdict has its claims at the end
claims_more : (values : List ℕ) (q : ℕ) (vs : List Verdict) (v : Verdict) → verdict_claims values q (vs ++ v ∷ []) ≡ verdict_claims values q vs ++ claims_on values (q + length vs) v
claims_more values q [] verdict.Yes = let e : q + 0 ≡ q = omega arith in ap (λ (j : ℕ). claims_on values j verdict.Yes) (sym e)
claims_more values q [] (verdict.No shown) =
    let e : q + 0 ≡ q = omega arith in
    append-nil (claims_on values q (verdict.No shown)) ∙ ap (λ (j : ℕ). claims_on values j (verdict.No shown)) (sym e)
claims_more values q (verdict.Yes ∷ vs) v =
    let e : q + 1 + length vs ≡ q + suc (length vs) = omega arith in
    let r = claims_more values (q + 1) vs v in
    ap (λ cs. claims_on values q verdict.Yes ++ cs) (r ∙ ap (λ (j : ℕ). verdict_claims values (q + 1) vs ++ claims_on values j v) e)
claims_more values q (verdict.No shown ∷ vs) v =
    let e : q + 1 + length vs ≡ q + suc (length vs) = omega arith in
    let r = claims_more values (q + 1) vs v in
    let front = claims_on values q (verdict.No shown) in
    ap (λ cs. front ++ cs) (r ∙ ap (λ (j : ℕ). verdict_claims values (q + 1) vs ++ claims_on values j v) e)
    ∙ sym (append_assoc front (verdict_claims values (q + 1) vs) (claims_on values (q + suc (length vs)) v))

zip_at : (s : Setting) (q : ℕ) (verdicts : List Verdict) (v : Verdict) → q < length s.asks → AllZip (IsVerdict s.dist s.rank s.profile) (take q s.asks) verdicts → IsVerdict s.dist s.rank s.profile (ask_at s.asks q) v →
    AllZip (IsVerdict s.dist s.rank s.profile) (take (q + 1) s.asks) (verdicts ++ v ∷ [])
zip_at s q verdicts v less h r =
    let R = IsVerdict s.dist s.rank s.profile in
    subst (λ fs. AllZip R fs (verdicts ++ v ∷ [])) (sym (take_more s.asks q formula.Top less)) (all_zipped_more R (take q s.asks) verdicts (ask_at s.asks q) v h r)

pub one_ruled : (s : Setting) (a b : Log) (values : List ℕ) (q : ℕ) (verdicts pushed : List Verdict) (old mid new : List Proof) (v : Verdict) → q < length s.asks → IsLonger a b → AreRuledTo s a values q old mid verdicts → IsRuled s b values q mid new v → pushed ≡ verdicts ++ v ∷ [] →
    AreRuledTo s b values (q + 1) old new pushed
one_ruled s a b values q verdicts pushed old mid new v less longer h r e =
    let k : 0 + length verdicts ≡ q = omega (arith, h.count) in
    let claims : verdict_claims values 0 verdicts ++ claims_on values q v ≡ verdict_claims values 0 pushed =
    sym (ap (λ vs. verdict_claims values 0 vs) e ∙ claims_more values 0 verdicts v ∙ ap (λ (j : ℕ). verdict_claims values 0 verdicts ++ claims_on values j v) k) in
    record {
      right = subst (λ vs. AllZip (IsVerdict s.dist s.rank s.profile) (take (q + 1) s.asks) vs) (sym e) (zip_at s q verdicts v less h.right r.right);
      count = ap length e ∙ length-append verdicts (v ∷ []) ∙ ap (λ (n : ℕ). n + 1) h.count;
      more = h.more ++ r.more;
      appended = r.appended ∙ ap (λ ps. ps ++ r.more) h.appended ∙ append_assoc old h.more r.more;
      shown = subst (λ (cs : List DueClaim). AreShownBy s b cs (h.more ++ r.more)) claims
          (zip_join (IsShownBy s b) (verdict_claims values 0 verdicts) (claims_on values q v) h.more r.more (shown_on s a b longer (verdict_claims values 0 verdicts) h.more h.shown) r.shown);
    }

pub all_ruled : (s : Setting) (log : Log) (values : List ℕ) (q : ℕ) (old new : List Proof) (verdicts : List Verdict) → length s.asks ≤ q → AreRuledTo s log values q old new verdicts → AreRuled s log values old new verdicts
all_ruled s log values q old new verdicts most h = record {
  right = subst (λ fs. AllZip (IsVerdict s.dist s.rank s.profile) fs verdicts) (take_all q s.asks most) h.right;
  more = h.more;
  appended = h.appended;
  shown = h.shown;
}

-- a best answer with its proofs and the verdicts with theirs make a merge that is found
pub merge_found : (s : Setting) (a b : Log) (best : Best) (old new : List Proof) (verdicts : List Verdict) → IsBest s a best → IsLonger a b → old ≡ best_proofs best → AreRuled s b best.values old new verdicts → IsFound s b (Merged best.shown best.measure verdicts) new
merge_found s a b best old new verdicts h longer e r =
    let of = h.of in
    let shown = of.shown in
    let far = far_claims 0 best.shown.model best.shown.vector in
    let least = least_claims best.values in
    let rest = verdict_claims best.values 0 verdicts in
    let values : best.values ≡ values_by s best.shown.vector = of.values ∙ ap (λ vector. values_by s vector) (sym shown.vector) in
    let appended : best_proofs best ++ r.more ≡ new = sym (r.appended ∙ ap (λ ps. ps ++ r.more) e) in
    let there = zip_join (IsShownBy s b) (far ++ least) rest (best_proofs best) r.more
    (shown_on s a b longer (far ++ least) (best_proofs best) (zip_join (IsShownBy s a) far least (far_proofs 0 0 best.far) (least_proofs 0 best.least) (far_shown s a 0 best.shown.model best.shown.vector best.far h.far) (least_shown s a best.values best.least h.least)))
    r.shown in
    record {
      right = record { closest = of.closest; shown = shown; measured = of.measure; judged = r.right };
      shown = subst (λ (vs : List ℕ). AreShownBy s b (far ++ (least_claims vs ++ verdict_claims vs 0 verdicts)) new) values
          (subst (λ (cs : List DueClaim). AreShownBy s b cs new) (append_assoc far least rest) (subst (λ ps. AreShownBy s b ((far ++ least) ++ rest) ps) appended there));
    }
