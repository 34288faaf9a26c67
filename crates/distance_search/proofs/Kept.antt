-- Closest models at hand.
use Rattle.std.proofs.Common.{◌≡◌, ℕ, ◌<◌, inl, inr, false, List, length, get_or, Option, sym, subst}
use Rattle.std.proofs.Math.Logic.{∥∥₁_elim}
use Rattle.std.proofs.lemmas.List.Elements.{All-push, All-get_or, All-weaker}
use Rattle.formulas.specs.Formulas.{holds}
use Rattle.derivation_log.specs.Logs.{Log}
use Rattle.cdcl_core.specs.Replies.{IsLonger}
use Rattle.merge_encoding.specs.Claims.{NoNearer, ask_at}
use Rattle.distance_search.specs.declared.answer.Away.{Away}
use Rattle.distance_search.specs.declared.answer.Best.{Best}
use Rattle.distance_search.specs.declared.answer.Entails.{Entails}
use Rattle.distance_search.specs.declared.answer.Entails.TheVariants.{No}
use Rattle.distance_search.specs.Setting.{Setting}
use Rattle.distance_search.specs.Results.{AreFar, IsAway, IsBest, IsJudged}
use Rattle.distance_search.specs.AtHand.{IsAtHand, AreAtHand, IsKept}
use Rattle.distance_search.proofs.Places.{all_proven_on}
use Rattle.distance_search.proofs.Known.{at_hand_known}

-- exact distances that steps show are shown in a longer log
away_on : (s : Setting) (a b : Log) (found : Away) → IsLonger a b → IsAway s a found → IsAway s b found
away_on s a b found g h = record { shown = h.shown; far = all_proven_on s a b (λ i k. NoNearer i found.shown.model k) found.shown.vector found.far g h.far }

-- what is at hand stays there while the log grows
pub at_hand_on : (s : Setting) (a b : Log) (pool : List Away) → IsLonger a b → AreAtHand s a pool → AreAtHand s b pool
at_hand_on s a b pool g h = ∥∥₁_elim h (hlevel) (λ each. ∣ All-weaker (IsAtHand s a) (IsAtHand s b) (λ x k. record { closest = k.closest; away = away_on s a b x g k.away }) pool each ∣₁)

-- one more is at hand
pub one_at_hand : (s : Setting) (log : Log) (old new : List Away) (away : Away) → IsKept old away new → IsAtHand s log away → AreAtHand s log old → AreAtHand s log new
one_at_hand s log old new away (inl e) x h = subst (λ xs. AreAtHand s log xs) (sym e) h
one_at_hand s log old new away (inr e) x h =
    subst (λ xs. AreAtHand s log xs) (sym e) (∥∥₁_elim h (hlevel) (λ each. ∣ All-push (IsAtHand s log) old away each x ∣₁))

-- a best answer is at hand
pub best_at_hand : (s : Setting) (log : Log) (best : Best) (copy : Away) (far : List (Option ℕ)) → IsBest s log best → far ≡ best.far → copy ≡ record { shown = best.shown; far = far } → IsAtHand s log copy
best_at_hand s log best copy far h is e =
    let of = h.of in
    subst (λ x. IsAtHand s log x) (sym e) (record { closest = of.closest; away = record { shown = of.shown; far = subst (λ fs. AreFar s log best.shown.model best.shown.vector fs) (sym is) h.far } })

-- and so is a closest model that breaks a query
pub no_at_hand : (s : Setting) (log : Log) (ask : ℕ) (values : List ℕ) (found : Entails) (away copy : Away) (far : List (Option ℕ)) → IsJudged s log ask values found → found ≡ No away → far ≡ away.far → copy ≡ record { shown = away.shown; far = far } → IsAtHand s log copy
no_at_hand s log ask values found away copy far judged one is e =
    let h = subst (λ r. IsJudged s log ask values r) one judged in
    let x = h.2 in
    subst (λ x. IsAtHand s log x) (sym e) (record { closest = h.0; away = record { shown = x.shown; far = subst (λ fs. AreFar s log away.shown.model away.shown.vector fs) (sym is) x.far } })

-- the model of a place is had back
pub at_place : (s : Setting) (log : Log) (pool : List Away) (i : ℕ) (away : Away) → AreAtHand s log pool → i < length pool → away ≡ get_or pool i away → IsAtHand s log away
at_place s log pool i away h lt is = at_hand_known s log away (∥∥₁_elim h (hlevel) (λ each. ∣ subst (λ x. IsAtHand s log x) (sym is) (All-get_or (IsAtHand s log) pool i away lt each) ∣₁))

pub size_at : (s : Setting) (log : Log) (away : Away) → IsAtHand s log away → length away.shown.model ≡ s.profile.atoms
size_at s log away h = let c = h.closest in let m = c.model in m.size

-- a model at hand that does not satisfy a query breaks it
pub broken_at : (s : Setting) (log : Log) (ask : ℕ) (values : List ℕ) (away copy : Away) (far : List (Option ℕ)) → IsAtHand s log away → holds (ask_at s.asks ask) away.shown.model ≡ false → far ≡ away.far → copy ≡ record { shown = away.shown; far = far } → IsJudged s log ask values (No copy)
broken_at s log ask values away copy far h broken is e =
    let x = h.away in
    subst (λ y. IsJudged s log ask values (No y)) (sym e) (h.closest, broken, record { shown = x.shown; far = subst (λ fs. AreFar s log away.shown.model away.shown.vector fs) (sym is) x.far })
