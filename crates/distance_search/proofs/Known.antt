-- Answers, from the mere fact that they are right: that a formula has a model is found again among all valuations, and
-- a step's clause in the log.
use Rattle.std.proofs.Common.{◌≡◌, ℕ, ◌≤◌, Bool, List, [], ◌∷◌, length, get_or, inl, refl, arith, sym, subst, Option, Some, None}
use Rattle.std.specs.List.{AllZip}
use Rattle.std.specs.Coded.{coded_list, coded_ℕ}
use Rattle.std.proofs.Math.Logic.{∥∥₁_elim}
use Rattle.std.proofs.lemmas.List.Elements.{All-get_or, All-from_get_or}
use Rattle.std.proofs.Math.Bool.{Bool-set}
use Rattle.std.proofs.Math.Bridge.{le_prop}
use Rattle.std.proofs.Math.Nat.{ℕ_set}
use base.Stored.{Coded-set}
use Rattle.std.proofs.lemmas.Option.{slice_get_within, slice_get-get_or, get_or_from_slice_get}
use Rattle.clause_store.specs.declared.lit.Lit.{Lit}
use Rattle.clause_store.specs.Refutes.{Refutes}
use Rattle.derivation_log.specs.Logs.{Log, known_of}
use Rattle.formulas.specs.declared.formula.Formula.{Formula}
use Rattle.formulas.specs.declared.formula.Formula as formula
use Rattle.merge_model.specs.Merging.{IsModel, HasModel, models_of, away, IsClosest}
use Rattle.merge_model.specs.declared.answer.Shown.{Shown}
use Rattle.merge_model.specs.Answers.{IsShown}
use Rattle.merge_encoding.specs.Assumptions.{assumed}
use Rattle.merge_encoding.specs.Claims.{Assertion, NoNearer}
use Rattle.merge_model.proofs.Among.{Among, among_model}
use Rattle.merge_model.proofs.Nearest.{models_over}
use Rattle.distance_search.specs.declared.answer.Away.{Away}
use Rattle.distance_search.specs.declared.answer.Best.{Best}
use Rattle.distance_search.specs.Setting.{Setting}
use Rattle.distance_search.specs.Heard.{IsRefuting}
use Rattle.distance_search.specs.Results.{IsProven, IsAway, IsBestFor}
use Rattle.distance_search.specs.AtHand.{IsAtHand}

some_model : (n : ℕ) (f : Formula) (models : List (List Bool)) → ((w : List Bool) → Among w models → IsModel n f w) → 1 ≤ length models → HasModel n f
some_model n f [] are some = absurd (omega arith)
some_model n f (w ∷ models) are some = (w, are w (inl refl))

-- a formula that has a model has a first one
found_model : (n : ℕ) (f : Formula) → ∥ HasModel n f ∥₁ → HasModel n f
found_model n f h = some_model n f (models_of n f) (λ w among. among_model n f w among) (∥∥₁_elim h (hlevel le_prop) (λ m. (models_over n f m).some))

is_model : (n : ℕ) (f : Formula) (v : List Bool) → ∥ IsModel n f v ∥₁ → IsModel n f v
is_model n f v h = record { size = ∥∥₁_elim h (hlevel ℕ_set) (λ m. m.size); true_there = ∥∥₁_elim h (hlevel Bool-set) (λ m. m.true_there) }

abbrev AreNear : (List Bool → List Bool → ℕ) → ℕ → List Bool → Formula → List Bool → Type 0
AreNear dist n v base near = IsModel n base near × (dist v near ≡ away dist v base)

all_near : (dist : List Bool → List Bool → ℕ) (n : ℕ) (v : List Bool) (bases : List Formula) (nearest : List (List Bool)) → ∥ AllZip (AreNear dist n v) bases nearest ∥₁ → AllZip (AreNear dist n v) bases nearest
all_near dist n v [] [] h = tt
all_near dist n v [] (u ∷ us) h = ∥∥₁_elim h (λ x y. absurd x) (λ a. a)
all_near dist n v (f ∷ fs) [] h = ∥∥₁_elim h (λ x y. absurd x) (λ a. a)
all_near dist n v (f ∷ fs) (u ∷ us) h = (
  (is_model n f u (∥∥₁_elim h (hlevel) (λ a. ∣ a.0.0 ∣₁)), ∥∥₁_elim h (hlevel ℕ_set) (λ a. a.0.1)),
  all_near dist n v fs us (∥∥₁_elim h (hlevel) (λ a. ∣ a.1 ∣₁)),
)

closest_known : (dist : List Bool → List Bool → ℕ) (rank : List ℕ → List ℕ) (s : Setting) (v : List Bool) → ∥ IsClosest dist rank s.profile v ∥₁ → IsClosest dist rank s.profile v
closest_known dist rank s v h = record {
  consistent = All-from_get_or (HasModel s.profile.atoms) s.profile.bases formula.Top (λ i lt.
      found_model s.profile.atoms (get_or s.profile.bases i formula.Top) (∥∥₁_elim h (hlevel) (λ c. ∣ All-get_or (HasModel s.profile.atoms) s.profile.bases i formula.Top lt c.consistent ∣₁)));
  model = is_model s.profile.atoms s.profile.constraint v (∥∥₁_elim h (hlevel) (λ c. ∣ c.model ∣₁));
  best = λ w m. ∥∥₁_elim h (hlevel Bool-set) (λ c. c.best w m);
}

numbers_set : (us ws : List ℕ) (x y : us ≡ ws) → x ≡ y
numbers_set us ws = Coded-set (coded_list coded_ℕ) us ws

shown_known : (s : Setting) (shown : Shown) → ∥ IsShown s.dist s.profile shown ∥₁ → IsShown s.dist s.profile shown
shown_known s shown h = record {
  vector = ∥∥₁_elim h (numbers_set _ _) (λ x. x.vector);
  nearest = all_near s.dist s.profile.atoms shown.model s.profile.bases shown.nearest (∥∥₁_elim h (hlevel) (λ x. ∣ x.nearest ∣₁));
}

pub best_known : (s : Setting) (best : Best) → ∥ IsBestFor s best ∥₁ → IsBestFor s best
best_known s best h = record {
  closest = closest_known s.dist s.rank s best.shown.model (∥∥₁_elim h (hlevel) (λ b. ∣ b.closest ∣₁));
  shown = shown_known s best.shown (∥∥₁_elim h (hlevel) (λ b. ∣ b.shown ∣₁));
  measure = ∥∥₁_elim h (numbers_set _ _) (λ b. b.measure);
  values = ∥∥₁_elim h (numbers_set _ _) (λ b. b.values);
}

-- ---- steps

refutes_known : (clause assumed : List Lit) → ∥ Refutes clause assumed ∥₁ → Refutes clause assumed
refutes_known [] assumed h = tt
refutes_known (l ∷ ls) assumed h = (∥∥₁_elim h (hlevel Bool-set) (λ r. r.0), refutes_known ls assumed (∥∥₁_elim h (hlevel) (λ r. ∣ r.1 ∣₁)))

refuting_known : (log : Log) (assumed : List Lit) (number : ℕ) → ∥ IsRefuting log assumed number ∥₁ → IsRefuting log assumed number
refuting_known log assumed number h =
    let clause = get_or (known_of log) number [] in
    record {
      above = ∥∥₁_elim h (hlevel le_prop) (λ r. r.above);
      clause = clause;
      is_there = slice_get-get_or (known_of log) number [] (∥∥₁_elim h (hlevel le_prop) (λ r. slice_get_within (known_of log) number r.clause r.is_there));
      refuted = refutes_known clause assumed (∥∥₁_elim h (hlevel) (λ r. ∣ subst (λ c. Refutes c assumed) (sym (get_or_from_slice_get (known_of log) number r.clause [] r.is_there)) r.refuted ∣₁));
    }

proven_known : (s : Setting) (log : Log) (k : ℕ) (claim : Assertion) (step : Option ℕ) → ∥ IsProven s log k claim step ∥₁ → IsProven s log k claim step
proven_known s log k claim None h = ∥∥₁_elim h (hlevel ℕ_set) (λ p. p)
proven_known s log k claim (Some n) h = (∥∥₁_elim h (hlevel le_prop) (λ p. p.0), refuting_known log (assumed s.main claim) n (∥∥₁_elim h (hlevel) (λ p. ∣ p.1 ∣₁)))

away_known : (s : Setting) (log : Log) (found : Away) → ∥ IsAway s log found ∥₁ → IsAway s log found
away_known s log found h = record {
  shown = shown_known s found.shown (∥∥₁_elim h (hlevel) (λ x. ∣ x.shown ∣₁));
  far = record {
    count = ∥∥₁_elim h (hlevel ℕ_set) (λ x. let f = x.far in f.count);
    each = λ i k step ek es. proven_known s log k (NoNearer i found.shown.model k) step (∥∥₁_elim h (hlevel) (λ x. let f = x.far in ∣ f.each i k step ek es ∣₁));
  };
}

pub at_hand_known : (s : Setting) (log : Log) (found : Away) → ∥ IsAtHand s log found ∥₁ → IsAtHand s log found
at_hand_known s log found h = record {
  closest = closest_known s.dist s.rank s found.shown.model (∥∥₁_elim h (hlevel) (λ x. ∣ x.closest ∣₁));
  away = away_known s log found (∥∥₁_elim h (hlevel) (λ x. ∣ x.away ∣₁));
}
