-- What the answers of a search amount to.
use Rattle.std.proofs.Common.{◌≡◌, ℕ, ◌+◌, ◌<◌, ◌≤◌, ◌⊎◌, inl, inr, Bool, false, List, [], ◌∷◌, ◌++◌, length, Option, Some, None, ap, sym, ◌∙◌, subst, arith, length-append, get_or}
use Rattle.std.specs.Prelude.{slice_get}
use Rattle.std.specs.List.{AllZip}
use Rattle.std.proofs.lemmas.List.{take_all}
use Rattle.std.proofs.lemmas.Option.{slice_get-get_or}
use Rattle.std.proofs.lemmas.List.Elements.{All-get_or, All-from_get_or}
use Rattle.formulas.specs.declared.formula.Formula.{Formula}
use Rattle.formulas.specs.declared.formula.Formula as formula
use Rattle.formulas.specs.Formulas.{holds}
use Rattle.derivation_log.specs.Logs.{Log}
use Rattle.cdcl_core.specs.Replies.{IsLonger}
use Rattle.aggregators.specs.Levels.{FitLevels}
use Rattle.merge_model.specs.Merging.{IsModel, HasModel, IsClosest, repeated}
use Rattle.merge_encoding.specs.Claims.{Assertion, NoModelOfConstraint, NoModelOfBase, NoBetter, NoBreaker, NoModelWith, AreUpTo, base_at, ask_at}
use Rattle.merge_encoding.proofs.ValueOrders.{up_itself}
use Rattle.merge_encoding.proofs.Signs.{fit_length}
use Rattle.distance_search.specs.declared.answer.Away.{Away}
use Rattle.distance_search.specs.declared.answer.Best.{Best}
use Rattle.distance_search.specs.declared.answer.Consistency.{Consistency}
use Rattle.distance_search.specs.declared.answer.Entails.TheVariants.{Yes, No}
use Rattle.distance_search.specs.declared.answer.Named.{Named}
use Rattle.distance_search.specs.declared.answer.Named.TheVariants.{Model, Empty}
use Rattle.distance_search.specs.declared.reply.Witness.{Witness}
use Rattle.distance_search.specs.declared.reply.Reply.{Reply}
use Rattle.distance_search.specs.declared.reply.Reply.TheVariants.{Refuted, Found}
use Rattle.distance_search.specs.Setting.{Setting, IsAskable}
use Rattle.distance_search.specs.Laws.{Laws}
use Rattle.distance_search.specs.Replies.{IsAnswer}
use Rattle.distance_search.specs.LevelValues.{true_values, IsLeast}
use Rattle.distance_search.specs.Results.{AreProven, AreLeast, IsAway, IsBestFor, IsBest, IsJudged, IsNamedBy, AreNamed, IsModelNamed, IsConsistency, IsWith}
use Rattle.distance_search.specs.Turns.{AreLowered}
use Rattle.distance_search.proofs.Ready.{ready}
use Rattle.distance_search.proofs.Logs.{shows_on}
use Rattle.distance_search.proofs.Least.{least_closest, truth_is_candidate, values_fit, entailed_from, none_with, closest_from}
use Rattle.distance_search.proofs.Places.{all_proven_on, get_pushed}

-- ---- the best answer

-- least levels are those of a closest valuation
pub record IsFoundClosest (s : Setting) (log : Log) (x : Witness) (steps : List (Option ℕ)) : Type 0 where
  pub closest : IsClosest s.dist s.rank s.profile x.shared
  pub values : x.values.items ≡ true_values s x.shared
  pub proven : AreLeast s log x.values.items steps

pub found_closest : (s : Setting) → Laws s → (log : Log) (x : Witness) (fs : List (Option ℕ)) → AreLowered s log (length s.main.levels) x fs → IsFoundClosest s log x fs
found_closest s law log x fs low =
    let r = low.reached in
    let w = r.witness in
    let long : length x.values.items ≡ length s.main.levels = fit_length x.values.items s.main.levels w.fits in
    let least : IsLeast s x.values.items = (long, λ j lt. low.below j (omega arith)) in
    let c = least_closest s law x.shared x.own.items x.values.items least r.candidate (subst (λ us. AreUpTo us x.values.items) w.values (up_itself x.values.items)) in
    record {
      closest = c.0;
      values = sym c.1;
      proven = subst (λ us. AreProven s log (λ j k. NoBetter j x.values.items) us fs) (take_all (length s.main.levels) x.values.items (omega arith)) low.proven;
    }

pub best_whole : (s : Setting) → Laws s → (a b : Log) (x : Witness) (best : Best) (given : List ℕ) → IsLonger a b → AreLowered s a (length s.main.levels) x best.least → best.values ≡ x.values.items → IsAway s b (record { shown = best.shown; far = best.far }) → best.shown.model ≡ x.shared → given ≡ best.shown.vector → best.measure ≡ s.rank (repeated s.profile.times given) → IsBest s b best
best_whole s law a b x best given g low ev away em eg measured =
    let c = found_closest s law a x best.least low in
    record {
      of = record {
        closest = subst (λ v. IsClosest s.dist s.rank s.profile v) (sym em) c.closest;
        shown = away.shown;
        measure = measured ∙ ap (λ us. s.rank (repeated s.profile.times us)) eg;
        values = ev ∙ c.values ∙ ap (true_values s) (sym em);
      };
      far = away.far;
      least = subst (λ us. AreLeast s b us best.least) (sym ev) (all_proven_on s a b (λ j k. NoBetter j x.values.items) x.values.items best.least g c.proven);
    }

-- ---- the values of a closest valuation

pub values_proper : (s : Setting) → Laws s → (best : Best) (given : List ℕ) → IsBestFor s best → given ≡ best.values → FitLevels given s.main.levels
values_proper s law best given b e =
    let c = b.closest in
    let t = truth_is_candidate s c.consistent best.shown.model c.model in
    subst (λ us. FitLevels us s.main.levels) (t.2 ∙ sym b.values ∙ sym e) (values_fit s law best.shown.model t.0 t.1)

pub breaker_proper : (s : Setting) → Laws s → (best : Best) (given : List ℕ) (ask : ℕ) → IsBestFor s best → given ≡ best.values → ask < length s.asks → IsAskable s (NoBreaker ask given)
breaker_proper s law best given ask b e lt =
    let m = law.main in
    ready s law (NoBreaker ask given) (omega (arith, m.asks_size), values_proper s law best given b e)

pub with_proper : (s : Setting) → Laws s → (best : Best) (given : List ℕ) (prefix : List Bool) → IsBestFor s best → given ≡ best.values → length prefix ≤ s.profile.atoms → IsAskable s (NoModelWith given prefix)
with_proper s law best given prefix b e le = ready s law (NoModelWith given prefix) (values_proper s law best given b e, le)

-- ---- the verdict on a query

pub yes_from : (s : Setting) → Laws s → (log : Log) (best : Best) (given : List ℕ) (ask : ℕ) (r : Reply) (number : ℕ) → IsBestFor s best → given ≡ best.values → r ≡ Refuted number → IsAnswer s log (NoBreaker ask given) r → IsJudged s log ask best.values (Yes number)
yes_from s law log best given ask r number b e is answer =
    let a = subst (λ r. IsAnswer s log (NoBreaker ask best.values) r) is (subst (λ us. IsAnswer s log (NoBreaker ask us) r) e answer) in
    (entailed_from s law ask best.shown.model best.values b.closest (sym b.values) a.0, a.1)

-- a closest valuation at which the query is false, with a model of each base
pub record IsBreaker (s : Setting) (ask : ℕ) (x : Witness) : Type 0 where
  pub closest : IsClosest s.dist s.rank s.profile x.shared
  pub false_there : holds (ask_at s.asks ask) x.shared ≡ false
  pub starts : AllZip (IsModel s.profile.atoms) s.profile.bases x.own.items

pub breaker_from : (s : Setting) → Laws s → (log : Log) (best : Best) (given : List ℕ) (ask : ℕ) (r : Reply) (x : Witness) → IsBestFor s best → given ≡ best.values → r ≡ Found x → IsAnswer s log (NoBreaker ask given) r → IsBreaker s ask x
breaker_from s law log best given ask r x b e is answer =
    let a = subst (λ r. IsAnswer s log (NoBreaker ask best.values) r) is (subst (λ us. IsAnswer s log (NoBreaker ask us) r) e answer) in
    let c = a.1.0 in
    record {
      closest = closest_from s law best.shown.model x.shared x.own.items best.values b.closest (sym b.values) c a.1.2;
      false_there = a.1.1;
      starts = c.models;
    }

pub no_from : (s : Setting) (log : Log) (ask : ℕ) (values : List ℕ) (x : Witness) (found : Away) → IsBreaker s ask x → IsAway s log found → found.shown.model ≡ x.shared → IsJudged s log ask values (No found)
no_from s log ask values x found h away e = (subst (λ v. IsClosest s.dist s.rank s.profile v) (sym e) h.closest, ap (holds (ask_at s.asks ask)) e ∙ h.false_there, away)

-- ---- a closest valuation that begins so

pub none_from : (s : Setting) → Laws s → (log : Log) (best : Best) (given : List ℕ) (prefix : List Bool) (r : Reply) (number : ℕ) → IsBestFor s best → given ≡ best.values → r ≡ Refuted number → IsAnswer s log (NoModelWith given prefix) r → IsWith s prefix None
none_from s law log best given prefix r number b e is answer =
    let a = subst (λ r. IsAnswer s log (NoModelWith best.values prefix) r) is (subst (λ us. IsAnswer s log (NoModelWith us prefix) r) e answer) in
    none_with s law prefix best.shown.model best.values b.closest (sym b.values) a.0

pub with_from : (s : Setting) → Laws s → (log : Log) (best : Best) (given : List ℕ) (prefix : List Bool) (r : Reply) (x : Witness) → IsBestFor s best → given ≡ best.values → r ≡ Found x → IsAnswer s log (NoModelWith given prefix) r → IsWith s prefix (Some x.shared)
with_from s law log best given prefix r x b e is answer =
    let a = subst (λ r. IsAnswer s log (NoModelWith best.values prefix) r) is (subst (λ us. IsAnswer s log (NoModelWith us prefix) r) e answer) in
    (closest_from s law best.shown.model x.shared x.own.items best.values b.closest (sym b.values) a.1.0 a.1.2, a.1.1)

-- ---- formulas and their models

named_on : (s : Setting) (a b : Log) (formula : Formula) (claim : Assertion) (named : Named) → IsLonger a b → IsNamedBy s a formula claim named → IsNamedBy s b formula claim named
named_on s a b formula claim (Model v) g h = h
named_on s a b formula claim (Empty n) g h = (h.0, shows_on s a b n claim g h.1)

pub constraint_on : (s : Setting) (a b : Log) (named : Named) → IsLonger a b → IsNamedBy s a s.profile.constraint NoModelOfConstraint named → IsNamedBy s b s.profile.constraint NoModelOfConstraint named
constraint_on s a b named g h = named_on s a b s.profile.constraint NoModelOfConstraint named g h

pub none_named : (s : Setting) (log : Log) (agents : List Named) → agents ≡ [] → AreNamed s log 0 agents
none_named s log agents e = record { count = ap length e; each = λ i n h. absurd (let g = subst (λ xs. slice_get xs i ≡ Some n) e h in cc) }

-- one base more
pub one_named : (s : Setting) (a b : Log) (agent : ℕ) (agents pushed : List Named) (named : Named) → IsLonger a b → AreNamed s a agent agents → IsNamedBy s b (base_at s.profile agent) (NoModelOfBase agent) named → pushed ≡ agents ++ named ∷ [] → AreNamed s b (agent + 1) pushed
one_named s a b agent agents pushed named g h new e = subst (λ xs. AreNamed s b (agent + 1) xs) (sym e) (record {
  count = omega (arith, length-append agents (named ∷ []), h.count);
  each = λ i n there. at i n (get_pushed agents named n i there);
})
  where
    at : (i : ℕ) (n : Named) → (slice_get agents i ≡ Some n) ⊎ ((i ≡ length agents) × (n ≡ named)) → IsNamedBy s b (base_at s.profile i) (NoModelOfBase i) n
    at i n (inl l) = named_on s a b (base_at s.profile i) (NoModelOfBase i) n g (h.each i n l)
    at i n (inr r) =
        subst (λ x. IsNamedBy s b (base_at s.profile i) (NoModelOfBase i) x) (sym r.1)
        (subst (λ j. IsNamedBy s b (base_at s.profile j) (NoModelOfBase j) named) (sym (r.0 ∙ h.count)) new)

has_model : (s : Setting) (log : Log) (formula : Formula) (claim : Assertion) (named : Named) → IsNamedBy s log formula claim named → IsModelNamed named → HasModel s.profile.atoms formula
has_model s log formula claim (Model v) h m = (v, h)
has_model s log formula claim (Empty n) h m = absurd m

each_named : (s : Setting) (log : Log) (found : Consistency) → IsNamedBy s log s.profile.constraint NoModelOfConstraint found.constraint → AreNamed s log (length s.profile.bases) found.agents → IsConsistency s log found
each_named s log found first h = record {
  constraint = first;
  agents = h;
  consistent = λ all. record {
    constraint = has_model s log s.profile.constraint NoModelOfConstraint found.constraint first all.constraint;
    bases = All-from_get_or (HasModel s.profile.atoms) s.profile.bases formula.Top (λ i lt.
        let there : i < length found.agents = omega (arith, h.count) in
        let named = get_or found.agents i (Empty 0) in
        has_model s log (base_at s.profile i) (NoModelOfBase i) named (h.each i named (slice_get-get_or found.agents i (Empty 0) there)) (All-get_or IsModelNamed found.agents i (Empty 0) there all.agents));
  };
}

-- each base is named
pub whole_named : (s : Setting) (log : Log) (found : Consistency) (agents : ℕ) (items : List Named) → agents ≡ length s.profile.bases → found.agents ≡ items → IsNamedBy s log s.profile.constraint NoModelOfConstraint found.constraint → AreNamed s log agents items → IsConsistency s log found
whole_named s log found agents items e is first named = each_named s log found first (subst (λ k. AreNamed s log k found.agents) e (subst (λ ns. AreNamed s log agents ns) (sym is) named))
