-- The parts of an answer that was found are accepted.
use Rattle.std.proofs.Common.{◌≡◌, ℕ, Bool, List, [], ◌∷◌, length, map, refl, sym, ap, ◌∙◌, subst, Option, None, Some}
use Rattle.std.specs.List.{AllZip}
use Rattle.std.proofs.lemmas.List.{length-map}
use Rattle.formulas.specs.declared.formula.Formula.{Formula}
use Rattle.clause_store.specs.declared.lit.Lit.{Lit}
use Rattle.clause_store.specs.Lits.{sorted_clause}
use Rattle.derivation_log.specs.Logs.{Log, IsSound}
use Rattle.merge_model.specs.declared.answer.Answer.{Answer}
use Rattle.merge_model.specs.declared.answer.Answer.TheVariants.{Merged, Inconsistent, GaveUp}
use Rattle.merge_model.specs.declared.answer.Shown.{Shown}
use Rattle.merge_model.specs.declared.answer.Verdict.{Verdict}
use Rattle.merge_model.specs.declared.answer.Verdict.TheVariants.{Yes, No}
use Rattle.merge_model.specs.declared.problem.Problem.{Problem}
use Rattle.merge_model.specs.Answers.{profile_of, IsShown, IsVerdict, IsRightMerge, IsNamedEntry, NamesModels}
use Rattle.merge_model.specs.Merging.{Profile, IsModel, IsClosest, away, vector_of, repeated, full_of}
use Rattle.merge_encoding.specs.Assumptions.{assumed}
use Rattle.merge_encoding.proofs.ValueOrders.{one_list}
use Rattle.report_lines.proofs.Witnesses.{full_long}
use Rattle.distance_search.specs.Setting.{IsOver}
use Rattle.distance_search.specs.Laws.{Laws}
use Rattle.distance_search.proofs.Exact.{shown_within}
use Rattle.report_lines.specs.declared.report.Proof.{Proof}
use Rattle.report_lines.specs.ClaimsDue.{DueClaim, claims_due}
use Rattle.report_lines.specs.Accepted.{Operator, Parts, main_of, log_of, values_in, IsWitness, IsWitnessed, IsWitnessedVerdict, IsWitnessedMerge, IsWitnessedEntry, IsWitnessedNaming, AreAccepted, Shows}
use Rattle.report_lines.specs.Reports.{step_of}
use Rattle.merge_reports.specs.Found.{IsShownBy, AreShownBy, IsRightBy, IsFound}
use Rattle.merge_reports.specs.Outcomes.{setting_by}

abbrev pub AreNear : (List Bool → List Bool → ℕ) → ℕ → List Bool → Formula → List Bool → Type 0
AreNear dist n v base near = IsModel n base near × (dist v near ≡ away dist v base)

pub only_models : (dist : List Bool → List Bool → ℕ) (n : ℕ) (v : List Bool) (fs : List Formula) (ws : List (List Bool)) → AllZip (AreNear dist n v) fs ws → AllZip (IsModel n) fs ws
only_models dist n v [] [] h = tt
only_models dist n v [] (w ∷ ws) h = absurd h
only_models dist n v (f ∷ fs) [] h = absurd h
only_models dist n v (f ∷ fs) (w ∷ ws) h = (h.0.0, only_models dist n v fs ws h.1)

only_dists : (dist : List Bool → List Bool → ℕ) (n : ℕ) (v : List Bool) (fs : List Formula) (ws : List (List Bool)) → AllZip (AreNear dist n v) fs ws → map (dist v) ws ≡ vector_of dist fs v
only_dists dist n v [] [] h = refl
only_dists dist n v [] (w ∷ ws) h = absurd h
only_dists dist n v (f ∷ fs) [] h = absurd h
only_dists dist n v (f ∷ fs) (w ∷ ws) h =
    let here : dist v w ≡ away dist v f = h.0.1 in
    let rest = only_dists dist n v fs ws h.1 in
    cc

entry_witnessed : (n : ℕ) (f : Formula) (entry : Option (List Bool)) → IsNamedEntry n f entry → IsWitnessedEntry n f entry
entry_witnessed n f None h = tt
entry_witnessed n f (Some v) h = h

entries_witnessed : (n : ℕ) (fs : List Formula) (entries : List (Option (List Bool))) → AllZip (IsNamedEntry n) fs entries → AllZip (IsWitnessedEntry n) fs entries
entries_witnessed n [] [] h = tt
entries_witnessed n [] (e ∷ es) h = absurd h
entries_witnessed n (f ∷ fs) [] h = absurd h
entries_witnessed n (f ∷ fs) (e ∷ es) h = (entry_witnessed n f e h.0, entries_witnessed n fs es h.1)

naming_witnessed : (p : Profile) (constraint : Option (List Bool)) (agents : List (Option (List Bool))) → NamesModels p constraint agents → IsWitnessedNaming p constraint agents
naming_witnessed p constraint agents h = record {
  constraint_entry = entry_witnessed p.atoms p.constraint constraint h.constraint_named;
  base_entries = entries_witnessed p.atoms p.bases agents h.bases_named;
  some_none = h.some_none;
}

-- a log by its parts
same_log : (log : Log) (main : List (List Lit)) (vars : ℕ) → log.main ≡ main → log.vars ≡ vars → let l : Log = record { main = main; vars = vars; steps = log.steps } in log ≡ l
same_log log main vars e f =
    let by_main : List (List Lit) → Log = λ m. record { main = m; vars = log.vars; steps = log.steps } in
    let by_vars : ℕ → Log = λ v. record { main = main; vars = v; steps = log.steps } in
    ap by_main e ∙ ap by_vars f

-- ranks of lists of one length have one length
abbrev pub IsSized : (List ℕ → List ℕ) → Type 0
IsSized rank = (u w : List ℕ) → length u ≡ length w → length (rank u) ≡ length (rank w)

module _ (op : Operator) (problem : Problem) (laws : Laws (setting_by op problem)) (sized : IsSized op.rank) where
  witness_of : (shown : Shown) → IsModel (length problem.atoms) problem.constraint shown.model → IsShown op.dist (profile_of problem) shown → IsWitness op (profile_of problem) shown
  witness_of shown model h =
      let p = profile_of problem in
      record {
        model = model;
        within = shown_within (setting_by op problem) laws shown model.size h;
        nearest = only_models op.dist p.atoms shown.model p.bases shown.nearest h.nearest;
        vector = h.vector ∙ sym (only_dists op.dist p.atoms shown.model p.bases shown.nearest h.nearest);
      }

  -- closest valuations have one rank
  same_rank : (u w : List Bool) → IsClosest op.dist op.rank (profile_of problem) u → IsClosest op.dist op.rank (profile_of problem) w → op.rank (full_of op.dist (profile_of problem) u) ≡ op.rank (full_of op.dist (profile_of problem) w)
  same_rank u w hu hw =
      let p = profile_of problem in
      one_list (op.rank (full_of op.dist p u)) (op.rank (full_of op.dist p w))
      (sized (full_of op.dist p u) (full_of op.dist p w) (full_long p.times (vector_of op.dist p.bases u) (vector_of op.dist p.bases w) (length-map p.bases (away op.dist u) ∙ sym (length-map p.bases (away op.dist w)))))
      (hu.best w hw.model) (hw.best u hu.model)

  module _ (best : Shown) (measure : List ℕ) (closest : IsClosest op.dist op.rank (profile_of problem) best.model) (shown : IsShown op.dist (profile_of problem) best) (measured : measure ≡ op.rank (repeated (profile_of problem).times best.vector)) where
    verdict_witnessed : (ask : Formula) (verdict : Verdict) → IsVerdict op.dist op.rank (profile_of problem) ask verdict → IsWitnessedVerdict op (profile_of problem) measure ask verdict
    verdict_witnessed ask Yes h = tt
    verdict_witnessed ask (No other) h =
        let p = profile_of problem in
        let its = h.0 in
        let is = h.1 in (
          witness_of other its.model is,
          measured ∙ ap (λ ks. op.rank (repeated p.times ks)) shown.vector ∙ same_rank best.model other.model closest its ∙ ap (λ ks. op.rank (repeated p.times ks)) (sym is.vector),
          h.2,
        )

    verdicts_witnessed : (asks : List Formula) (verdicts : List Verdict) → AllZip (IsVerdict op.dist op.rank (profile_of problem)) asks verdicts → AllZip (IsWitnessedVerdict op (profile_of problem) measure) asks verdicts
    verdicts_witnessed [] [] h = tt
    verdicts_witnessed [] (v ∷ vs) h = absurd h
    verdicts_witnessed (f ∷ fs) [] h = absurd h
    verdicts_witnessed (f ∷ fs) (v ∷ vs) h = (verdict_witnessed f v h.0, verdicts_witnessed fs vs h.1)

  right_witnessed : (best : Shown) (measure : List ℕ) (verdicts : List Verdict) → IsRightMerge op.dist op.rank (profile_of problem) problem.asks best measure verdicts → IsWitnessedMerge op (profile_of problem) problem.asks best measure verdicts
  right_witnessed best measure verdicts h =
      let closest = h.closest in
      record {
        first = witness_of best closest.model h.shown;
        measured = h.measured;
        judged = verdicts_witnessed best measure closest h.shown h.measured problem.asks verdicts h.judged;
      }

  witnessed : (answer : Answer) → IsRightBy (setting_by op problem) answer → IsWitnessed op (profile_of problem) problem.asks answer
  witnessed (Merged best measure verdicts) h = right_witnessed best measure verdicts h
  witnessed (Inconsistent constraint agents) h = naming_witnessed (profile_of problem) constraint agents h
  witnessed GaveUp h = h

  -- the log is that of the parts
  module _ (log : Log) (over : IsOver (setting_by op problem) log) (answer : Answer) (proofs : List Proof) (found : IsFound (setting_by op problem) log answer proofs) (sound : IsSound log.main log.steps) where
    abbrev parts : Parts
    parts = record { problem = problem; answer = answer; steps = log.steps; shown = map step_of proofs }

    log_is : log ≡ log_of op parts
    log_is = same_log log (map sorted_clause (main_of op problem).clauses) (main_of op problem).vars over.clauses over.vars

    line_shown : (claim : DueClaim) (given : Proof) → IsShownBy (setting_by op problem) log claim given → Shows (log_of op parts) (assumed (main_of op problem) claim.says) (step_of given)
    line_shown claim given h =
        let r = h.1 in
        subst (λ (l : Log). Shows l (assumed (main_of op problem) claim.says) (step_of given)) log_is (r.above, r.clause, r.is_there, r.refuted)

    lines_shown : (claims : List DueClaim) (given : List Proof) → AreShownBy (setting_by op problem) log claims given →
        AllZip (λ claim number. Shows (log_of op parts) (assumed (main_of op problem) claim.says) number) claims (map step_of given)
    lines_shown [] [] h = tt
    lines_shown [] (p ∷ ps) h = absurd h
    lines_shown (c ∷ cs) [] h = absurd h
    lines_shown (c ∷ cs) (p ∷ ps) h = (line_shown c p h.0, lines_shown cs ps h.1)

    pub found_accepted : AreAccepted op parts
    found_accepted = record {
      sound = subst (λ (l : Log). IsSound l.main l.steps) log_is sound;
      witnessed = witnessed answer found.right;
      shown = lines_shown (claims_due (values_in op (profile_of problem)) answer) proofs found.shown;
    }
