-- The report of what a search comes to.
use Rattle.std.proofs.Common.{◌≡◌, ℕ, ◌<◌, ◌≤◌, ◌^◌, true, List, [], ◌∷◌, length, map, refl, sym, ap, ◌∙◌, subst, All}
use Rattle.std.specs.List.{AllZip}
use Rattle.std.proofs.lemmas.List.{length-map}
use Rattle.std.proofs.lemmas.List.Elements.{All-nil, All-cons}
use Rattle.std.proofs.lemmas.Slice.Zip.{AllZip-long}
use Rattle.report_words.specs.Numbers.{HasNumeral}
use Rattle.derivation_log.specs.Logs.{Log, IsSound}
use Rattle.solver_laws.specs.Ready.{IsLog}
use Rattle.log_lines.specs.Spending.{is_spent}
use Rattle.merge_model.specs.declared.agent.Agent.{Agent}
use Rattle.merge_model.specs.declared.answer.Answer.{Answer}
use Rattle.merge_model.specs.declared.answer.Answer.TheVariants.{Merged, Inconsistent, GaveUp}
use Rattle.merge_model.specs.declared.problem.Problem.{Problem}
use Rattle.merge_model.specs.Answers.{profile_of, dist_named, rank_named, IsRight, IsNamed}
use Rattle.distance_search.specs.Setting.{Setting, IsOver}
use Rattle.distance_search.specs.Laws.{Laws}
use Rattle.distance_search.proofs.Exact.{shown_within}
use Rattle.report_lines.specs.declared.report.Proof.{Proof}
use Rattle.report_lines.specs.declared.report.Report.{Report}
use Rattle.report_lines.specs.ClaimsDue.{DueClaim, claims_due}
use Rattle.report_lines.specs.Accepted.{Operator, Parts, main_of, values_in}
use Rattle.report_lines.specs.Operators.{operator_named}
use Rattle.report_lines.specs.Parts.{Asked, claims_of, noted_step, HaveLines, HasAnswerForm, HasForm}
use Rattle.report_lines.specs.Places.{conflict_limit}
use Rattle.report_lines.specs.Reports.{step_of, IsProofOf, asked_in, parts_in, IsReport}
use Rattle.merge_reports.specs.Found.{IsShownBy, AreShownBy, IsSmall}
use Rattle.merge_reports.specs.Outcomes.{setting_by, IsEnd, IsOutcome}
use Rattle.merge_reports.specs.BorneOut.{IsBorneOutBy, IsBorneOut, IsTruthfulBy, IsTruthful}
use Rattle.merge_reports.proofs.Accepting.{found_accepted}
use Rattle.merge_reports.proofs.Shapes.{sized_named, shown_form, verdict_forms, entry_form, entry_forms, measure_numerals, have_lines, number_small, main_small, vars_small}
use Rattle.merge_reports.proofs.Spent.{log_spent}

only_proofs : (s : Setting) (log : Log) (claims : List DueClaim) (proofs : List Proof) → AreShownBy s log claims proofs → AllZip IsProofOf claims proofs
only_proofs s log [] [] h = tt
only_proofs s log [] (p ∷ ps) h = absurd h
only_proofs s log (c ∷ cs) [] h = absurd h
only_proofs s log (c ∷ cs) (p ∷ ps) h = (h.0.0, only_proofs s log cs ps h.1)

steps_small : (s : Setting) (log : Log) → IsSmall log → (claims : List DueClaim) (proofs : List Proof) → AreShownBy s log claims proofs → All HasNumeral (map step_of proofs)
steps_small s log small [] [] h = All-nil HasNumeral
steps_small s log small [] (p ∷ ps) h = absurd h
steps_small s log small (c ∷ cs) [] h = absurd h
steps_small s log small (c ∷ cs) (p ∷ ps) h =
    let r = h.0.1 in
    All-cons HasNumeral (step_of p) (map step_of ps) (number_small log small (step_of p) r.clause r.is_there) (steps_small s log small cs ps h.1)

abbrev op_of : Asked → Problem → Operator
op_of asked problem = operator_named asked.distance asked.aggregator problem.atoms

abbrev setting_in : Asked → Problem → Setting
setting_in asked problem = setting_by (op_of asked problem) problem

module _ (asked : Asked) (problem : Problem) (log : Log) (laws : Laws (setting_in asked problem)) (over : IsOver (setting_in asked problem) log) (follows : IsLog log) (small : IsSmall log) where
  abbrev parts_by : Answer → List Proof → Parts
  parts_by answer proofs = record { problem = problem; answer = answer; steps = log.steps; shown = map step_of proofs }

  -- the claims that are due have their proofs, also where there are none
  end_shown : (answer : Answer) (proofs : List Proof) → IsEnd (setting_in asked problem) log asked.conflicts answer proofs → AreShownBy (setting_in asked problem) log (claims_due (values_in (op_of asked problem) (profile_of problem)) answer) proofs
  end_shown (Merged best measure verdicts) proofs h = h.shown
  end_shown (Inconsistent constraint agents) proofs h = h.shown
  end_shown GaveUp proofs h = subst (λ ps. AreShownBy (setting_in asked problem) log [] ps) (sym h.0) tt

  answer_form : (answer : Answer) (proofs : List Proof) → IsEnd (setting_in asked problem) log asked.conflicts answer proofs → HasAnswerForm asked (parts_by answer proofs) answer
  answer_form (Merged best measure verdicts) proofs h =
      let r = parts_by (Merged best measure verdicts) proofs in
      let right = h.right in
      let closest = right.closest in
      let model = closest.model in
      let shape = shown_form (op_of asked problem) r laws best model.size right.shown in
      let judged = verdict_forms (op_of asked problem) r laws problem.asks verdicts right.judged in
      let within = shown_within (setting_in asked problem) laws best model.size right.shown in
      let top = let s = setting_in asked problem in s.top in (
        shape,
        ap length right.measured,
        subst (All HasNumeral) (sym right.measured) (measure_numerals asked.aggregator problem top best.vector laws.small shape.entries within),
        judged.0,
        judged.1,
      )
  answer_form (Inconsistent constraint agents) proofs h =
      let r = parts_by (Inconsistent constraint agents) proofs in
      let right = h.right in
      let entries = entry_forms r (map (λ (agent : Agent). agent.base) problem.agents) agents right.bases_named in (
        entry_form r problem.constraint constraint right.constraint_named,
        entries.0 ∙ length-map problem.agents (λ (agent : Agent). agent.base),
        entries.1,
      )
  answer_form GaveUp proofs h = tt

  form_by : (answer : Answer) (proofs : List Proof) → IsEnd (setting_in asked problem) log asked.conflicts answer proofs → 1 ≤ asked.conflicts → asked.conflicts ≤ conflict_limit → HasForm asked (parts_by answer proofs)
  form_by answer proofs h some few =
      let claims = claims_due (values_in (op_of asked problem) (profile_of problem)) answer in
      let shown = end_shown answer proofs h in
      let main = ap length over.clauses in
      record {
        some_conflict = some;
        few_conflicts = few;
        answer = answer_form answer proofs h;
        vars = subst HasNumeral over.vars (vars_small log small);
        lines = subst (λ (n : ℕ). HaveLines n log.steps) main (have_lines log small follows.sound);
        clauses = subst HasNumeral main (main_small log small);
        proofs = length-map proofs step_of ∙ AllZip-long (IsShownBy (setting_in asked problem) log) claims proofs shown;
        numbers = steps_small (setting_in asked problem) log small claims proofs shown;
      }

  borne_by : (answer : Answer) (proofs : List Proof) → IsEnd (setting_in asked problem) log asked.conflicts answer proofs → IsBorneOutBy asked (parts_by answer proofs) answer
  borne_by (Merged best measure verdicts) proofs h = found_accepted (op_of asked problem) problem laws (sized_named asked.aggregator) log over (Merged best measure verdicts) proofs h follows.sound
  borne_by (Inconsistent constraint agents) proofs h = found_accepted (op_of asked problem) problem laws (sized_named asked.aggregator) log over (Inconsistent constraint agents) proofs h follows.sound
  borne_by GaveUp proofs h =
      let spent = h.1 in
      let main = main_of (op_of asked problem) problem in (
        record {
          answer = refl;
          sound = subst (λ cs. IsSound cs log.steps) over.clauses follows.sound;
          spent = subst (λ cs. is_spent asked.conflicts cs (map noted_step log.steps) ≡ true) over.clauses (log_spent log asked.conflicts follows.new spent);
        },
        subst (λ (n : ℕ). asked.conflicts < 3 ^ n) over.vars spent.few,
      )

truthful_by : (r : Report) (answer : Answer) (proofs : List Proof) (log : Log) → r.answer ≡ answer → IsEnd (setting_in (asked_in r) r.problem) log r.conflicts answer proofs → IsTruthfulBy r answer
truthful_by r (Merged best measure verdicts) proofs log e h = subst (λ a. IsRight (dist_named r.distance r.problem.atoms) (rank_named r.aggregator) r.problem a) (sym e) h.right
truthful_by r (Inconsistent constraint agents) proofs log e h = subst (λ a. IsNamed r.problem a) (sym e) h.right
truthful_by r GaveUp proofs log e h = tt

abbrev pub IsEndOf : Report → Type 0
IsEndOf r = IsOutcome (operator_named r.distance r.aggregator r.problem.atoms) r.conflicts r.problem r.derivations r.answer r.proofs

pub report_whole : (r : Report) → IsEndOf r → IsReport r
report_whole r h =
    let over = h.over in
    record {
      main = over.clauses;
      vars = over.vars;
      proofs = only_proofs (setting_in (asked_in r) r.problem) r.derivations (claims_of (asked_in r) (parts_in r)) r.proofs (end_shown (asked_in r) r.problem r.derivations h.laws h.over h.follows h.small r.answer r.proofs h.end);
    }

pub report_form : (r : Report) → IsEndOf r → 1 ≤ r.conflicts → r.conflicts ≤ conflict_limit → HasForm (asked_in r) (parts_in r)
report_form r h some few = form_by (asked_in r) r.problem r.derivations h.laws h.over h.follows h.small r.answer r.proofs h.end some few

pub report_borne : (r : Report) → IsEndOf r → IsBorneOut r
report_borne r h = borne_by (asked_in r) r.problem r.derivations h.laws h.over h.follows h.small r.answer r.proofs h.end

pub report_true : (r : Report) → IsEndOf r → IsTruthful r
report_true r h = truthful_by r r.answer r.proofs r.derivations refl h.end
