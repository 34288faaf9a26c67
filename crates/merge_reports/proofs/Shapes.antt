-- The form of the parts of a report: how many entries there are, and that the numbers have few digits.
use Rattle.std.proofs.Common.{◌≡◌, ℕ, suc, ◌+◌, ◌-◌, ◌<◌, ◌≤◌, ◌^◌, Bool, List, [], ◌∷◌, length, map, refl, sym, ap, ◌∙◌, subst, arith, All, Option, None, Some, length-append}
use Rattle.std.specs.Prelude.{slice_get, sum}
use Rattle.std.specs.List.{AllZip}
use Rattle.std.proofs.lemmas.List.{length-map}
use Rattle.std.proofs.lemmas.List.Elements.{All-nil, All-cons, All-head, All-tail}
use Rattle.std.proofs.lemmas.Option.{slice_get_within}
use Rattle.std.proofs.lemmas.Slice.Zip.{AllZip-long}
use Rattle.formulas.specs.declared.formula.Formula.{Formula}
use Rattle.report_words.specs.Numbers.{HasNumeral}
use Rattle.ranks.specs.Limits.{distance_limit, entry_limit}
use Rattle.ranks.specs.Ranks.{sorted_down, greatest}
use Rattle.ranks.proofs.Counts.{AtMost, at_most}
use Rattle.ranks.proofs.Laws.{greatest_le}
use Rattle.ranks.proofs.Orders.{most_down, length_down}
use Rattle.ranks.proofs.SumLaws.{small_sum}
use Rattle.clause_store.specs.declared.lit.Lit.{Lit}
use Rattle.derivation_log.specs.declared.step.Step.{Step}
use Rattle.derivation_log.specs.Logs.{Log, known_of, clauses_of, IsSound}
use Rattle.derivation_log.specs.StepLines.{HasLine}
use Rattle.derivation_log.proofs.Lines.{step_has_line}
use Rattle.merge_model.specs.declared.agent.Agent.{Agent}
use Rattle.merge_model.specs.declared.answer.Shown.{Shown}
use Rattle.merge_model.specs.declared.answer.Verdict.{Verdict}
use Rattle.merge_model.specs.declared.answer.Verdict.TheVariants.{Yes, No}
use Rattle.merge_model.specs.declared.operator.AggregatorName.{AggregatorName}
use Rattle.merge_model.specs.declared.operator.AggregatorName.TheVariants.{Sum, Max, Leximax}
use Rattle.merge_model.specs.declared.problem.Problem.{Problem}
use Rattle.merge_model.specs.Answers.{profile_of, rank_named, IsShown, IsVerdict, IsNamedEntry}
use Rattle.merge_model.specs.Merging.{IsModel, away, repeated}
use Rattle.merge_model.proofs.Fulls.{repeated_small, repeated_length}
use Rattle.distance_search.specs.Laws.{Laws}
use Rattle.distance_search.proofs.Exact.{shown_within}
use Rattle.report_lines.specs.Accepted.{Operator, Parts}
use Rattle.report_lines.specs.Parts.{HasShownForm, HasVerdictForm, HasEntryForm, HaveLines}
use Rattle.merge_reports.specs.Found.{IsSmall}
use Rattle.merge_reports.specs.Outcomes.{setting_by}
use Rattle.merge_reports.proofs.Accepting.{only_models, IsSized}

-- ---- ranks

pub sized_named : (name : AggregatorName) → IsSized (rank_named name)
sized_named Sum u w e = refl
sized_named Max u w e = refl
sized_named Leximax u w e = length_down u ∙ e ∙ sym (length_down w)

numerals : (m : ℕ) (u : List ℕ) → m ≤ distance_limit → AtMost m u → All HasNumeral u
numerals m [] few h = All-nil HasNumeral
numerals m (x ∷ u) few h = All-cons HasNumeral x u (let y : x ≤ m = h.0 in omega arith) (numerals m u few h.1)

one_numeral : (x : ℕ) → x < 2 ^ 32 → All HasNumeral (x ∷ [])
one_numeral x less = All-cons HasNumeral x [] (omega arith) (All-nil HasNumeral)

rank_numerals : (name : AggregatorName) (u : List ℕ) → length u ≤ entry_limit → All (λ k. k ≤ distance_limit) u → All HasNumeral (rank_named name u)
rank_numerals Sum u few small = one_numeral (sum u) (small_sum u few small)
rank_numerals Max u few small =
    let g = greatest_le distance_limit u (at_most distance_limit u small) in
    one_numeral (greatest u) (omega arith)
rank_numerals Leximax u few small = numerals distance_limit (sorted_down u) (omega arith) (most_down distance_limit u (at_most distance_limit u small))

small_up : (m n : ℕ) (u : List ℕ) → m ≤ n → All (λ k. k ≤ m) u → All (λ k. k ≤ n) u
small_up m n [] le h = All-nil (λ k. k ≤ n)
small_up m n (x ∷ u) le h = All-cons (λ k. k ≤ n) x u (let y : x ≤ m = All-head (λ k. k ≤ m) x u h in omega arith) (small_up m n u le (All-tail (λ k. k ≤ m) x u h))

pub measure_numerals : (name : AggregatorName) (problem : Problem) (top : ℕ) (vector : List ℕ) → top ≤ distance_limit → length vector ≡ length problem.agents → All (λ k. k ≤ top) vector → All HasNumeral (rank_named name (repeated (profile_of problem).times vector))
measure_numerals name problem top vector le long small =
    let times = map (λ (agent : Agent). agent.times) problem.agents in
    let limits = problem.limits in
    rank_numerals name (repeated times vector) (omega (arith, repeated_length problem.agents vector long, limits.few_times))
    (repeated_small distance_limit times vector (small_up top distance_limit vector le small))

-- ---- valuations and entries

model_sizes : (n : ℕ) (fs : List Formula) (ws : List (List Bool)) → AllZip (IsModel n) fs ws → All (λ w. length w ≡ n) ws
model_sizes n [] [] h = All-nil (λ w. length w ≡ n)
model_sizes n [] (w ∷ ws) h = absurd h
model_sizes n (f ∷ fs) [] h = absurd h
model_sizes n (f ∷ fs) (w ∷ ws) h = All-cons (λ w. length w ≡ n) w ws (let m = h.0 in m.size) (model_sizes n fs ws h.1)

pub shown_form : (op : Operator) (r : Parts) → Laws (setting_by op r.problem) → (shown : Shown) → length shown.model ≡ length r.problem.atoms → IsShown op.dist (profile_of r.problem) shown → HasShownForm r shown
shown_form op r laws shown size h =
    let p = profile_of r.problem in
    let models = only_models op.dist p.atoms shown.model p.bases shown.nearest h.nearest in
    let within = shown_within (setting_by op r.problem) laws shown size h in
    let agents : length p.bases ≡ length r.problem.agents = length-map r.problem.agents (λ (agent : Agent). agent.base) in
    record {
      model = size;
      entries = ap length h.vector ∙ length-map p.bases (away op.dist shown.model) ∙ agents;
      numbers = numerals distance_limit shown.vector (omega arith) (at_most distance_limit shown.vector (small_up (setting_by op r.problem).top distance_limit shown.vector laws.small within));
      nearest = AllZip-long (IsModel p.atoms) p.bases shown.nearest models ∙ agents;
      over = model_sizes p.atoms p.bases shown.nearest models;
    }

verdict_form : (op : Operator) (r : Parts) → Laws (setting_by op r.problem) → (ask : Formula) (verdict : Verdict) → IsVerdict op.dist op.rank (profile_of r.problem) ask verdict → HasVerdictForm r verdict
verdict_form op r laws ask Yes h = tt
verdict_form op r laws ask (No shown) h = let closest = h.0 in let model = closest.model in shown_form op r laws shown model.size h.1

pub verdict_forms : (op : Operator) (r : Parts) → Laws (setting_by op r.problem) → (asks : List Formula) (verdicts : List Verdict) → AllZip (IsVerdict op.dist op.rank (profile_of r.problem)) asks verdicts → (length verdicts ≡ length asks) × All (HasVerdictForm r) verdicts
verdict_forms op r laws [] [] h = (refl, All-nil (HasVerdictForm r))
verdict_forms op r laws [] (v ∷ vs) h = absurd h
verdict_forms op r laws (f ∷ fs) [] h = absurd h
verdict_forms op r laws (f ∷ fs) (v ∷ vs) h =
    let rest = verdict_forms op r laws fs vs h.1 in
    (ap suc rest.0, All-cons (HasVerdictForm r) v vs (verdict_form op r laws f v h.0) rest.1)

pub entry_form : (r : Parts) (f : Formula) (entry : Option (List Bool)) → IsNamedEntry (length r.problem.atoms) f entry → HasEntryForm r entry
entry_form r f None h = tt
entry_form r f (Some v) h = h.size

pub entry_forms : (r : Parts) (fs : List Formula) (entries : List (Option (List Bool))) → AllZip (IsNamedEntry (length r.problem.atoms)) fs entries → (length entries ≡ length fs) × All (HasEntryForm r) entries
entry_forms r [] [] h = (refl, All-nil (HasEntryForm r))
entry_forms r [] (e ∷ es) h = absurd h
entry_forms r (f ∷ fs) [] h = absurd h
entry_forms r (f ∷ fs) (e ∷ es) h =
    let rest = entry_forms r fs es h.1 in
    (ap suc rest.0, All-cons (HasEntryForm r) e es (entry_form r f e h.0) rest.1)

-- ---- the log

all_lines : (n : ℕ) (steps : List Step) → ((k : ℕ) (s : Step) → slice_get steps k ≡ Some s → HasLine (n + k) s) → HaveLines n steps
all_lines n [] each = tt
all_lines n (s ∷ steps) each =
    let here : n + 0 ≡ n = omega arith in (
      subst (λ (m : ℕ). HasLine m s) here (each 0 s refl),
      all_lines (n + 1) steps (λ k t at. let there : n + suc k ≡ n + 1 + k = omega arith in subst (λ (m : ℕ). HasLine m t) there (each (suc k) t at)),
    )

pub have_lines : (log : Log) → IsSmall log → IsSound log.main log.steps → HaveLines (length log.main) log.steps
have_lines log small sound =
    all_lines (length log.main) log.steps (λ k s at.
    let e : length log.main + k - length log.main ≡ k = omega arith in
    step_has_line log (length log.main + k) s small.vars small.count small.in_range sound (omega arith) (ap (slice_get log.steps) e ∙ at))

pub number_small : (log : Log) → IsSmall log → (number : ℕ) (clause : List Lit) → slice_get (known_of log) number ≡ Some clause → HasNumeral number
number_small log small number clause at = omega (arith, slice_get_within (known_of log) number clause at, small.count)

pub main_small : (log : Log) → IsSmall log → HasNumeral (length log.main)
main_small log small = omega (arith, length-append log.main (clauses_of log.steps), small.count)

pub vars_small : (log : Log) → IsSmall log → HasNumeral log.vars
vars_small log small = omega (arith, small.vars)
