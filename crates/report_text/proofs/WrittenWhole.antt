-- The whole report of parts.
use Rattle.std.proofs.Common.{◌≡◌, ℕ, ◌+◌, ◌≤◌, Bool, true, List, [], ◌∷◌, ◌++◌, length, map, Option, Some, None, refl, ap, sym, subst, ◌∙◌, arith}
use Rattle.std.specs.Prelude.{slice_get}
use Rattle.std.specs.List.{AllByRecursion, AllZip}
use Rattle.report_words.specs.Numbers.{HasNumeral}
use Rattle.clause_store.specs.declared.lit.Lit.{Lit}
use Rattle.clause_store.specs.Lits.{sorted_clause}
use Rattle.clause_store.specs.Refutes.{Refutes}
use Rattle.clause_store.proofs.Each.{each_append, each_of_index}
use Rattle.merge_model.specs.declared.answer.Answer.{Answer}
use Rattle.merge_model.specs.declared.answer.Answer.TheVariants.{Merged, Inconsistent, GaveUp}
use Rattle.merge_model.specs.declared.answer.Verdict.{Verdict}
use Rattle.merge_model.specs.declared.answer.Verdict.TheVariants.{Yes, No}
use Rattle.merge_model.specs.Answers.{profile_of}
use Rattle.merge_encoding.specs.Assumptions.{assumed}
use Rattle.merge_encoding.specs.MainDues.{MainDue}
use Rattle.merge_encoding.specs.Named.{main_named}
use Rattle.derivation_log.specs.declared.step.Step.{Step}
use Rattle.derivation_log.specs.Logs.{clauses_of, IsSound}
use Rattle.log_lines.specs.Spending.{Noted, is_spent}
use Rattle.problem_reading.specs.Drafts.{empty_draft}
use Rattle.profile_text.specs.ProblemText.{problem_lines}
use Rattle.report_lines.specs.declared.kinds.Due.{Due}
use Rattle.report_lines.specs.declared.kinds.Due.TheVariants as due
use Rattle.report_lines.specs.declared.kinds.Kind.TheVariants as kind
use Rattle.report_lines.specs.declared.kinds.Subject.{Subject}
use Rattle.report_lines.specs.declared.kinds.Subject.TheVariants.{TheConstraint, BaseOf}
use Rattle.report_lines.specs.Accepted.{Parts, AreAccepted, IsWitnessed, main_of, log_of, values_in}
use Rattle.report_lines.specs.ClaimsDue.{DueClaim, claims_due}
use Rattle.report_lines.specs.Items.{Item, ProblemLine, MainLine, EndLine}
use Rattle.report_lines.specs.Places.{Position, start, end_number}
use Rattle.report_lines.specs.Holding.{is_end}
use Rattle.report_lines.specs.Judged.{Run, EndsBy, IsAccepted}
use Rattle.report_lines.specs.Parts.{Asked, HasForm, HasParts, AreSpent, HaveLines, operator_of, claims_of, kind_of_answer, noted_step, head_items, answer_items, verdict_items, named_item, base_items, step_items, shown_claims, front_items, log_items, items_of}
use Rattle.report_text.specs.WrittenLaws.{WrittenLaw, WrittenSpentLaw}
use Rattle.report_text.proofs.WrittenAnswer.{RunsTo, answer_run, gave_up_run}
use Rattle.report_text.proofs.WrittenHead.{last_due, head_run, problem_run, problem_feed}
use Rattle.report_text.proofs.WrittenLog.{main_is, log_run}
use Rattle.report_text.proofs.WrittenPlaces.{Seen, place, begun, draft_of}
use Rattle.report_text.proofs.WrittenRun.{run_append, written_items}
use Rattle.report_text.proofs.WrittenText.{HasNoFeed, are_plain}

-- no line feed stands in a line

pub verdicts_feed : (q : ℕ) (verdicts : List Verdict) → AllByRecursion HasNoFeed (verdict_items q verdicts)
verdicts_feed q [] = tt
verdicts_feed q (Yes ∷ verdicts) = (tt, verdicts_feed (q + 1) verdicts)
verdicts_feed q (No shown ∷ verdicts) = (tt, (tt, (tt, (tt, verdicts_feed (q + 1) verdicts))))

pub named_feed : (s : Subject) (entry : Option (List Bool)) → HasNoFeed (named_item s entry)
named_feed s None = tt
named_feed s (Some w) = tt

pub bases_feed : (i : ℕ) (entries : List (Option (List Bool))) → AllByRecursion HasNoFeed (base_items i entries)
bases_feed i [] = tt
bases_feed i (entry ∷ entries) = (named_feed (BaseOf i) entry, bases_feed (i + 1) entries)

pub answer_feed : (answer : Answer) → AllByRecursion HasNoFeed (answer_items answer)
answer_feed (Merged best measure verdicts) = (tt, (tt, (tt, (tt, verdicts_feed 0 verdicts))))
answer_feed (Inconsistent constraint agents) = (named_feed TheConstraint constraint, bases_feed 0 agents)
answer_feed GaveUp = (tt, tt)

pub steps_feed : (n : ℕ) (steps : List Step) → AllByRecursion HasNoFeed (step_items n steps)
steps_feed n [] = tt
steps_feed n (s ∷ steps) = (tt, steps_feed (n + 1) steps)

shown_feed : (claims : List DueClaim) (ns : List ℕ) → AllByRecursion HasNoFeed (shown_claims claims ns)
shown_feed [] ns = tt
shown_feed (c ∷ cs) [] = tt
shown_feed (c ∷ cs) (n ∷ ns) = (tt, shown_feed cs ns)

module _ (asked : Asked) (r : Parts) where
  abbrev main_count : ℕ
  main_count = length (log_of (operator_of asked r) r).main

  abbrev proof_items : List Item
  proof_items = shown_claims (claims_of asked r) r.shown ++ EndLine (end_number (kind_of_answer r.answer)) ∷ []

  items_feed : AllByRecursion HasNoFeed (items_of asked r)
  items_feed =
      each_append HasNoFeed (front_items asked r) (log_items asked r)
      (each_append HasNoFeed (head_items asked) (map ProblemLine (problem_lines r.problem) ++ answer_items r.answer) (tt, (tt, (tt, (tt, tt))))
      (each_append HasNoFeed (map ProblemLine (problem_lines r.problem)) (answer_items r.answer) (problem_feed r.problem) (answer_feed r.answer))) (
        tt,
        each_append HasNoFeed (step_items main_count r.steps) proof_items (steps_feed main_count r.steps)
            (each_append HasNoFeed (shown_claims (claims_of asked r) r.shown) (EndLine (end_number (kind_of_answer r.answer)) ∷ []) (shown_feed (claims_of asked r) r.shown) (tt, tt)),
      )

  -- the log over main clauses

  abbrev log_over : MainDue → List Item
  log_over m = MainLine m.vars (length (map sorted_clause m.clauses)) ∷ (step_items (length (map sorted_clause m.clauses)) r.steps ++ proof_items)

  abbrev ShowsOver : MainDue → DueClaim → ℕ → Type 0
  ShowsOver m claim n = (length (map sorted_clause m.clauses) ≤ n) × (clause : List Lit) × (slice_get (map sorted_clause m.clauses ++ clauses_of r.steps) n ≡ Some clause) × Refutes clause (assumed m claim.says)

  abbrev IsLogOver : MainDue → Type 0
  IsLogOver m =
      HasNumeral m.vars × HasNumeral (length (map sorted_clause m.clauses)) × IsSound (map sorted_clause m.clauses) r.steps × HaveLines (length (map sorted_clause m.clauses)) r.steps × AllZip (ShowsOver m) (claims_of asked r) r.shown

  abbrev spent_over : MainDue → Bool
  spent_over m = is_spent asked.conflicts (map sorted_clause m.clauses) (map noted_step r.steps)

  abbrev main_here : MainDue
  main_here = main_named asked.distance asked.aggregator (profile_of r.problem) r.problem.asks

  same_main : main_here ≡ main_of (operator_of asked r) r.problem
  same_main = main_is asked.distance asked.aggregator (profile_of r.problem) r.problem.asks

  abbrev placed : Due → Seen → List DueClaim → List Noted → Position
  placed now seen claims notes = place asked (draft_of r.problem) now (kind_of_answer r.answer) seen claims notes

  abbrev notes : List Noted
  notes = map noted_step r.steps

  log_part : (seen : Seen) → ((now : Due) → is_end (kind_of_answer r.answer) (placed now seen [] notes) ≡ true) → AllByRecursion HasNumeral r.shown → IsLogOver (main_of (operator_of asked r) r.problem) →
      Run (placed due.Main seen (claims_of asked r) []) (log_items asked r) (placed due.Over seen [] notes)
  log_part seen ends numbers h =
      let k : IsLogOver main_here = subst IsLogOver (sym same_main) h in
      subst (λ (m : MainDue). Run (placed due.Main seen (claims_of asked r) []) (log_over m) (placed due.Over seen [] notes)) same_main
      (log_run asked r.problem (kind_of_answer r.answer) seen r.steps ends (claims_of asked r) r.shown k.0 k.1 k.2 k.3 k.4 numbers)

  -- the whole, where the answer runs up to the main line
  whole : (form : HasForm asked r) → IsSound (log_of (operator_of asked r) r).main r.steps → AllZip (ShowsOver (main_of (operator_of asked r) r.problem)) (claims_of asked r) r.shown →
      (answered : RunsTo asked r (begun asked (draft_of r.problem) (last_due r.problem.asks)) (answer_items r.answer) (kind_of_answer r.answer) (claims_of asked r)) →
      ((now : Due) → is_end (kind_of_answer r.answer) (placed now answered.0 [] notes) ≡ true) → EndsBy (items_of asked r) (kind_of_answer r.answer)
  whole form sound shown answered ends =
      let first : Position = begun asked empty_draft due.Atoms in
      let second : Position = begun asked (draft_of r.problem) (last_due r.problem.asks) in
      let third : Position = placed due.Main answered.0 (claims_of asked r) [] in
      let last : Position = placed due.Over answered.0 [] notes in
      let problem : List Item = map ProblemLine (problem_lines r.problem) in
      let log : Run third (log_items asked r) last = log_part answered.0 ends (each_of_index HasNumeral r.shown form.numbers) (form.vars, form.clauses, sound, form.lines, shown) in
      let front : Run start (front_items asked r) third =
      run_append start first third (head_items asked) (problem ++ answer_items r.answer) (head_run asked form.some_conflict form.few_conflicts)
      (run_append first second third problem (answer_items r.answer) (problem_run asked r.problem) answered.1) in
      record { place = last; run = run_append start third last (front_items asked r) (log_items asked r) front log; over = refl; answer = refl }

  accepted_text : (text : List ℕ) → HasParts text asked r → EndsBy (items_of asked r) (kind_of_answer r.answer) → IsAccepted text (kind_of_answer r.answer)
  accepted_text text h e =
      subst (λ (t : List ℕ). IsAccepted t (kind_of_answer r.answer)) (sym h.spelled) (written_items (items_of asked r) (kind_of_answer r.answer) (are_plain (items_of asked r) items_feed) e)

  ends_by : (answer : Answer) (p : Position) → IsWitnessed (operator_of asked r) (profile_of r.problem) r.problem.asks answer → is_end (kind_of_answer answer) p ≡ true
  ends_by (Merged best measure verdicts) p is = refl
  ends_by (Inconsistent constraint agents) p is = refl
  ends_by GaveUp p is = absurd is

  pub accepted_written : (text : List ℕ) → HasParts text asked r → AreAccepted (operator_of asked r) r → IsAccepted text (kind_of_answer r.answer)
  accepted_written text h a =
      let answered = answer_run asked r r.answer a.witnessed h.form.answer in
      accepted_text text h (whole h.form a.sound a.shown answered (λ now. ends_by r.answer (placed now answered.0 [] notes) a.witnessed))

  -- a log that is spent

  none_shown : (m : MainDue) (ns : List ℕ) → length ns ≡ 0 → AllZip (ShowsOver m) [] ns
  none_shown m [] e = tt
  none_shown m (n ∷ ns) e = absurd (omega arith)

  abbrev claims_by : Answer → List DueClaim
  claims_by answer = claims_due (values_in (operator_of asked r) (profile_of r.problem)) answer

  pub spent_written : (text : List ℕ) → HasParts text asked r → AreSpent asked r → IsAccepted text kind.Spent
  spent_written text h a =
      let e : GaveUp ≡ r.answer = sym a.answer in
      let main : MainDue = main_of (operator_of asked r) r.problem in
      let answered = subst (λ (x : Answer). RunsTo asked r (begun asked (draft_of r.problem) (last_due r.problem.asks)) (answer_items x) (kind_of_answer x) (claims_by x)) e (gave_up_run asked r) in
      let shown = subst (λ (x : Answer). length r.shown ≡ length (claims_by x) → AllZip (ShowsOver main) (claims_by x) r.shown) e (λ none. none_shown main r.shown none) h.form.proofs in
      let spent : spent_over main_here ≡ true = ap spent_over same_main ∙ a.spent in
      let ends = subst (λ (x : Answer). (now : Due) → is_end (kind_of_answer x) (place asked (draft_of r.problem) now (kind_of_answer x) answered.0 [] notes) ≡ true) e (λ now. spent) in
      subst (λ (x : Answer). IsAccepted text (kind_of_answer x)) a.answer (accepted_text text h (whole h.form a.sound shown answered ends))

pub accepted_law : WrittenLaw
accepted_law text asked r h a = accepted_written asked r text h a

pub spent_law : WrittenSpentLaw
spent_law text asked r h a = spent_written asked r text h a
