-- The log, the proofs and the end.
use Rattle.std.proofs.Common.{◌≡◌, ℕ, ◌+◌, ◌<◌, ◌≤◌, ◌==◌, true, ◌&&◌, List, [], ◌∷◌, ◌++◌, length, map, Some, refl, ap, sym, subst, ◌∙◌, arith, append_assoc, append-nil, inl, inr}
use Rattle.std.specs.Prelude.{nat_lt, nat_le, slice_get}
use Rattle.std.specs.List.{AllByRecursion, AllZip}
use Rattle.std.proofs.lemmas.Option.{slice_get_within}
use Rattle.std.proofs.lemmas.Bool.Decides.{nat_tests}
use Rattle.std.proofs.lemmas.List.{length-append, map-append}
use Rattle.report_words.specs.Numbers.{HasNumeral}
use Rattle.formulas.specs.declared.formula.Formula.{Formula}
use Rattle.clause_store.specs.declared.lit.Lit.{Lit}
use Rattle.clause_store.specs.Lits.{negated, has, sorted_clause, Ascends}
use Rattle.clause_store.specs.Clauses.{clause_at}
use Rattle.clause_store.specs.Refutes.{Refutes}
use Rattle.clause_store.proofs.Each.{each_push}
use Rattle.clause_store.proofs.Lits.{Ascends-sorted_clause}
use Rattle.clause_store.proofs.Numbered.{clause_at-get}
use Rattle.clause_store.proofs.Truths.{and_both}
use Rattle.merge_model.specs.declared.operator.AggregatorName.{AggregatorName}
use Rattle.merge_model.specs.declared.operator.DistanceName.{DistanceName}
use Rattle.merge_model.specs.declared.problem.Problem.{Problem}
use Rattle.merge_model.specs.Answers.{profile_of}
use Rattle.merge_model.specs.Merging.{Profile}
use Rattle.merge_encoding.specs.Assumptions.{assumed}
use Rattle.merge_encoding.specs.MainDues.{MainDue, main_due}
use Rattle.merge_encoding.specs.Named.{counter_named, levels_named, main_named}
use Rattle.derivation_log.specs.declared.step.Step.{Step}
use Rattle.derivation_log.specs.Logs.{clauses_of, IsSound, is_learned}
use Rattle.derivation_log.specs.StepLines.{step_line}
use Rattle.log_lines.specs.Spending.{Noted}
use Rattle.log_lines.specs.Taking.{is_step}
use Rattle.log_lines.proofs.Narrow.{narrow_is}
use Rattle.report_lines.specs.declared.kinds.Due.{Due}
use Rattle.report_lines.specs.declared.kinds.Due.TheVariants as due
use Rattle.report_lines.specs.declared.kinds.Kind.{Kind}
use Rattle.report_lines.specs.ClaimsDue.{DueClaim}
use Rattle.report_lines.specs.Items.{Item, MainLine, LogLine, EndLine}
use Rattle.report_lines.specs.Places.{Position, end_number}
use Rattle.report_lines.specs.Holding.{refutes, is_end}
use Rattle.report_lines.specs.Following.{after}
use Rattle.report_lines.specs.Judged.{Run}
use Rattle.report_lines.specs.Parts.{Asked, noted_step, step_items, shown_claims, HaveLines}
use Rattle.report_text.proofs.WrittenPlaces.{Seen, place, draft_of}
use Rattle.report_text.proofs.WrittenRange.{AreUpTo, main_up, stored_up}
use Rattle.report_text.proofs.WrittenSteps.{follows_up, follows_ascend, step_right}
use Rattle.derivation_log.proofs.Narrow.{line_is_step}

-- the main clauses by their names
pub main_is : (d : DistanceName) (a : AggregatorName) (p : Profile) (asks : List Formula) → main_named d a p asks ≡ main_due (counter_named d) (levels_named a) p asks
unfolding main_named
main_is d a p asks = refl

main_range : (d : DistanceName) (a : AggregatorName) (p : Profile) (asks : List Formula) → AreUpTo (main_named d a p asks).vars (map sorted_clause (main_named d a p asks).clauses)
main_range d a p asks =
    let main : MainDue = main_due (counter_named d) (levels_named a) p asks in
    subst (λ (m : MainDue). AreUpTo m.vars (map sorted_clause m.clauses)) (sym (main_is d a p asks)) (stored_up main.vars main.clauses (main_up d a p asks))

all_sorted : (cs : List (List Lit)) → AllByRecursion Ascends (map sorted_clause cs)
all_sorted [] = tt
all_sorted (c ∷ cs) = (Ascends-sorted_clause c, all_sorted cs)

same_true : (n : ℕ) → (n == n) ≡ true
same_true n = grind (arith, nat_tests)

all_refuted : (clause assumptions : List Lit) → Refutes clause assumptions → refutes clause assumptions ≡ true
all_refuted [] assumptions h = refl
all_refuted (l ∷ ls) assumptions h = and_both (has (negated l) assumptions) (refutes ls assumptions) h.0 (all_refuted ls assumptions h.1)

proves_is : (count n : ℕ) (known : List (List Lit)) (clause assumptions : List Lit) → count ≤ n → slice_get known n ≡ Some clause → Refutes clause assumptions →
    ((nat_le count n && nat_lt n (length known)) && refutes (clause_at known n) assumptions) ≡ true
proves_is count n known clause assumptions le e h =
    let lt : n < length known = slice_get_within known n clause e in
    and_both (nat_le count n && nat_lt n (length known)) (refutes (clause_at known n) assumptions)
    (and_both (nat_le count n) (nat_lt n (length known)) (grind (arith, nat_tests)) (grind (arith, nat_tests)))
    (ap (λ (c : List Lit). refutes c assumptions) (clause_at-get known n clause e) ∙ all_refuted clause assumptions h)

noted_clauses : (steps : List Step) → map (λ (s : Noted). s.clause) (map noted_step steps) ≡ clauses_of steps
noted_clauses [] = refl
noted_clauses (s ∷ steps) = ap (λ (cs : List (List Lit)). s.clause ∷ cs) (noted_clauses steps)

module _ (asked : Asked) (problem : Problem) (answer : Kind) (seen : Seen) where
  abbrev pub main_here : MainDue
  main_here = main_named asked.distance asked.aggregator (profile_of problem) problem.asks

  abbrev pub stored : List (List Lit)
  stored = map sorted_clause main_here.clauses

  abbrev pub logged : Due → List DueClaim → List Noted → Position
  logged now claims notes = place asked (draft_of problem) now answer seen claims notes

  notes_more : (known : List (List Lit)) (notes : List Noted) (s : Step) → known ≡ stored ++ map (λ (n : Noted). n.clause) notes → known ++ s.clause ∷ [] ≡ stored ++ map (λ (n : Noted). n.clause) (notes ++ noted_step s ∷ [])
  notes_more known notes s e =
      ap (λ (ks : List (List Lit)). ks ++ s.clause ∷ []) e
      ∙ (append_assoc stored (map (λ (n : Noted). n.clause) notes) (s.clause ∷ [])
      ∙ ap (λ (ks : List (List Lit)). stored ++ ks) (sym (map-append (λ (n : Noted). n.clause) notes (noted_step s ∷ []))))

  steps_run : (claims : List DueClaim) (steps : List Step) (notes : List Noted) (known : List (List Lit)) (n : ℕ) (items : List Item) (q : Position) → known ≡ stored ++ map (λ (s : Noted). s.clause) notes → n ≡ length known →
      AllByRecursion Ascends known → AreUpTo main_here.vars known → IsSound known steps → HaveLines n steps → Run (logged due.Log claims (notes ++ map noted_step steps)) items q →
      Run (logged due.Log claims notes) (step_items n steps ++ items) q
  steps_run claims [] notes known n items q e count up in_range sound lines run = subst (λ (z : List Noted). Run (logged due.Log claims z) items q) (append-nil notes) run
  steps_run claims (s ∷ steps) notes known n items q e count up in_range sound lines run =
      let held : is_step main_here.vars (stored ++ map (λ (z : Noted). z.clause) notes) (step_line n s) ≡ true =
      subst (λ (ks : List (List Lit)). is_step main_here.vars ks (step_line n s) ≡ true) e (step_right main_here.vars known n s count lines.0 sound.0 up in_range) in
      let same : logged due.Log claims (notes ++ noted_step s ∷ []) ≡ after (logged due.Log claims notes) (LogLine (step_line n s)) =
      ap (λ (t : Step). logged due.Log claims (notes ++ record { learned = is_learned s.kind; clause = t.clause } ∷ [])) (sym (narrow_is n s)) in
      let longer : n + 1 ≡ length (known ++ s.clause ∷ []) = omega (arith, count, length-append known (s.clause ∷ [])) in (
        logged due.Log claims (notes ++ noted_step s ∷ []),
        inl (step_line n s, refl, line_is_step n s lines.0),
        (held, same),
        steps_run claims steps (notes ++ noted_step s ∷ []) (known ++ s.clause ∷ []) (n + 1) items q (notes_more known notes s e) longer
            (each_push Ascends known s.clause up (follows_ascend known s up sound.0))
            (each_push (λ (c : List Lit). AllByRecursion (λ (l : Lit). l.var ≤ main_here.vars) c) known s.clause in_range (follows_up main_here.vars known s in_range sound.0))
            sound.1 lines.1
            (subst (λ (z : List Noted). Run (logged due.Log claims z) items q) (sym (append_assoc notes (noted_step s ∷ []) (map noted_step steps))) run),
      )

  -- the number is that of a step that shows the claim
  abbrev pub IsShownBy : List Step → DueClaim → ℕ → Type 0
  IsShownBy steps claim n = (length stored ≤ n) × (clause : List Lit) × (slice_get (stored ++ clauses_of steps) n ≡ Some clause) × Refutes clause (assumed main_here claim.says)

  module _ (steps : List Step) (ends : (now : Due) → is_end answer (logged now [] (map noted_step steps)) ≡ true) where
    abbrev notes : List Noted
    notes = map noted_step steps

    known_is : stored ++ clauses_of steps ≡ stored ++ map (λ (s : Noted). s.clause) notes
    known_is = ap (λ (cs : List (List Lit)). stored ++ cs) (sym (noted_clauses steps))

    proved : (claim : DueClaim) (n : ℕ) → IsShownBy steps claim n →
        ((nat_le (length stored) n && nat_lt n (length (stored ++ map (λ (s : Noted). s.clause) notes))) && refutes (clause_at (stored ++ map (λ (s : Noted). s.clause) notes) n) (assumed main_here claim.says)) ≡ true
    proved claim n h =
        proves_is (length stored) n (stored ++ map (λ (s : Noted). s.clause) notes) h.1 (assumed main_here claim.says) h.0 (subst (λ (ks : List (List Lit)). slice_get ks n ≡ Some h.1) known_is h.2) h.3

    proofs_run : (claims : List DueClaim) (ns : List ℕ) → AllZip (IsShownBy steps) claims ns → AllByRecursion HasNumeral ns →
        Run (logged due.Proofs claims notes) (shown_claims claims ns ++ EndLine (end_number answer) ∷ []) (logged due.Over [] notes)
    proofs_run [] [] h k = (logged due.Over [] notes, refl, (ends due.Proofs, refl), refl)
    proofs_run [] (n ∷ ns) h k = absurd h
    proofs_run (c ∷ cs) [] h k = absurd h
    proofs_run (c ∷ cs) (n ∷ ns) h k = (logged due.Proofs cs notes, (n, refl, k.0), (proved c n h.0, refl), proofs_run cs ns h.1 k.1)

    after_log : (claims : List DueClaim) (ns : List ℕ) → AllZip (IsShownBy steps) claims ns → AllByRecursion HasNumeral ns →
        Run (logged due.Log claims notes) (shown_claims claims ns ++ EndLine (end_number answer) ∷ []) (logged due.Over [] notes)
    after_log [] [] h k = (logged due.Over [] notes, inr refl, (ends due.Log, refl), refl)
    after_log [] (n ∷ ns) h k = absurd h
    after_log (c ∷ cs) [] h k = absurd h
    after_log (c ∷ cs) (n ∷ ns) h k = (logged due.Proofs cs notes, inr (n, refl, k.0), (proved c n h.0, refl), proofs_run cs ns h.1 k.1)

    pub log_run : (claims : List DueClaim) (ns : List ℕ) → HasNumeral main_here.vars → HasNumeral (length stored) → IsSound stored steps → HaveLines (length stored) steps → AllZip (IsShownBy steps) claims ns → AllByRecursion HasNumeral ns →
        Run (logged due.Main claims []) (MainLine main_here.vars (length stored) ∷ (step_items (length stored) steps ++ (shown_claims claims ns ++ EndLine (end_number answer) ∷ []))) (logged due.Over [] notes)
    log_run claims ns few_vars few sound lines h k =
        let held : ((main_here.vars == main_here.vars) && (length stored == length stored)) ≡ true = and_both (main_here.vars == main_here.vars) (length stored == length stored) (same_true main_here.vars) (same_true (length stored)) in (
          logged due.Log claims [],
          (main_here.vars, length stored, refl, few_vars, few),
          (held, refl),
          steps_run claims steps [] stored (length stored) (shown_claims claims ns ++ EndLine (end_number answer) ∷ []) (logged due.Over [] notes) (sym (append-nil stored)) refl (all_sorted main_here.clauses)
              (main_range asked.distance asked.aggregator (profile_of problem) problem.asks) sound lines (after_log claims ns h k),
        )
