-- Whether an item that is due has given words.
use Rattle.std.proofs.Common.{◌≡◌, ℕ, ◌≤◌, nat_le, ◌&&◌, Bool, true, false, cond, ◌⊎◌, inl, inr, List, [], ◌∷◌, map, length, codes, decimal, Option, None, Some, refl, ap, sym, subst, ◌∙◌, arith}
use Rattle.std.proofs.lemmas.Bool.Decides.{nat_tests}
use Rattle.std.specs.List.{AllByRecursion}
use Rattle.formula_text.specs.ValuationWords.{valuation_word}
use Rattle.report_words.specs.Numbers.{HasNumeral, number_at}
use Rattle.report_words.specs.Words.{words_of}
use Rattle.report_words.proofs.Numerals.{number_found, number_again, both_true}
use Rattle.derivation_log.specs.StepLines.{IsStep}
use Rattle.derivation_log.specs.StepReading.{step_at, ◌>>=◌}
use Rattle.derivation_log.proofs.Readers.{bind_some, some_is, guard_is}
use Rattle.derivation_log.proofs.StepLaws.{step_found, step_again}
use Rattle.merge_model.specs.declared.operator.AggregatorName.{AggregatorName}
use Rattle.merge_model.specs.declared.operator.AggregatorName.TheVariants.{Sum, Max, Leximax}
use Rattle.merge_model.specs.declared.operator.DistanceName.{DistanceName}
use Rattle.merge_model.specs.declared.operator.DistanceName.TheVariants.{Drastic, Hamming}
use Rattle.report_lines.specs.declared.kinds.Due.{Due}
use Rattle.report_lines.specs.declared.kinds.Due.TheVariants as due
use Rattle.report_lines.specs.declared.kinds.Kind.{Kind}
use Rattle.report_lines.specs.declared.kinds.Subject.{Subject}
use Rattle.report_lines.specs.declared.kinds.Subject.TheVariants.{TheConstraint, BaseOf}
use Rattle.report_lines.specs.ClaimsDue.{DueClaim}
use Rattle.report_lines.specs.Items.{Item, HeadLine, DistanceLine, AggregatorLine, ConflictsLine, ProblemLine, ModelLine, VectorLine, NearestLine, MeasureLine, VerdictLine, NoModelLine, HasModelLine, GaveUpLine, MainLine, LogLine, ShownLine, EndLine, item_words, subject_words, claim_words}
use Rattle.report_lines.specs.LineReading.{valuation_at}
use Rattle.report_lines.specs.Places.{Position, DueAt, IsProblemLine, IsModelLine, IsNamedLine, IsAnswerLine, IsProofLine, first_word, conflict_limit, atoms_at, agents_at, measure_at, end_number}
use Rattle.report_lines.proofs.Elements.{valuation_found, valuation_again}
use Rattle.report_lines.proofs.OneItem.{same_line}
use Rattle.report_laws.proofs.Choices.{Decided, Choice, same_word, one_choice, either, moved, read_choice, row_at, row_found, row_again, row_choice, last_choice}

-- the operators and the verdict

to_distance : (x : Item) → (x ≡ DistanceLine Drastic) ⊎ (x ≡ DistanceLine Hamming) → (d : DistanceName) × (x ≡ DistanceLine d)
to_distance x (inl e) = (Drastic, e)
to_distance x (inr e) = (Hamming, e)

of_distance : (x : Item) (d : DistanceName) → x ≡ DistanceLine d → (x ≡ DistanceLine Drastic) ⊎ (x ≡ DistanceLine Hamming)
of_distance x Drastic e = inl e
of_distance x Hamming e = inr e

distance_choice : (ws : List (List ℕ)) → Choice (λ x. (d : DistanceName) × (x ≡ DistanceLine d)) ws
distance_choice ws = moved _ _ ws to_distance (λ x d. of_distance x d.0 d.1) (either _ _ ws (one_choice (DistanceLine Drastic) ws) (one_choice (DistanceLine Hamming) ws))

abbrev IsAggregator : Item → Type 0
IsAggregator x = (x ≡ AggregatorLine Sum) ⊎ ((x ≡ AggregatorLine Max) ⊎ (x ≡ AggregatorLine Leximax))

to_aggregator : (x : Item) → IsAggregator x → (a : AggregatorName) × (x ≡ AggregatorLine a)
to_aggregator x (inl e) = (Sum, e)
to_aggregator x (inr (inl e)) = (Max, e)
to_aggregator x (inr (inr e)) = (Leximax, e)

of_aggregator : (x : Item) (a : AggregatorName) → x ≡ AggregatorLine a → IsAggregator x
of_aggregator x Sum e = inl e
of_aggregator x Max e = inr (inl e)
of_aggregator x Leximax e = inr (inr e)

aggregator_choice : (ws : List (List ℕ)) → Choice (λ x. (a : AggregatorName) × (x ≡ AggregatorLine a)) ws
aggregator_choice ws = moved _ _ ws to_aggregator (λ x a. of_aggregator x a.0 a.1)
    (either _ _ ws (one_choice (AggregatorLine Sum) ws) (either _ _ ws (one_choice (AggregatorLine Max) ws) (one_choice (AggregatorLine Leximax) ws)))

to_verdict : (q : ℕ) (x : Item) → (x ≡ VerdictLine q true) ⊎ (x ≡ VerdictLine q false) → (given : Bool) × (x ≡ VerdictLine q given)
to_verdict q x (inl e) = (true, e)
to_verdict q x (inr e) = (false, e)

of_verdict : (q : ℕ) (x : Item) (given : Bool) → x ≡ VerdictLine q given → (x ≡ VerdictLine q true) ⊎ (x ≡ VerdictLine q false)
of_verdict q x true e = inl e
of_verdict q x false e = inr e

verdict_choice : (q : ℕ) (ws : List (List ℕ)) → Choice (λ x. (given : Bool) × (x ≡ VerdictLine q given)) ws
verdict_choice q ws = moved _ _ ws (to_verdict q) (λ x g. of_verdict q x g.0 g.1) (either _ _ ws (one_choice (VerdictLine q true) ws) (one_choice (VerdictLine q false) ws))

-- the number of conflicts

abbrev AreConflicts : ℕ → Type 0
AreConflicts b = (1 ≤ b) × (b ≤ conflict_limit)

abbrev conflicts_at : List ℕ → Option ℕ
conflicts_at w = number_at w >>= λ n. cond (nat_le 1 n && nat_le n conflict_limit) (Some n) None

le_is : (n m : ℕ) → nat_le n m ≡ true → n ≤ m
le_is n m e = grind (arith, nat_tests)

is_le : (n m : ℕ) → n ≤ m → nat_le n m ≡ true
is_le n m h = grind (arith, nat_tests)

conflicts_found : (w : List ℕ) (b : ℕ) → conflicts_at w ≡ Some b → (w ≡ decimal b) × AreConflicts b
conflicts_found w b e =
    let a = bind_some (number_at w) (λ n. cond (nat_le 1 n && nat_le n conflict_limit) (Some n) None) b e in
    let g = guard_is (nat_le 1 a.0 && nat_le a.0 conflict_limit) (Some a.0) b a.2 in
    let t = both_true (nat_le 1 a.0) (nat_le a.0 conflict_limit) g.0 in
    subst (λ (n : ℕ). (w ≡ decimal n) × AreConflicts n) (some_is a.0 b g.1) ((number_found w a.0 a.1).0, (le_is 1 a.0 t.0, le_is a.0 conflict_limit t.1))

conflicts_again : (b : ℕ) → AreConflicts b → conflicts_at (decimal b) ≡ Some b
conflicts_again b h = rw (number_again b (omega (arith, h.1)), is_le 1 b h.0, is_le b conflict_limit h.1) refl

-- the numbers of the main clauses

abbrev IsMain : Item → Type 0
IsMain x = (v : ℕ) × (c : ℕ) × (x ≡ MainLine v c) × HasNumeral v × HasNumeral c

main_two : (ws : List (List ℕ)) (bs : List ℕ) → ws ≡ codes "main" ∷ map decimal bs → length bs ≡ 2 → AllByRecursion HasNumeral bs → Choice IsMain ws
main_two ws [] e l h = absurd (cc)
main_two ws (v ∷ []) e l h = absurd (omega (arith, l))
main_two ws (v ∷ c ∷ []) e l h = inl (MainLine v c, (v, c, refl, h.0, h.1.0), e)
main_two ws (v ∷ c ∷ b ∷ bs) e l h = absurd (omega (arith, l))

main_by : (ws : List (List ℕ)) (r : Option (List ℕ)) → row_at number_at (codes "main") 2 ws ≡ r → Choice IsMain ws
main_by ws (Some bs) e = let h = row_found number_at decimal HasNumeral number_found number_again (codes "main") 2 ws bs e in main_two ws bs h.0 h.1 h.2
main_by ws None e = inr (λ x d f.
    let again : row_at number_at (codes "main") 2 (codes "main" ∷ map decimal (d.0 ∷ d.1 ∷ [])) ≡ Some (d.0 ∷ d.1 ∷ []) =
    row_again number_at decimal HasNumeral number_found number_again (codes "main") 2 (d.0 ∷ d.1 ∷ []) refl (d.3, (d.4, tt)) in
    let g : None ≡ Some (d.0 ∷ d.1 ∷ []) = sym e ∙ (ap (row_at number_at (codes "main") 2) (f ∙ ap item_words d.2) ∙ again) in cc)

-- lines of the problem

problem_by : (word line : List ℕ) → Decided (first_word line ≡ word) → Choice (IsProblemLine word) (words_of line)
problem_by word line (inl h) = inl (ProblemLine line, (line, refl, h), refl)
problem_by word line (inr h) = inr (λ x d e. h (ap first_word (same_line line d.0 (e ∙ ap item_words d.1)) ∙ d.2))

problem_choice : (word line : List ℕ) → Choice (IsProblemLine word) (words_of line)
problem_choice word line = problem_by word line (same_word (first_word line) word)

-- lines of the answer

module _ (p : Position) (ws : List (List ℕ)) where
  model_choice : Choice (IsModelLine p) ws
  model_choice = last_choice (valuation_at (atoms_at p)) valuation_word (λ w. length w ≡ atoms_at p) (valuation_found (atoms_at p)) (valuation_again (atoms_at p))
      ModelLine (codes "model" ∷ []) (λ w. refl) ws

  named_choice : (s : Subject) → Choice (IsNamedLine p s) ws
  named_choice s = either _ _ ws (one_choice (NoModelLine s) ws)
      (last_choice (valuation_at (atoms_at p)) valuation_word (λ w. length w ≡ atoms_at p) (valuation_found (atoms_at p)) (valuation_again (atoms_at p))
      (HasModelLine s) (codes "has-model" ∷ subject_words s) (λ w. refl) ws)

  answer_choice : Choice (IsAnswerLine p) ws
  answer_choice = either _ _ ws model_choice (either _ _ ws (named_choice TheConstraint) (one_choice GaveUpLine ws))

  numbers_choice : (item : List ℕ → Item) (first : List ℕ) (count : ℕ) → ((ns : List ℕ) → item_words (item ns) ≡ first ∷ map decimal ns) →
      Choice (λ x. (ns : List ℕ) × (x ≡ item ns) × (length ns ≡ count) × AllByRecursion HasNumeral ns) ws
  numbers_choice item first count words = row_choice number_at decimal HasNumeral number_found number_again item first count words ws

  nearest_choice : Choice (DueAt due.Nearest p) ws
  nearest_choice = row_choice (valuation_at (atoms_at p)) valuation_word (λ w. length w ≡ atoms_at p) (valuation_found (atoms_at p)) (valuation_again (atoms_at p))
      NearestLine (codes "nearest") (agents_at p) (λ bs. refl) ws

  -- lines of the log and of the proofs

  proof_choice : (cs : List DueClaim) (k : Kind) → Choice (IsProofLine cs k) ws
  proof_choice [] k = one_choice (EndLine (end_number k)) ws
  proof_choice (c ∷ cs) k = last_choice number_at decimal HasNumeral number_found number_again (ShownLine c) (codes "shown" ∷ claim_words c.model c.says) (λ n. refl) ws

  log_choice : Choice (DueAt due.Log p) ws
  log_choice = either _ _ ws (read_choice LogLine IsStep ws (step_at ws) (step_found ws) (λ s h e. ap step_at e ∙ step_again s h)) (proof_choice p.claims p.kind)

pub due_choice : (d : Due) (p : Position) (line : List ℕ) → Choice (DueAt d p) (words_of line)
due_choice due.Head p line = one_choice HeadLine (words_of line)
due_choice due.Distance p line = distance_choice (words_of line)
due_choice due.Aggregator p line = aggregator_choice (words_of line)
due_choice due.Conflicts p line = moved _ _ (words_of line) (λ x d. (d.0, d.1, d.2.0, d.2.1)) (λ x d. (d.0, d.1, (d.2, d.3)))
    (last_choice conflicts_at decimal AreConflicts conflicts_found conflicts_again ConflictsLine (codes "conflicts" ∷ []) (λ b. refl) (words_of line))
due_choice due.Atoms p line = problem_choice (codes "atoms") line
due_choice due.Constraint p line = problem_choice (codes "constraint") line
due_choice due.FirstAgent p line = problem_choice (codes "agent") line
due_choice due.Agents p line = either _ _ _ (problem_choice (codes "agent") line) (either _ _ _ (problem_choice (codes "ask") line) (answer_choice p (words_of line)))
due_choice due.Asks p line = either _ _ _ (problem_choice (codes "ask") line) (answer_choice p (words_of line))
due_choice due.Model p line = model_choice p (words_of line)
due_choice due.Vector p line = numbers_choice p (words_of line) VectorLine (codes "vector") (agents_at p) (λ ns. refl)
due_choice due.Nearest p line = nearest_choice p (words_of line)
due_choice due.Measure p line = numbers_choice p (words_of line) MeasureLine (codes "measure") (length (measure_at p)) (λ ns. refl)
due_choice due.Verdict p line = verdict_choice p.verdicts (words_of line)
due_choice due.Named p line = named_choice p (words_of line) (BaseOf p.named)
due_choice due.Main p line = main_by (words_of line) _ refl
due_choice due.Log p line = log_choice p (words_of line)
due_choice due.Proofs p line = proof_choice p (words_of line) p.claims p.kind
due_choice due.Over p line = inr (λ x d e. d)
