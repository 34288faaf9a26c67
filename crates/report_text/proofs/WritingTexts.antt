-- Lines that are written one after the other.
use Rattle.std.proofs.Common.{◌≡◌, ◌+◌, ◌<◌, ◌≤◌, ℕ, zero, suc, List, [], ◌∷◌, ◌++◌, length, map, get_or, take, drop, arith, ap, sym, ◌∙◌, refl, append_assoc, append-nil, length-take}
use Rattle.std.specs.Prelude.{codes, decimal, Bool, Option, None, Some, Result}
use Rattle.std.specs.Result.{IsErr}
use Rattle.std.proofs.lemmas.List.{map-append, take_all}
use Rattle.std.proofs.lemmas.List.Concat.{flat_map-append}
use Rattle.std.proofs.Math.Seq.{drop-cons, take-suc}
use Rattle.merge_model.specs.declared.operator.DistanceName.{DistanceName}
use Rattle.merge_model.specs.declared.operator.AggregatorName.{AggregatorName}
use Rattle.merge_model.specs.declared.answer.Answer.{Answer}
use Rattle.merge_model.specs.declared.answer.Answer.TheVariants.{Merged, Inconsistent}
use Rattle.merge_model.specs.declared.answer.Shown.{Shown}
use Rattle.merge_model.specs.declared.answer.Verdict.{Verdict}
use Rattle.merge_model.specs.declared.answer.Verdict.TheVariants.{Yes, No}
use Rattle.merge_model.specs.declared.problem.Problem.{Problem}
use Rattle.formula_text.specs.ValuationWords.{valuation_word}
use Rattle.derivation_log.specs.declared.step.Step.{Step}
use Rattle.profile_text.specs.ProblemText.{lines_text, problem_lines, problem_text}
use Rattle.profile_text.proofs.Pieces.{lines_text-append}
use Rattle.report_words.specs.Words.{line_of, later_text}
use Rattle.report_words.specs.Writing.{GrowsWithin, Writes}
use Rattle.report_words.proofs.Growth.{part_of_first, part_of_rest, same_text, stopped}
use Rattle.report_words.proofs.Spelling.{line_of_words}
use Rattle.report_lines.specs.declared.kinds.Subject.{Subject}
use Rattle.report_lines.specs.declared.kinds.Subject.TheVariants.{TheConstraint, BaseOf}
use Rattle.report_lines.specs.Items.{Item, ProblemLine, MeasureLine, item_line, subject_words}
use Rattle.report_lines.specs.Parts.{Asked, items_text, head_items, answer_items, shown_items, verdict_items, named_item, base_items, step_items}
use Rattle.report_text.specs.WritingItems.{front_text, verdict_entry, base_entry, step_entry}

-- a line of words, with its line feed
abbrev pub line_text : List (List ℕ) → List ℕ
line_text words = line_of words ++ codes "\n"

pub items_text-append : (xs ys : List Item) → items_text (xs ++ ys) ≡ items_text xs ++ items_text ys
items_text-append xs ys = ap lines_text (map-append item_line xs ys) ∙ lines_text-append (map item_line xs) (map item_line ys)

-- a writer that was refused has written a part of another spelling of its text
pub stopped_as : {T E : Type 0} (result : Result T E) (old new text other : List ℕ) → IsErr result → other ≡ text → GrowsWithin old new text → Writes result old new other
stopped_as result old new text other refused same g = same_text result old new text other (sym same) (stopped result old new text refused g)

-- where nothing was written, no part of the text was
pub nothing_of : (old new text : List ℕ) → new ≡ old → GrowsWithin old new text
nothing_of old new text same = record { part = []; rest = text; grown = same ∙ sym (append-nil old); begins = refl }

-- the lines of the problem are themselves
pub problem_items : (lines : List (List ℕ)) → items_text (map ProblemLine lines) ≡ lines_text lines
problem_items [] = refl
problem_items (line ∷ lines) =
    ap (λ l. l ++ codes "\n" ++ items_text (map ProblemLine lines)) (line_of_words line)
    ∙ ap (λ t. line ++ codes "\n" ++ t) (problem_items lines)

-- the parts of what stands before the log
pub front_parts : (distance : DistanceName) (aggregator : AggregatorName) (conflicts : ℕ) (problem : Problem) (answer : Answer)
    → front_text distance aggregator conflicts problem answer
    ≡ items_text (head_items (record { distance = distance; aggregator = aggregator; conflicts = conflicts })) ++ (problem_text problem ++ items_text (answer_items answer))
front_parts distance aggregator conflicts problem answer =
    let asked : Asked = record { distance = distance; aggregator = aggregator; conflicts = conflicts } in
    let lines = problem_lines problem in
    items_text-append (head_items asked) (map ProblemLine lines ++ answer_items answer)
    ∙ ap (λ t. items_text (head_items asked) ++ t) (items_text-append (map ProblemLine lines) (answer_items answer)
    ∙ ap (λ t. t ++ items_text (answer_items answer)) (problem_items lines))

pub merged_text : (answer : Answer) (best : Shown) (measure : List ℕ) (verdicts : List Verdict) → answer ≡ Merged best measure verdicts
    → items_text (answer_items answer)
    ≡ items_text (shown_items best) ++ (line_text (codes "measure" ∷ map decimal measure) ++ items_text (verdict_items 0 verdicts))
merged_text answer best measure verdicts is =
    ap (λ a. items_text (answer_items a)) is
    ∙ items_text-append (shown_items best) (MeasureLine measure ∷ verdict_items 0 verdicts)

pub inconsistent_text : (answer : Answer) (constraint : Option (List Bool)) (agents : List (Option (List Bool))) → answer ≡ Inconsistent constraint agents
    → items_text (answer_items answer)
    ≡ items_text (named_item TheConstraint constraint ∷ []) ++ items_text (base_items 0 agents)
inconsistent_text answer constraint agents is =
    ap (λ a. items_text (answer_items a)) is
    ∙ items_text-append (named_item TheConstraint constraint ∷ []) (base_items 0 agents)

pub verdict_text : (query : ℕ) (verdict : Verdict) (shown : Shown) → verdict ≡ No shown
    → items_text (verdict_entry query verdict) ≡ line_text (codes "verdict" ∷ decimal (query + 1) ∷ codes "no" ∷ []) ++ items_text (shown_items shown)
verdict_text query verdict shown is = ap (λ v. items_text (verdict_entry query v)) is

pub lacking_text : (subject : Subject) (model : Option (List Bool)) → model ≡ None
    → items_text (named_item subject model ∷ [])
    ≡ codes "no-model" ++ (later_text (subject_words subject) ++ codes "\n")
lacking_text subject model is =
    let words = later_text (subject_words subject) in
    ap (λ m. items_text (named_item subject m ∷ [])) is
    ∙ append-nil (codes "no-model" ++ words ++ codes "\n")
    ∙ append_assoc (codes "no-model") words (codes "\n")

pub having_text : (subject : Subject) (model : Option (List Bool)) (v : List Bool) → model ≡ Some v
    → items_text (named_item subject model ∷ [])
    ≡ codes "has-model" ++ (later_text (subject_words subject) ++ (later_text (map valuation_word (v ∷ [])) ++ codes "\n"))
having_text subject model v is =
    let words = later_text (subject_words subject) in
    let word = later_text (valuation_word v ∷ []) in
    ap (λ m. items_text (named_item subject m ∷ [])) is
    ∙ append-nil (codes "has-model" ++ later_text (subject_words subject ++ valuation_word v ∷ []) ++ codes "\n")
    ∙ ap (λ t. codes "has-model" ++ t ++ codes "\n") (flat_map-append (λ w. 32 ∷ w) (subject_words subject) (valuation_word v ∷ []))
    ∙ ap (λ t. codes "has-model" ++ t) (append_assoc words word (codes "\n"))

-- entries that are numbered from n on, each with its lines
abbrev pub items_from : {X : Type 0} → (ℕ → X → List Item) → ℕ → List X → List Item
items_from entry n [] = []
items_from entry n (x ∷ xs) = entry n x ++ items_from entry (n + 1) xs

pub verdicts_from : (q : ℕ) (verdicts : List Verdict) → verdict_items q verdicts ≡ items_from verdict_entry q verdicts
verdicts_from q [] = refl
verdicts_from q (Yes ∷ verdicts) = ap (λ t. verdict_entry q Yes ++ t) (verdicts_from (q + 1) verdicts)
verdicts_from q (No shown ∷ verdicts) = ap (λ t. verdict_entry q (No shown) ++ t) (verdicts_from (q + 1) verdicts)

pub bases_from : (i : ℕ) (entries : List (Option (List Bool))) → base_items i entries ≡ items_from base_entry i entries
bases_from i [] = refl
bases_from i (entry ∷ entries) = ap (λ t. named_item (BaseOf i) entry ∷ t) (bases_from (i + 1) entries)

pub steps_from : (n : ℕ) (steps : List Step) → step_items n steps ≡ items_from step_entry n steps
steps_from n [] = refl
steps_from n (step ∷ steps) = ap (λ t. step_entry n step ++ t) (steps_from (n + 1) steps)

module _ {X : Type 0} (entry : ℕ → X → List Item) where
  split : (n : ℕ) (xs : List X) (k : ℕ) → items_from entry n xs ≡ items_from entry n (take k xs) ++ items_from entry (n + k) (drop k xs)
  split n xs zero = let same : n ≡ n + 0 = omega arith in ap (λ j. items_from entry j xs) same
  split n [] (suc k) = refl
  split n (x ∷ xs) (suc k) =
      let next : n + 1 + k ≡ n + suc k = omega arith in
      ap (λ t. entry n x ++ t) (split (n + 1) xs k ∙ ap (λ j. items_from entry (n + 1) (take k xs) ++ items_from entry j (drop k xs)) next)
      ∙ sym (append_assoc (entry n x) (items_from entry (n + 1) (take k xs)) (items_from entry (n + suc k) (drop k xs)))

  -- the text before an entry, its own, and the text after it
  parts : (n : ℕ) (xs : List X) (k m : ℕ) (x d : X) → k < length xs → m ≡ n + k → x ≡ get_or xs k d
      → items_text (items_from entry n xs)
      ≡ items_text (items_from entry n (take k xs)) ++ (items_text (entry m x) ++ items_text (items_from entry (m + 1) (drop (suc k) xs)))
  parts n xs k m x d within at is =
      let left : drop k xs ≡ x ∷ drop (suc k) xs = drop-cons xs k d within ∙ ap (λ y. y ∷ drop (suc k) xs) (sym is) in
      let back : n + k ≡ m = omega arith in
      let rest : items_from entry (n + k) (drop k xs) ≡ items_from entry m (x ∷ drop (suc k) xs) =
      ap (λ j. items_from entry j (drop k xs)) back ∙ ap (λ ys. items_from entry m ys) left in
      ap items_text (split n xs k ∙ ap (λ t. items_from entry n (take k xs) ++ t) rest)
      ∙ items_text-append (items_from entry n (take k xs)) (entry m x ++ items_from entry (m + 1) (drop (suc k) xs))
      ∙ ap (λ t. items_text (items_from entry n (take k xs)) ++ t) (items_text-append (entry m x) (items_from entry (m + 1) (drop (suc k) xs)))

  with_last : (n : ℕ) (ys : List X) (x : X) → items_from entry n (ys ++ x ∷ []) ≡ items_from entry n ys ++ entry (n + length ys) x
  with_last n [] x = let same : n ≡ n + 0 = omega arith in append-nil (entry n x) ∙ ap (λ j. entry j x) same
  with_last n (y ∷ ys) x =
      let next : n + 1 + length ys ≡ n + suc (length ys) = omega arith in
      ap (λ t. entry n y ++ t) (with_last (n + 1) ys x ∙ ap (λ j. items_from entry (n + 1) ys ++ entry j x) next)
      ∙ sym (append_assoc (entry n y) (items_from entry (n + 1) ys) (entry (n + suc (length ys)) x))

  -- the lines of the next entry, number m, are written
  pub next_entry : (n : ℕ) (xs : List X) (k m j : ℕ) (x d : X) (old mid new : List ℕ) → k < length xs → m ≡ n + k → j ≡ suc k → x ≡ get_or xs k d
      → mid ≡ old ++ items_text (items_from entry n (take k xs)) → new ≡ mid ++ items_text (entry m x)
      → new ≡ old ++ items_text (items_from entry n (take j xs))
  next_entry n xs k m j x d old mid new within at next is so_far more =
      let number : n + length (take k xs) ≡ m = omega (arith, length-take {A = X}) in
      let taken : take j xs ≡ take k xs ++ x ∷ [] = ap (λ i. take i xs) next ∙ take-suc xs k d within ∙ ap (λ y. take k xs ++ y ∷ []) (sym is) in
      let written : items_text (items_from entry n (take j xs)) ≡ items_text (items_from entry n (take k xs)) ++ items_text (entry m x) =
      ap (λ ys. items_text (items_from entry n ys)) taken
      ∙ ap items_text (with_last n (take k xs) x ∙ ap (λ i. items_from entry n (take k xs) ++ entry i x) number)
      ∙ items_text-append (items_from entry n (take k xs)) (entry m x) in
      more ∙ ap (λ t. t ++ items_text (entry m x)) so_far
      ∙ append_assoc old (items_text (items_from entry n (take k xs))) (items_text (entry m x)) ∙ ap (λ t. old ++ t) (sym written)

  -- a part of them is written
  pub part_of_entries : (n : ℕ) (xs : List X) (k m : ℕ) (x d : X) (old mid new : List ℕ) → k < length xs → m ≡ n + k → x ≡ get_or xs k d
      → mid ≡ old ++ items_text (items_from entry n (take k xs)) → GrowsWithin mid new (items_text (entry m x))
      → GrowsWithin old new (items_text (items_from entry n xs))
  part_of_entries n xs k m x d old mid new within at is so_far g =
      let whole = parts n xs k m x d within at is in
      let part = part_of_rest old mid new (items_text (items_from entry n (take k xs)))
      (items_text (entry m x) ++ items_text (items_from entry (m + 1) (drop (suc k) xs))) so_far
      (part_of_first mid new (items_text (entry m x)) (items_text (items_from entry (m + 1) (drop (suc k) xs))) g) in
      record { part = part.part; rest = part.rest; grown = part.grown; begins = whole ∙ part.begins }

  -- only those before an entry are written
  pub before_entry : (n : ℕ) (xs : List X) (k : ℕ) (old new : List ℕ) → new ≡ old ++ items_text (items_from entry n (take k xs)) → GrowsWithin old new (items_text (items_from entry n xs))
  before_entry n xs k old new so_far = record {
    part = items_text (items_from entry n (take k xs));
    rest = items_text (items_from entry (n + k) (drop k xs));
    grown = so_far;
    begins = ap items_text (split n xs k) ∙ items_text-append (items_from entry n (take k xs)) (items_from entry (n + k) (drop k xs));
  }

  -- the lines of all entries are written
  pub all_entries : (n : ℕ) (xs : List X) (k : ℕ) (old new : List ℕ) → length xs ≤ k
      → new ≡ old ++ items_text (items_from entry n (take k xs)) → new ≡ old ++ items_text (items_from entry n xs)
  all_entries n xs k old new over so_far = so_far ∙ ap (λ ys. old ++ items_text (items_from entry n ys)) (take_all k xs over)
