-- A text has the parts of at most one report.
use Rattle.std.proofs.Common.{◌≡◌, ℕ, ◌+◌, ◌<◌, ◌==◌, ◌||◌, Bool, true, false, inl, List, [], ◌∷◌, ◌++◌, length, map, Option, None, Some, refl, ap, sym, subst, ◌∙◌, append_assoc, arith}
use Rattle.std.specs.List.{AllByRecursion, list_all}
use Rattle.std.proofs.lemmas.List.{append_cancel_right, map-append}
use Rattle.std.proofs.lemmas.List.Elements.{recursion_from_All}
use Rattle.std.proofs.lemmas.List.Folds.{list_all-append}
use Rattle.clause_store.proofs.Each.{each_append}
use Rattle.clause_store.proofs.Truths.{and_left, and_right, and_both}
use Rattle.formulas.specs.declared.formula.Formula.{Formula}
use Rattle.formulas.specs.Names.{names_of}
use Rattle.merge_model.specs.declared.agent.Agent.{Agent}
use Rattle.merge_model.specs.declared.answer.Answer.{Answer}
use Rattle.merge_model.specs.declared.answer.Answer.TheVariants.{Merged, Inconsistent, GaveUp}
use Rattle.merge_model.specs.declared.answer.Shown.{Shown}
use Rattle.merge_model.specs.declared.answer.Verdict.{Verdict}
use Rattle.merge_model.specs.declared.answer.Verdict.TheVariants.{Yes, No}
use Rattle.merge_model.specs.declared.operator.AggregatorName.{AggregatorName}
use Rattle.merge_model.specs.declared.operator.DistanceName.{DistanceName}
use Rattle.merge_model.specs.declared.problem.Problem.{Problem}
use Rattle.merge_encoding.specs.MainDues.{MainDue, main_due}
use Rattle.merge_encoding.specs.Named.{counter_named, levels_named}
use Rattle.problem_reading.specs.Spelling.{Spelled}
use Rattle.problem_laws.specs.Sameness.{SameProblem}
use Rattle.problem_laws.proofs.CanonicalText.{canonical_spelled}
use Rattle.problem_laws.proofs.TextLaws.{one_problem}
use Rattle.profile_text.specs.ProblemText.{agent_line, ask_line, problem_lines, problem_text, lines_text}
use Rattle.report_words.specs.Numbers.{HasNumeral}
use Rattle.report_words.proofs.Spelling.{line_of_words}
use Rattle.derivation_log.specs.declared.step.Step.{Step}
use Rattle.derivation_log.specs.StepLines.{StepLine, step_line}
use Rattle.log_lines.specs.Taking.{narrow_step}
use Rattle.log_lines.proofs.Narrow.{narrow_is}
use Rattle.report_lines.specs.declared.kinds.Due.TheVariants as due
use Rattle.report_lines.specs.ClaimsDue.{DueClaim, claims_due}
use Rattle.report_lines.specs.Accepted.{Parts}
use Rattle.report_lines.specs.Items.{Item, HeadLine, DistanceLine, AggregatorLine, ConflictsLine, ProblemLine, MainLine, LogLine, ShownLine, EndLine, item_line}
use Rattle.report_lines.specs.Judged.{pieces_of}
use Rattle.report_lines.specs.Places.{start, end_number}
use Rattle.report_lines.specs.Parts.{Asked, items_text, kind_of_answer, named_item, base_items, answer_items, step_items, shown_claims, head_items, log_items, items_of, report_text, HasVerdictForm, HasShownForm, HasEntryForm, HasAnswerForm, HaveLines, HasForm, HasParts}
use Rattle.report_lines.specs.declared.kinds.Subject.TheVariants.{TheConstraint}
use Rattle.report_lines.proofs.OneItem.{first_words}
use Rattle.report_text.specs.PartsLaws.{AreSame}
use Rattle.report_text.proofs.PartsLog.{stored}
use Rattle.report_text.proofs.PartsShown.{Setting, profile_in, values_of, ShownFits}
use Rattle.report_text.proofs.PartsVerdicts.{judging, VerdictFits}
use Rattle.report_text.proofs.PartsAnswer.{fresh, AnswerFits}
use Rattle.report_text.proofs.WrittenHead.{problem_feed}
use Rattle.derivation_log.proofs.Narrow.{line_is_step}
use Rattle.derivation_log.proofs.Readers.{cons_is}
use Rattle.report_text.proofs.WrittenText.{HasNoFeed, are_plain, pieces_are}
use Rattle.report_text.proofs.PartsOnly.{Same, first_same, rest_same, same_item, answers_same, line_tail}
use Rattle.report_text.proofs.WrittenWhole.{answer_feed, steps_feed}

-- steps

line_is : (a b : StepLine) → LogLine a ≡ LogLine b → a ≡ b
line_is a b e = cc

cons_steps : (a b : Step) (ss ts : List Step) → a ≡ b → ss ≡ ts → a ∷ ss ≡ b ∷ ts
cons_steps a b ss ts e f = cc

cons_numbers : (a b : ℕ) (ss ts : List ℕ) → a ≡ b → ss ≡ ts → a ∷ ss ≡ b ∷ ts
cons_numbers a b ss ts e f = cc

-- the second byte of the first line, which for steps is a t
second : List (List ℕ) → ℕ
second ((a ∷ b ∷ w) ∷ ls) = b
second _ = 0

abbrev proof_items : List DueClaim → List ℕ → ℕ → List Item
proof_items claims shown k = shown_claims claims shown ++ EndLine k ∷ []

proofs_second : (claims : List DueClaim) (shown : List ℕ) (k : ℕ) → second (map item_line (proof_items claims shown k)) < 116
unfolding second
proofs_second [] shown k = omega arith
proofs_second (c ∷ cs) [] k = omega arith
proofs_second (c ∷ cs) (n ∷ ns) k = omega arith

step_second : (s : StepLine) (xs : List Item) → second (map item_line (LogLine s ∷ xs)) ≡ 116
unfolding second
step_second s xs = refl

module _ (s : Setting) where
  steps_same : (n : ℕ) (ss ts : List Step) (xs ys : List Item) → HaveLines n ss → HaveLines n ts → second (map item_line xs) < 116 → second (map item_line ys) < 116
      → Same (step_items n ss ++ xs) (step_items n ts ++ ys) → (ss ≡ ts) × Same xs ys
  steps_same n [] [] xs ys h k i j e = (refl, e)
  steps_same n [] (t ∷ ts) xs ys h k i j e =
      let f : second (map item_line xs) ≡ 116 = ap second e ∙ step_second (step_line n t) (step_items (n + 1) ts ++ ys) in absurd (omega (arith, f, i))
  steps_same n (a ∷ ss) [] xs ys h k i j e =
      let f : second (map item_line ys) ≡ 116 = ap second (sym e) ∙ step_second (step_line n a) (step_items (n + 1) ss ++ xs) in absurd (omega (arith, f, j))
  steps_same n (a ∷ ss) (t ∷ ts) xs ys h k i j e =
      let x : Item = LogLine (step_line n a) in
      let y : Item = LogLine (step_line n t) in
      let xs2 : List Item = step_items (n + 1) ss ++ xs in
      let ys2 : List Item = step_items (n + 1) ts ++ ys in
      let one = same_item due.Log (fresh s due.Log) x y tt tt (inl (step_line n a, refl, line_is_step n a h.0)) (inl (step_line n t, refl, line_is_step n t k.0)) (first_same x y xs2 ys2 e) in
      let same : a ≡ t = sym (narrow_is n a) ∙ (ap narrow_step (line_is (step_line n a) (step_line n t) one) ∙ narrow_is n t) in
      let r = steps_same (n + 1) ss ts xs ys h.1 k.1 i j (rest_same x y xs2 ys2 e) in
      (cons_steps a t ss ts same r.0, r.1)

  number_is : (c : DueClaim) (n m : ℕ) → ShownLine c n ≡ ShownLine c m → n ≡ m
  number_is c n m e = cc

  numbers_same : (cs : List DueClaim) (ns ms : List ℕ) (k j : ℕ) → length ns ≡ length cs → length ms ≡ length cs → AllByRecursion HasNumeral ns → AllByRecursion HasNumeral ms
      → Same (proof_items cs ns k) (proof_items cs ms j) → ns ≡ ms
  numbers_same [] [] [] k j a b f g e = refl
  numbers_same [] [] (m ∷ ms) k j a b f g e = absurd (omega (arith, b))
  numbers_same [] (n ∷ ns) ms k j a b f g e = absurd (omega (arith, a))
  numbers_same (c ∷ cs) [] ms k j a b f g e = absurd (omega (arith, a))
  numbers_same (c ∷ cs) (n ∷ ns) [] k j a b f g e = absurd (omega (arith, b))
  numbers_same (c ∷ cs) (n ∷ ns) (m ∷ ms) k j a b f g e =
      let x : Item = ShownLine c n in
      let y : Item = ShownLine c m in
      let one = same_item due.Proofs (judging s due.Proofs 0 [] [] [] (c ∷ [])) x y tt tt (n, refl, f.0) (m, refl, g.0) (first_same x y (proof_items cs ns k) (proof_items cs ms j) e) in
      let r = numbers_same cs ns ms k j (omega (arith, a)) (omega (arith, b)) f.1 g.1 (rest_same x y (proof_items cs ns k) (proof_items cs ms j) e) in
      cons_numbers n m ns ms (number_is c n m one) r

-- the answer and the log, by a setting

abbrev main_of_setting : Setting → MainDue
main_of_setting s = main_due (counter_named s.distance) (levels_named s.aggregator) (profile_in s) s.draft.asks

abbrev claims_in : Setting → Answer → List DueClaim
claims_in s a = claims_due (values_of s) a

abbrev later : Setting → Answer → List Step → List ℕ → List Item
later s a steps shown =
    MainLine (main_of_setting s).vars (length (stored (main_of_setting s)))
    ∷ (step_items (length (stored (main_of_setting s))) steps ++ proof_items (claims_in s a) shown (end_number (kind_of_answer a)))

record Fits (s : Setting) (a : Answer) (steps : List Step) (shown : List ℕ) : Type 0 where
  answer : AnswerFits s a
  lines : HaveLines (length (stored (main_of_setting s))) steps
  count : length shown ≡ length (claims_in s a)
  numbers : AllByRecursion HasNumeral shown

log_same : (s : Setting) (a b : Answer) (ss ts : List Step) (ns ms : List ℕ) → Fits s a ss ns → Fits s b ts ms → a ≡ b → Same (later s a ss ns) (later s b ts ms) → (ss ≡ ts) × (ns ≡ ms)
log_same s a b ss ts ns ms h k e f =
    let n : ℕ = length (stored (main_of_setting s)) in
    let x : Item = MainLine (main_of_setting s).vars n in
    let xs : List Item = proof_items (claims_in s a) ns (end_number (kind_of_answer a)) in
    let ys : List Item = proof_items (claims_in s b) ms (end_number (kind_of_answer b)) in
    let r = steps_same s n ss ts xs ys h.lines k.lines (proofs_second (claims_in s a) ns (end_number (kind_of_answer a))) (proofs_second (claims_in s b) ms (end_number (kind_of_answer b)))
    (rest_same x x (step_items n ss ++ xs) (step_items n ts ++ ys) f) in
    let count : length ms ≡ length (claims_in s a) = k.count ∙ ap (λ (z : Answer). length (claims_in s z)) (sym e) in
    let claims : Same (proof_items (claims_in s a) ns (end_number (kind_of_answer a))) (proof_items (claims_in s a) ms (end_number (kind_of_answer b))) =
    subst (λ (z : Answer). Same xs (proof_items (claims_in s z) ms (end_number (kind_of_answer b)))) (sym e) r.1 in
    (r.0, numbers_same s (claims_in s a) ns ms (end_number (kind_of_answer a)) (end_number (kind_of_answer b)) h.count count h.numbers k.numbers claims)

-- what a report's parts fit

abbrev setting_in : Asked → Problem → Setting
setting_in asked p = record {
  distance = asked.distance;
  aggregator = asked.aggregator;
  conflicts = asked.conflicts;
  draft = record { atoms = p.atoms; constraint = Some p.constraint; agents = p.agents; asks = p.asks };
}

shown_fits : (r : Parts) (a : Shown) → HasShownForm r a → ShownFits (length r.problem.atoms) (length r.problem.agents) a
shown_fits r a h = record { model = h.model; entries = h.entries; numbers = h.numbers; nearest = h.nearest; over = h.over }

verdict_fits : (r : Parts) (v : Verdict) → HasVerdictForm r v → VerdictFits (length r.problem.atoms) (length r.problem.agents) v
verdict_fits r Yes h = tt
verdict_fits r (No a) h = shown_fits r a h

verdicts_fit : (r : Parts) (vs : List Verdict) → AllByRecursion (HasVerdictForm r) vs → AllByRecursion (VerdictFits (length r.problem.atoms) (length r.problem.agents)) vs
verdicts_fit r [] h = tt
verdicts_fit r (v ∷ vs) h = (verdict_fits r v h.0, verdicts_fit r vs h.1)

answer_fits : (asked : Asked) (r : Parts) (a : Answer) → HasAnswerForm asked r a → AnswerFits (setting_in asked r.problem) a
answer_fits asked r (Merged best measure verdicts) h = (shown_fits r best h.0, h.1, h.2, h.3, verdicts_fit r verdicts (recursion_from_All (HasVerdictForm r) verdicts h.4))
answer_fits asked r (Inconsistent constraint agents) h = (h.0, h.1, recursion_from_All (HasEntryForm r) agents h.2)
answer_fits asked r GaveUp h = tt

form_fits : (asked : Asked) (r : Parts) → HasForm asked r → Fits (setting_in asked r.problem) r.answer r.steps r.shown
form_fits asked r h = record { answer = answer_fits asked r r.answer h.answer; lines = h.lines; count = h.proofs; numbers = recursion_from_All HasNumeral r.shown h.numbers }

-- no line feed stands in a line

proofs_feed : (cs : List DueClaim) (ns : List ℕ) (k : ℕ) → AllByRecursion HasNoFeed (proof_items cs ns k)
proofs_feed [] ns k = (tt, tt)
proofs_feed (c ∷ cs) [] k = (tt, tt)
proofs_feed (c ∷ cs) (n ∷ ns) k = (tt, proofs_feed cs ns k)

later_feed : (s : Setting) (a : Answer) (ss : List Step) (ns : List ℕ) → AllByRecursion HasNoFeed (later s a ss ns)
later_feed s a ss ns =
    let n : ℕ = length (stored (main_of_setting s)) in
    let k : ℕ = end_number (kind_of_answer a) in
    (tt, each_append HasNoFeed (step_items n ss) (proof_items (claims_in s a) ns k) (steps_feed n ss) (proofs_feed (claims_in s a) ns k))

-- the items of a report, from its problem on
abbrev body : Asked → Parts → List Item
body asked r = answer_items r.answer ++ later (setting_in asked r.problem) r.answer r.steps r.shown

abbrev whole : Asked → Parts → List Item
whole asked r = head_items asked ++ (map ProblemLine (problem_lines r.problem) ++ body asked r)

items_are : (asked : Asked) (r : Parts) → items_of asked r ≡ whole asked r
items_are asked r = ap (λ (xs : List Item). head_items asked ++ xs) (append_assoc (map ProblemLine (problem_lines r.problem)) (answer_items r.answer) (log_items asked r))

whole_feed : (asked : Asked) (r : Parts) → AllByRecursion HasNoFeed (whole asked r)
whole_feed asked r =
    each_append HasNoFeed (head_items asked) (map ProblemLine (problem_lines r.problem) ++ body asked r) (tt, (tt, (tt, (tt, tt))))
    (each_append HasNoFeed (map ProblemLine (problem_lines r.problem)) (body asked r) (problem_feed r.problem)
    (each_append HasNoFeed (answer_items r.answer) (later (setting_in asked r.problem) r.answer r.steps r.shown) (answer_feed r.answer) (later_feed (setting_in asked r.problem) r.answer r.steps r.shown)))

-- two reports of one text have the same lines
whole_same : (text : List ℕ) (a b : Asked) (r s : Parts) → text ≡ report_text a r → text ≡ report_text b s → Same (whole a r) (whole b s)
whole_same text a b r s e f =
    let xs : List Item = whole a r in
    let ys : List Item = whole b s in
    let first : pieces_of text ≡ map item_line xs ++ [] ∷ [] = ap pieces_of (e ∙ ap items_text (items_are a r)) ∙ pieces_are xs (are_plain xs (whole_feed a r)) in
    let second : pieces_of text ≡ map item_line ys ++ [] ∷ [] = ap pieces_of (f ∙ ap items_text (items_are b s)) ∙ pieces_are ys (are_plain ys (whole_feed b s)) in
    append_cancel_right (map item_line xs) (map item_line ys) ([] ∷ []) (sym first ∙ second)

-- the problem

is_ac : List ℕ → Bool
is_ac [] = false
is_ac (b ∷ w) = (b == 97) || (b == 99)

abbrev all_ac : List (List ℕ) → Bool
all_ac ls = list_all is_ac ls

abbrev IsNext : List (List ℕ) → Type 0
IsNext [] = Unit {0}
IsNext (l ∷ ls) = is_ac l ≡ false

no_next : (l : List ℕ) (ls ms : List (List ℕ)) → IsNext ms → ms ≡ l ∷ ls → is_ac l ≡ true → ⊥
no_next l ls ms h e f =
    let g : is_ac l ≡ false = subst IsNext e h in
    let x : true ≡ false = sym f ∙ g in absurd (cc)

split_same : (ps qs ts us : List (List ℕ)) → all_ac ps ≡ true → all_ac qs ≡ true → IsNext ts → IsNext us → ps ++ ts ≡ qs ++ us → (ps ≡ qs) × (ts ≡ us)
split_same [] [] ts us h k i j e = (refl, e)
split_same [] (q ∷ qs) ts us h k i j e = absurd (no_next q (qs ++ us) ts i e (and_left (is_ac q) (all_ac qs) k))
split_same (p ∷ ps) [] ts us h k i j e = absurd (no_next p (ps ++ ts) us j (sym e) (and_left (is_ac p) (all_ac ps) h))
split_same (p ∷ ps) (q ∷ qs) ts us h k i j e =
    let r = split_same ps qs ts us (and_right (is_ac p) (all_ac ps) h) (and_right (is_ac q) (all_ac qs) k) i j (line_tail p q (ps ++ ts) (qs ++ us) e) in
    (cons_is p q ps qs (first_words p q (ps ++ ts) (qs ++ us) e) r.0, r.1)

agents_ac : (names : List (List ℕ)) (agents : List Agent) → all_ac (map (agent_line names) agents) ≡ true
unfolding is_ac
agents_ac names [] = refl
agents_ac names (a ∷ agents) = agents_ac names agents

asks_ac : (names : List (List ℕ)) (fs : List Formula) → all_ac (map (ask_line names) fs) ≡ true
unfolding is_ac
asks_ac names [] = refl
asks_ac names (f ∷ fs) = asks_ac names fs

problem_ac : (p : Problem) → all_ac (problem_lines p) ≡ true
unfolding is_ac
problem_ac p =
    let names : List (List ℕ) = names_of p.atoms in
    list_all-append is_ac (map (agent_line names) p.agents) (map (ask_line names) p.asks)
    ∙ and_both (all_ac (map (agent_line names) p.agents)) (all_ac (map (ask_line names) p.asks)) (agents_ac names p.agents) (asks_ac names p.asks)

named_next : (a : Option (List Bool)) (xs : List Item) → IsNext (map item_line (named_item TheConstraint a ∷ xs))
unfolding is_ac
named_next None xs = refl
named_next (Some w) xs = refl

answer_next : (a : Answer) (xs : List Item) → IsNext (map item_line (answer_items a ++ xs))
unfolding is_ac
answer_next (Merged best measure verdicts) xs = refl
answer_next (Inconsistent constraint agents) xs = named_next constraint (base_items 0 agents ++ xs)
answer_next GaveUp xs = refl

problem_items : (ls : List (List ℕ)) → map item_line (map ProblemLine ls) ≡ ls
problem_items [] = refl
problem_items (l ∷ ls) = cons_is (item_line (ProblemLine l)) l (map item_line (map ProblemLine ls)) ls (line_of_words l) (problem_items ls)

cut_at : (ls : List (List ℕ)) (xs : List Item) → map item_line (map ProblemLine ls ++ xs) ≡ ls ++ map item_line xs
cut_at ls xs = map-append item_line (map ProblemLine ls) xs ∙ ap (λ (ms : List (List ℕ)). ms ++ map item_line xs) (problem_items ls)

problem_same : (p q : Problem) → problem_lines p ≡ problem_lines q → SameProblem p q
problem_same p q e =
    let texts : problem_text p ≡ problem_text q = ap lines_text e in
    one_problem (problem_text p) p q (canonical_spelled p) (subst (λ (t : List ℕ). Spelled t q) (sym texts) (canonical_spelled q))

-- the whole

distance_is : (a b : DistanceName) → DistanceLine a ≡ DistanceLine b → a ≡ b
distance_is a b e = cc

aggregator_is : (a b : AggregatorName) → AggregatorLine a ≡ AggregatorLine b → a ≡ b
aggregator_is a b e = cc

conflicts_is : (a b : ℕ) → ConflictsLine a ≡ ConflictsLine b → a ≡ b
conflicts_is a b e = cc

asked_by : (d e : DistanceName) (g h : AggregatorName) (m n : ℕ) → d ≡ e → g ≡ h → m ≡ n →
    (let v : Asked = record { distance = d; aggregator = g; conflicts = m } in
    let w : Asked = record { distance = e; aggregator = h; conflicts = n } in v ≡ w)
asked_by d e g h m n i j k = cc

asked_is : (a b : Asked) → a.distance ≡ b.distance → a.aggregator ≡ b.aggregator → a.conflicts ≡ b.conflicts → a ≡ b
asked_is a b e f g = asked_by a.distance b.distance a.aggregator b.aggregator a.conflicts b.conflicts e f g

setting_by : (a b : Asked) (xs ys : List (List ℕ)) (c f : Formula) (us vs : List Agent) (ps qs : List Formula) → a ≡ b → xs ≡ ys → c ≡ f → us ≡ vs → ps ≡ qs →
    (let v : Setting = record { distance = a.distance; aggregator = a.aggregator; conflicts = a.conflicts; draft = record { atoms = xs; constraint = Some c; agents = us; asks = ps } } in
    let w : Setting = record { distance = b.distance; aggregator = b.aggregator; conflicts = b.conflicts; draft = record { atoms = ys; constraint = Some f; agents = vs; asks = qs } } in v ≡ w)
setting_by a b xs ys c f us vs ps qs e g h i j = cc

setting_same : (a b : Asked) (p q : Problem) → a ≡ b → SameProblem p q → setting_in a p ≡ setting_in b q
setting_same a b p q e h = setting_by a b p.atoms q.atoms p.constraint q.constraint p.agents q.agents p.asks q.asks e h.atoms h.constraint h.agents h.asks

body_same : (s : Setting) (a b : Answer) (ss ts : List Step) (ns ms : List ℕ) → Fits s a ss ns → Fits s b ts ms → Same (answer_items a ++ later s a ss ns) (answer_items b ++ later s b ts ms)
    → (a ≡ b) × (ss ≡ ts) × (ns ≡ ms)
body_same s a b ss ts ns ms h k e =
    let r = answers_same s a b (later s a ss ns) (later s b ts ms) h.answer k.answer e in
    let l = log_same s a b ss ts ns ms h k r.0 r.1 in
    (r.0, l.0, l.1)

pub one_parts : (text : List ℕ) (a b : Asked) (r s : Parts) → HasParts text a r → HasParts text b s → AreSame a b r s
one_parts text a b r s h k =
    let e0 : Same (whole a r) (whole b s) = whole_same text a b r s h.spelled k.spelled in
    let xs : List Item = map ProblemLine (problem_lines r.problem) ++ body a r in
    let ys : List Item = map ProblemLine (problem_lines s.problem) ++ body b s in
    let xs3 : List Item = ConflictsLine a.conflicts ∷ xs in
    let ys3 : List Item = ConflictsLine b.conflicts ∷ ys in
    let xs2 : List Item = AggregatorLine a.aggregator ∷ xs3 in
    let ys2 : List Item = AggregatorLine b.aggregator ∷ ys3 in
    let xs1 : List Item = DistanceLine a.distance ∷ xs2 in
    let ys1 : List Item = DistanceLine b.distance ∷ ys2 in
    let e1 : Same xs1 ys1 = rest_same HeadLine HeadLine xs1 ys1 e0 in
    let e2 : Same xs2 ys2 = rest_same (DistanceLine a.distance) (DistanceLine b.distance) xs2 ys2 e1 in
    let e3 : Same xs3 ys3 = rest_same (AggregatorLine a.aggregator) (AggregatorLine b.aggregator) xs3 ys3 e2 in
    let e4 : Same xs ys = rest_same (ConflictsLine a.conflicts) (ConflictsLine b.conflicts) xs ys e3 in
    let d = same_item due.Distance start (DistanceLine a.distance) (DistanceLine b.distance) tt tt (a.distance, refl) (b.distance, refl) (first_same (DistanceLine a.distance) (DistanceLine b.distance) xs2 ys2 e1) in
    let g = same_item due.Aggregator start (AggregatorLine a.aggregator) (AggregatorLine b.aggregator) tt tt (a.aggregator, refl) (b.aggregator, refl) (first_same (AggregatorLine a.aggregator) (AggregatorLine b.aggregator) xs3 ys3 e2) in
    let c = same_item due.Conflicts start (ConflictsLine a.conflicts) (ConflictsLine b.conflicts) tt tt (a.conflicts, refl, h.form.some_conflict, h.form.few_conflicts) (b.conflicts, refl, k.form.some_conflict, k.form.few_conflicts)
    (first_same (ConflictsLine a.conflicts) (ConflictsLine b.conflicts) xs ys e3) in
    let asked : a ≡ b = asked_is a b (distance_is a.distance b.distance d) (aggregator_is a.aggregator b.aggregator g) (conflicts_is a.conflicts b.conflicts c) in
    let cut = split_same (problem_lines r.problem) (problem_lines s.problem) (map item_line (body a r)) (map item_line (body b s)) (problem_ac r.problem) (problem_ac s.problem)
    (answer_next r.answer (later (setting_in a r.problem) r.answer r.steps r.shown)) (answer_next s.answer (later (setting_in b s.problem) s.answer s.steps s.shown))
    (sym (cut_at (problem_lines r.problem) (body a r)) ∙ (e4 ∙ cut_at (problem_lines s.problem) (body b s))) in
    let problem : SameProblem r.problem s.problem = problem_same r.problem s.problem cut.0 in
    let u : Setting = setting_in a r.problem in
    let same : setting_in b s.problem ≡ u = sym (setting_same a b r.problem s.problem asked problem) in
    let fits : Fits u s.answer s.steps s.shown = subst (λ (v : Setting). Fits v s.answer s.steps s.shown) same (form_fits b s k.form) in
    let lines : Same (body a r) (answer_items s.answer ++ later u s.answer s.steps s.shown) = subst (λ (v : Setting). Same (body a r) (answer_items s.answer ++ later v s.answer s.steps s.shown)) same cut.1 in
    let all = body_same u r.answer s.answer r.steps s.steps r.shown s.shown (form_fits a r h.form) fits lines in
    record { asked = asked; problem = problem; answer = all.0; steps = all.1; shown = all.2 }
