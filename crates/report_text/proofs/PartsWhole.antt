-- An accepted text has the parts of a report.
use Rattle.std.proofs.Common.{◌≡◌, ◌≢◌, arith, ℕ, ◌≤◌, List, [], ◌∷◌, ◌++◌, length, map, ◌⊎◌, unwrap_or, refl, ap, sym, subst, ◌∙◌, append_assoc}
use Rattle.std.specs.List.{AllByRecursion, join_with_byte}
use Rattle.std.proofs.lemmas.List.Elements.{All-from_recursion}
use Rattle.std.proofs.lemmas.List.Splits.{join_with_byte-slice_split}
use Rattle.std.proofs.lemmas.Slice.Zip.{AllZip-long}
use Rattle.formulas.specs.declared.formula.Formula as formula
use Rattle.merge_model.specs.declared.answer.Answer.{Answer}
use Rattle.merge_model.specs.declared.answer.Answer.TheVariants.{Merged, Inconsistent, GaveUp}
use Rattle.merge_model.specs.declared.answer.Shown.{Shown}
use Rattle.merge_model.specs.declared.answer.Verdict.{Verdict}
use Rattle.merge_model.specs.declared.answer.Verdict.TheVariants.{Yes, No}
use Rattle.merge_model.specs.declared.operator.AggregatorName.{AggregatorName}
use Rattle.merge_model.specs.declared.operator.DistanceName.{DistanceName}
use Rattle.merge_model.specs.declared.operator.AggregatorName.TheVariants.{Sum, Max, Leximax}
use Rattle.merge_model.specs.declared.operator.DistanceName.TheVariants.{Drastic, Hamming}
use Rattle.merge_model.specs.declared.problem.Problem.{Problem}
use Rattle.merge_model.specs.Answers.{dist_named, rank_named, profile_of, IsRight, IsNamed}
use Rattle.merge_model.specs.Limits.{KeepsLimits}
use Rattle.merge_encoding.specs.MainDues.{MainDue}
use Rattle.merge_encoding.specs.Assumptions.{assumed}
use Rattle.derivation_log.specs.declared.step.Step.{Step}
use Rattle.profile_text.specs.ProblemText.{problem_lines, lines_text}
use Rattle.problem_reading.specs.Drafts.{Draft}
use Rattle.problem_reading.specs.Spelling.{IsProblemOf}
use Rattle.problem_laws.proofs.Kept.{keeps_so_far, keeps_limits}
use Rattle.problem_laws.proofs.Ordered.{in_order}
use Rattle.report_words.specs.Numbers.{HasNumeral}
use Rattle.report_lines.specs.declared.kinds.Kind.{Kind}
use Rattle.report_lines.specs.ClaimsDue.{claims_due}
use Rattle.report_lines.specs.Accepted.{Operator, Parts, AreAccepted, Shows, main_of, log_of, values_in}
use Rattle.report_lines.specs.Operators.{operator_named}
use Rattle.report_lines.specs.Items.{Item, ProblemLine, item_line}
use Rattle.report_lines.specs.Judged.{IsAccepted, EndsBy, pieces_of}
use Rattle.report_lines.specs.Places.{conflict_limit}
use Rattle.report_lines.specs.Parts.{Asked, items_text, operator_of, claims_of, kind_of_answer, answer_items, head_items, log_items, items_of, HasShownForm, HasVerdictForm, HasEntryForm, HasAnswerForm, HasForm, HasParts}
use Rattle.report_lines.proofs.ItemsLaw.{items_are}
use Rattle.report_text.specs.PartsLaws.{BearsOut, IsBorneOut}
use Rattle.report_text.proofs.PartsMain.{Tail}
use Rattle.report_text.proofs.PartsShown.{ShownFits, values_of}
use Rattle.report_text.proofs.PartsVerdicts.{VerdictFits}
use Rattle.report_text.proofs.PartsAnswer.{AnswerFits, WitnessedBy, Answered}
use Rattle.report_text.proofs.PartsProblem.{Line, setting, ProblemRest}
use Rattle.report_text.proofs.WrittenLog.{main_is}
use Rattle.report_text.proofs.PartsHead.{HeadRest, head_rest, problem_rest}

-- the text of lines

joined : (ls : List Line) → join_with_byte 10 (ls ++ [] ∷ []) ≡ lines_text ls
joined [] = refl
joined (l ∷ []) = sym (append_assoc l (10 ∷ []) [])
joined (l ∷ m ∷ ls) = ap (λ (text : List ℕ). l ++ (10 ∷ text)) (joined (m ∷ ls)) ∙ sym (append_assoc l (10 ∷ []) (lines_text (m ∷ ls)))

text_is : (text : List ℕ) (ls : List Line) → pieces_of text ≡ ls ++ [] ∷ [] → text ≡ lines_text ls
text_is text ls e = sym (join_with_byte-slice_split 10 text) ∙ (ap (join_with_byte 10) e ∙ joined ls)

text_of : (text : List ℕ) (xs ys : List Item) → pieces_of text ≡ map item_line xs ++ [] ∷ [] → xs ≡ ys → text ≡ items_text ys
text_of text xs ys e f = text_is text (map item_line xs) e ∙ ap items_text f

not_empty : {A : Type 0} (xs : List A) → 1 ≤ length xs → xs ≢ []
not_empty [] h e = omega arith
not_empty (x ∷ xs) h e = cc

-- what bears out an answer of an accepted report
abbrev pub TrueFor : DistanceName → AggregatorName → Type 0
TrueFor distance aggregator = (parts : Parts) → AreAccepted (operator_named distance aggregator parts.problem.atoms) parts →
    IsRight (dist_named distance parts.problem.atoms) (rank_named aggregator) parts.problem parts.answer ⊎ IsNamed parts.problem parts.answer

abbrev pub TrueByNames : Type 0
TrueByNames = (distance : DistanceName) (aggregator : AggregatorName) → TrueFor distance aggregator

pub by_names : TrueFor Drastic Sum → TrueFor Drastic Max → TrueFor Drastic Leximax → TrueFor Hamming Sum → TrueFor Hamming Max → TrueFor Hamming Leximax → TrueByNames
by_names a b c e f g Drastic Sum = a
by_names a b c e f g Drastic Max = b
by_names a b c e f g Drastic Leximax = c
by_names a b c e f g Hamming Sum = e
by_names a b c e f g Hamming Max = f
by_names a b c e f g Hamming Leximax = g

abbrev pub FormOf : Draft → Type 0
FormOf d = KeepsLimits d.atoms (unwrap_or d.constraint formula.Top) d.agents d.asks

abbrev pub made : (d : Draft) → FormOf d → Problem
made d limits = record { atoms = d.atoms; constraint = unwrap_or d.constraint formula.Top; agents = d.agents; asks = d.asks; limits = limits }

abbrev pub parts_with : (d : Draft) → FormOf d → Answer → List Step → List ℕ → Parts
parts_with d limits answer steps shown = record { problem = made d limits; answer = answer; steps = steps; shown = shown }

module _ (asked : Asked) (d : Draft) (limits : FormOf d) (answer : Answer) (steps : List Step) (shown : List ℕ) where
  abbrev R : Parts
  R = parts_with d limits answer steps shown

  shown_form : (s : Shown) → ShownFits (length d.atoms) (length d.agents) s → HasShownForm R s
  shown_form s h = record { model = h.model; entries = h.entries; numbers = h.numbers; nearest = h.nearest; over = h.over }

  verdict_form : (v : Verdict) → VerdictFits (length d.atoms) (length d.agents) v → HasVerdictForm R v
  verdict_form Yes h = tt
  verdict_form (No s) h = shown_form s h

  verdict_forms : (vs : List Verdict) → AllByRecursion (VerdictFits (length d.atoms) (length d.agents)) vs → AllByRecursion (HasVerdictForm R) vs
  verdict_forms [] h = tt
  verdict_forms (v ∷ vs) h = (verdict_form v h.0, verdict_forms vs h.1)

  answer_form : (a : Answer) → AnswerFits (setting asked d) a → HasAnswerForm asked R a
  answer_form (Merged best measure verdicts) h = (shown_form best h.0, h.1, h.2, h.3, All-from_recursion (HasVerdictForm R) verdicts (verdict_forms verdicts h.4))
  answer_form (Inconsistent constraint agents) h = (h.0, h.1, All-from_recursion (HasEntryForm R) agents h.2)
  answer_form GaveUp h = tt

-- what bears an answer out

module _ (law : TrueByNames) (asked : Asked) (d : Draft) (limits : FormOf d) where
  abbrev Op : Operator
  Op = operator_named asked.distance asked.aggregator d.atoms

  abbrev Main : MainDue
  Main = main_of Op (made d limits)

  abbrev Ends : Kind → Answer → List Item → Type 0
  Ends last answer xs = Tail last Main asked.conflicts (kind_of_answer answer) (claims_due (values_in Op (profile_of (made d limits))) answer) xs

  borne_by : (last : Kind) (answer : Answer) (xs : List Item) (t : Ends last answer xs) → WitnessedBy (setting asked d) answer → BearsOut answer asked (parts_with d limits answer t.steps t.shown)
  borne_by last (Merged best measure verdicts) xs t w =
      let r : Parts = parts_with d limits (Merged best measure verdicts) t.steps t.shown in
      let a : AreAccepted (operator_of asked r) r = record { sound = t.sound; witnessed = w; shown = t.shows } in
      record { accepted = a; right = law asked.distance asked.aggregator r a }
  borne_by last (Inconsistent constraint agents) xs t w =
      let r : Parts = parts_with d limits (Inconsistent constraint agents) t.steps t.shown in
      let a : AreAccepted (operator_of asked r) r = record { sound = t.sound; witnessed = w; shown = t.shows } in
      record { accepted = a; right = law asked.distance asked.aggregator r a }
  borne_by last GaveUp xs t w = record { answer = refl; sound = t.sound; spent = t.spends }

  form_by : (last : Kind) (answer : Answer) (xs : List Item) (t : Ends last answer xs) → 1 ≤ asked.conflicts → asked.conflicts ≤ conflict_limit → AnswerFits (setting asked d) answer
      → HasForm asked (parts_with d limits answer t.steps t.shown)
  form_by last answer xs t some few fits =
      let r : Parts = parts_with d limits answer t.steps t.shown in
      record {
        some_conflict = some;
        few_conflicts = few;
        answer = answer_form asked d limits answer t.steps t.shown answer fits;
        vars = t.vars;
        lines = t.lines;
        clauses = t.clauses;
        proofs = AllZip-long (λ claim number. Shows (log_of (operator_of asked r) r) (assumed (main_of (operator_of asked r) r.problem) claim.says) number) (claims_of asked r) t.shown t.shows;
        numbers = All-from_recursion HasNumeral t.shown t.numbers;
      }

  -- the items of the parts

  items_by : (last : Kind) (answer : Answer) (xs rest middle tail : List Item) (lines : List Line) (t : Ends last answer tail) → xs ≡ head_items asked ++ rest → rest ≡ map ProblemLine lines ++ middle
      → middle ≡ answer_items answer ++ tail → lines ≡ problem_lines (made d limits) → xs ≡ items_of asked (parts_with d limits answer t.steps t.shown)
  items_by last answer xs rest middle tail lines t a b c e =
      let r : Parts = parts_with d limits answer t.steps t.shown in
      let all : rest ≡ (map ProblemLine lines ++ answer_items answer) ++ log_items asked r =
      b ∙ (ap (λ (ys : List Item). map ProblemLine lines ++ ys) (c ∙ ap (λ (ys : List Item). answer_items answer ++ ys) t.items) ∙ sym (append_assoc (map ProblemLine lines) (answer_items answer) (log_items asked r))) in
      a ∙ (ap (λ (ys : List Item). head_items asked ++ ys) all ∙ ap (λ (ls : List Line). head_items asked ++ ((map ProblemLine ls ++ answer_items answer) ++ log_items asked r)) e)

abbrev pub HasPartsOf : List ℕ → Kind → Type 0
HasPartsOf text k = (asked : Asked) × (r : Parts) × HasParts text asked r × (kind_of_answer r.answer ≡ k) × IsBorneOut asked r

has_parts : TrueByNames → (text : List ℕ) (k : Kind) (xs : List Item) → pieces_of text ≡ map item_line xs ++ [] ∷ [] → EndsBy xs k → HasPartsOf text k
has_parts law text k xs whole e =
    let end = e.place in
    let h : HeadRest end xs = head_rest end e.over xs e.run in
    let asked : Asked = h.asked in
    let p : ProblemRest end.kind asked [] h.rest = problem_rest asked end e.over h.rest h.run in
    let d : Draft = p.draft in
    let limits : FormOf d = keeps_limits d (keeps_so_far p.state.declares) p.some_atom p.some_agent in
    let spell : IsProblemOf d (made d limits) = record { some_atom = not_empty d.atoms p.some_atom; some_agent = not_empty d.agents p.some_agent; atoms = refl; constraint = refl; agents = refl; asks = refl } in
    let lines : p.more ≡ problem_lines (made d limits) = in_order p.more p.place (made d limits) p.state.order (d, p.state.declares, spell) in
    let a : Answered end.kind (setting asked d) p.tail = p.answered in
    let t : Ends law asked d limits end.kind a.answer a.tail =
    subst (λ (m : MainDue). Tail end.kind m asked.conflicts (kind_of_answer a.answer) (claims_due (values_of (setting asked d)) a.answer) a.tail)
    (main_is asked.distance asked.aggregator (profile_of (made d limits)) d.asks) a.is_tail in
    let r : Parts = parts_with d limits a.answer t.steps t.shown in
    let items : xs ≡ items_of asked r = items_by law asked d limits end.kind a.answer xs h.rest p.tail a.tail p.more t h.items p.items a.items lines in (
      asked,
      r,
      record { form = form_by law asked d limits end.kind a.answer a.tail t h.some h.few a.fits; spelled = text_of text xs (items_of asked r) whole items },
      sym t.ended ∙ sym e.answer,
      borne_by law asked d limits end.kind a.answer a.tail t a.witnessed,
    )

pub accepted_parts : TrueByNames → (text : List ℕ) (k : Kind) → IsAccepted text k → HasPartsOf text k
accepted_parts law text k a = let i = items_are text k a in has_parts law text k i.0 i.1 i.2
