-- The answer of a report, from its first line on.
use Rattle.std.proofs.Common.{◌≡◌, ℕ, nat_lt, Bool, true, inl, inr, List, [], ◌∷◌, ◌++◌, length, None, Some, refl, ap, sym, subst, ◌∙◌, append_assoc}
use Rattle.std.specs.Prelude.{All}
use Rattle.std.specs.List.{AllZip, AllByRecursion}
use Rattle.std.proofs.lemmas.List.{length-map}
use Rattle.std.proofs.lemmas.List.Elements.{All-from_recursion}
use Rattle.std.proofs.lemmas.Slice.Eq.{bytes_eq-Decides}
use Rattle.std.proofs.lemmas.Slice.Zip.{AllZip-long}
use Rattle.clause_store.proofs.Truths.{and_left, and_right, or_right}
use Rattle.formulas.specs.Formulas as formulas
use Rattle.merge_model.specs.declared.agent.Agent.{Agent}
use Rattle.merge_model.specs.declared.answer.Answer.{Answer}
use Rattle.merge_model.specs.declared.answer.Answer.TheVariants.{Merged, Inconsistent, GaveUp}
use Rattle.merge_model.specs.declared.answer.Shown.{Shown}
use Rattle.merge_model.specs.declared.answer.Verdict.{Verdict}
use Rattle.report_words.specs.Numbers.{HasNumeral}
use Rattle.report_lines.specs.declared.kinds.Due.{Due}
use Rattle.report_lines.specs.declared.kinds.Due.TheVariants as due
use Rattle.report_lines.specs.declared.kinds.Kind.{Kind}
use Rattle.report_lines.specs.declared.kinds.Kind.TheVariants as kind
use Rattle.report_lines.specs.declared.kinds.Subject.TheVariants.{TheConstraint}
use Rattle.report_lines.specs.ClaimsDue.{DueClaim, of_first, lack_of, far_claims, least_claims, verdict_claims, claims_due}
use Rattle.report_lines.specs.Accepted.{IsWitness, IsWitnessedVerdict, IsWitnessedMerge, IsWitnessedEntry, IsWitnessedNaming}
use Rattle.report_lines.specs.Items.{Item, ModelLine, MeasureLine, NoModelLine, HasModelLine, GaveUpLine}
use Rattle.report_lines.specs.Places.{Position, DueAt, IsModelLine, IsAnswerLine}
use Rattle.report_lines.specs.Holding.{breaks}
use Rattle.report_lines.specs.Following.{LeadsTo, after}
use Rattle.report_lines.specs.Judged.{Run}
use Rattle.report_lines.specs.Parts.{kind_of_answer, answer_items, shown_items, verdict_items}
use Rattle.report_text.proofs.PartsPlaces.{Next, next, first_is}
use Rattle.report_text.proofs.PartsMain.{Tail, main_rest}
use Rattle.report_text.proofs.PartsShown.{Setting, profile_in, op_in, main_in, values_of, rank_in, ShownFits, shown_with, Block, shown_rest}
use Rattle.report_text.proofs.PartsVerdicts.{judging, VerdictFits, VerdictRest, verdicts_rest}
use Rattle.report_text.proofs.PartsNamed.{naming, due_named, is_open, EntryFits, NamedRest, named_rest, none_there}

-- the place before an answer
abbrev pub fresh : Setting → Due → Position
fresh s d = judging s d 0 [] [] [] []

-- how many entries there are in an answer
abbrev pub AnswerFits : Setting → Answer → Type 0
AnswerFits s (Merged best measure verdicts) =
    ShownFits (length s.draft.atoms) (length s.draft.agents) best × (length measure ≡ length (rank_in s best.vector)) × All HasNumeral measure
    × (length verdicts ≡ length s.draft.asks) × AllByRecursion (VerdictFits (length s.draft.atoms) (length s.draft.agents)) verdicts
AnswerFits s (Inconsistent constraint agents) = EntryFits (length s.draft.atoms) constraint × (length agents ≡ length s.draft.agents) × AllByRecursion (EntryFits (length s.draft.atoms)) agents
AnswerFits s GaveUp = Unit {0}

-- what plain evaluation says of an answer
abbrev pub WitnessedBy : Setting → Answer → Type 0
WitnessedBy s (Merged best measure verdicts) = IsWitnessedMerge (op_in s) (profile_in s) s.draft.asks best measure verdicts
WitnessedBy s (Inconsistent constraint agents) = IsWitnessedNaming (profile_in s) constraint agents
WitnessedBy s GaveUp = Unit {0}

-- an answer, and what follows it
pub record Answered (last : Kind) (s : Setting) (xs : List Item) : Type 0 where
  pub answer : Answer
  pub tail : List Item
  pub items : xs ≡ answer_items answer ++ tail
  pub is_tail : Tail last (main_in s) s.conflicts (kind_of_answer answer) (claims_due (values_of s) answer) tail
  pub fits : AnswerFits s answer
  pub witnessed : WitnessedBy s answer

merged_items : (shown : Shown) (measure : List ℕ) (verdicts : List Verdict) (xs tail : List Item) → xs ≡ MeasureLine measure ∷ (verdict_items 0 verdicts ++ tail) → shown_items shown ++ xs ≡ answer_items (Merged shown measure verdicts) ++ tail
merged_items shown measure verdicts xs tail e = ap (λ (ys : List Item). shown_items shown ++ ys) e

module _ (s : Setting) where
  -- an answer that merges, after its model, vector and nearest models
  measure_rest : (shown : Shown) (xs : List Item) (end : Position) → ShownFits (length s.draft.atoms) (length s.draft.agents) shown → IsWitness (op_in s) (profile_in s) shown
      → Run (judging s due.Measure 0 shown.model shown.vector shown.vector (far_claims 0 shown.model shown.vector)) xs end → end.due ≡ due.Over → Answered end.kind s (shown_items shown ++ xs)
  measure_rest shown xs end fits witness r over =
      let far : List DueClaim = far_claims 0 shown.model shown.vector in
      let values : List ℕ = values_of s shown.vector in
      let p : Position = judging s due.Measure 0 shown.model shown.vector shown.vector far in
      let n : Next due.Measure p end xs = next due.Measure p end xs refl refl over r in
      let d : DueAt due.Measure p n.item = n.of in
      let l : LeadsTo p (MeasureLine d.0) n.place = subst (λ (y : Item). LeadsTo p y n.place) d.1 n.leads in
      let r2 : Run (after p (MeasureLine d.0)) n.rest end = subst (λ (m : Position). Run m n.rest end) l.1 n.run in
      let same : d.0 ≡ rank_in s shown.vector = (bytes_eq-Decides d.0 (rank_in s shown.vector)).0 l.0 in
      let v : VerdictRest end.kind s shown.vector 0 (far ++ least_claims values) s.draft.asks n.rest =
      verdicts_rest s shown.vector s.draft.asks 0 end refl over shown.model shown.vector (far ++ least_claims values) n.rest r2 in
      record {
        answer = Merged shown d.0 v.verdicts;
        tail = v.tail;
        items = merged_items shown d.0 v.verdicts xs v.tail (first_is n.item (MeasureLine d.0) xs n.rest (verdict_items 0 v.verdicts ++ v.tail) n.whole d.1 v.items);
        is_tail = subst (λ (cs : List DueClaim). Tail end.kind (main_in s) s.conflicts kind.Merged cs v.tail) (append_assoc far (least_claims values) (verdict_claims values 0 v.verdicts)) v.is_tail;
        fits = (fits, d.2, All-from_recursion HasNumeral d.0 d.3, AllZip-long (IsWitnessedVerdict (op_in s) (profile_in s) (rank_in s shown.vector)) s.draft.asks v.verdicts v.judged, v.fits);
        witnessed = record {
          first = witness;
          measured = same;
          judged = subst (λ (m : List ℕ). AllZip (IsWitnessedVerdict (op_in s) (profile_in s) m) s.draft.asks v.verdicts) (sym same) v.judged;
        };
      }

  merged_rest : (d : Due) (x : Item) (xs : List Item) (m end : Position) → IsModelLine (fresh s d) x → LeadsTo (fresh s d) x m → Run m xs end → end.due ≡ due.Over → Answered end.kind s (x ∷ xs)
  merged_rest d x xs m end h l r over =
      let p : Position = fresh s d in
      let w : List Bool = h.0 in
      let l2 : LeadsTo p (ModelLine w) m = subst (λ (y : Item). LeadsTo p y m) h.1 l in
      let r2 : Run (after p (ModelLine w)) xs end = subst (λ (n : Position). Run n xs end) l2.1 r in
      let is_model : formulas.holds (profile_in s).constraint w ≡ true = and_left (formulas.holds (profile_in s).constraint w) (breaks p w) l2.0 in
      let b : Block p true w end xs = shown_rest p end true w xs refl h.2 is_model r2 over in
      subst (λ (ys : List Item). Answered end.kind s ys) (sym (ap (λ (y : Item). y ∷ xs) h.1 ∙ ap (λ (ys : List Item). ModelLine w ∷ ys) b.items))
      (measure_rest (shown_with w b.vector b.nearest) b.rest end b.fits b.witness b.run over)

  none_first : (d : Due) (x : Item) (xs : List Item) (m end : Position) → x ≡ NoModelLine TheConstraint → LeadsTo (fresh s d) x m → Run m xs end → end.due ≡ due.Over → Answered end.kind s (x ∷ xs)
  none_first d x xs m end h l r over =
      let p : Position = fresh s d in
      let first : List DueClaim = of_first (lack_of TheConstraint) ∷ [] in
      let l2 : LeadsTo p (NoModelLine TheConstraint) m = subst (λ (y : Item). LeadsTo p y m) h l in
      let r2 : Run (naming s (due_named s 0) 0 first) xs end = subst (λ (n : Position). Run n xs end) l2.1 r in
      let v : NamedRest end.kind s 0 first (profile_in s).bases xs = named_rest s (profile_in s).bases 0 end refl over first xs (or_right (nat_lt 0 (length s.draft.agents)) true refl) r2 in
      let long : length v.entries ≡ length (profile_in s).bases = AllZip-long (IsWitnessedEntry (length s.draft.atoms)) (profile_in s).bases v.entries v.witnessed in
      record {
        answer = Inconsistent None v.entries;
        tail = v.tail;
        items = ap (λ (y : Item). y ∷ xs) h ∙ ap (λ (ys : List Item). NoModelLine TheConstraint ∷ ys) v.items;
        is_tail = v.is_tail;
        fits = (tt, long ∙ length-map s.draft.agents (λ (a : Agent). a.base), v.fits);
        witnessed = record { constraint_entry = tt; base_entries = v.witnessed; some_none = inl refl };
      }

  some_first : (d : Due) (x : Item) (xs : List Item) (m end : Position) (w : List Bool) → x ≡ HasModelLine TheConstraint w → length w ≡ length s.draft.atoms → LeadsTo (fresh s d) x m → Run m xs end → end.due ≡ due.Over
      → Answered end.kind s (x ∷ xs)
  some_first d x xs m end w h size l r over =
      let p : Position = fresh s d in
      let l2 : LeadsTo p (HasModelLine TheConstraint w) m = subst (λ (y : Item). LeadsTo p y m) h l in
      let r2 : Run (naming s (due_named s 0) 0 []) xs end = subst (λ (n : Position). Run n xs end) l2.1 r in
      let is_model = and_left (formulas.holds (profile_in s).constraint w) (is_open s 0 []) l2.0 in
      let still = and_right (formulas.holds (profile_in s).constraint w) (is_open s 0 []) l2.0 in
      let v : NamedRest end.kind s 0 [] (profile_in s).bases xs = named_rest s (profile_in s).bases 0 end refl over [] xs still r2 in
      let long : length v.entries ≡ length (profile_in s).bases = AllZip-long (IsWitnessedEntry (length s.draft.atoms)) (profile_in s).bases v.entries v.witnessed in
      record {
        answer = Inconsistent (Some w) v.entries;
        tail = v.tail;
        items = ap (λ (y : Item). y ∷ xs) h ∙ ap (λ (ys : List Item). HasModelLine TheConstraint w ∷ ys) v.items;
        is_tail = v.is_tail;
        fits = (size, long ∙ length-map s.draft.agents (λ (a : Agent). a.base), v.fits);
        witnessed = record { constraint_entry = record { size = size; true_there = is_model }; base_entries = v.witnessed; some_none = inr (none_there 0 v.entries v.some_claim) };
      }

  gave_up_rest : (d : Due) (x : Item) (xs : List Item) (m end : Position) → x ≡ GaveUpLine → LeadsTo (fresh s d) x m → Run m xs end → end.due ≡ due.Over → Answered end.kind s (x ∷ xs)
  gave_up_rest d x xs m end h l r over =
      let p : Position = fresh s d in
      let l2 : LeadsTo p GaveUpLine m = subst (λ (y : Item). LeadsTo p y m) h l in
      let r2 : Run (after p GaveUpLine) xs end = subst (λ (n : Position). Run n xs end) l2.1 r in
      record {
        answer = GaveUp;
        tail = xs;
        items = ap (λ (y : Item). y ∷ xs) h;
        is_tail = main_rest (after p GaveUpLine) end xs r2 refl refl over;
        fits = tt;
        witnessed = tt;
      }

  pub answer_rest : (d : Due) (x : Item) (xs : List Item) (m end : Position) → IsAnswerLine (fresh s d) x → LeadsTo (fresh s d) x m → Run m xs end → end.due ≡ due.Over → Answered end.kind s (x ∷ xs)
  answer_rest d x xs m end (inl h) l r over = merged_rest d x xs m end h l r over
  answer_rest d x xs m end (inr (inl (inl h))) l r over = none_first d x xs m end h l r over
  answer_rest d x xs m end (inr (inl (inr h))) l r over = some_first d x xs m end h.0 h.1 h.2 l r over
  answer_rest d x xs m end (inr (inr h)) l r over = gave_up_rest d x xs m end h l r over
