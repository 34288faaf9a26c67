-- Answers with the same lines are one.
use Rattle.std.proofs.Common.{◌≡◌, ℕ, ◌+◌, Bool, true, false, inl, inr, List, [], ◌∷◌, ◌++◌, length, map, Option, None, Some, refl, ap, sym, ◌∙◌, arith}
use Rattle.std.specs.List.{AllByRecursion}
use Rattle.std.proofs.lemmas.List.Elements.{recursion_from_All}
use Rattle.merge_model.specs.declared.answer.Answer.{Answer}
use Rattle.merge_model.specs.declared.answer.Answer.TheVariants.{Merged, Inconsistent, GaveUp}
use Rattle.merge_model.specs.declared.answer.Shown.{Shown}
use Rattle.merge_model.specs.declared.answer.Verdict.{Verdict}
use Rattle.merge_model.specs.declared.answer.Verdict.TheVariants.{Yes, No}
use Rattle.report_words.specs.Numbers.{HasNumeral}
use Rattle.report_words.specs.Words.{words_of}
use Rattle.report_lines.specs.declared.kinds.Due.{Due}
use Rattle.report_lines.specs.declared.kinds.Due.TheVariants as due
use Rattle.report_lines.specs.declared.kinds.Subject.{Subject}
use Rattle.report_lines.specs.declared.kinds.Subject.TheVariants.{TheConstraint, BaseOf}
use Rattle.report_lines.specs.Items.{Item, ModelLine, VectorLine, NearestLine, MeasureLine, VerdictLine, GaveUpLine, item_words, item_line}
use Rattle.report_lines.specs.Places.{Position, DueAt, IsOver, IsAnswerLine, IsNamedLine}
use Rattle.report_lines.specs.Parts.{shown_items, verdict_items, named_item, base_items, answer_items}
use Rattle.report_lines.proofs.OneItem.{one_item, first_words}
use Rattle.report_text.proofs.WrittenText.{HasNoFeed, are_plain}
use Rattle.report_text.proofs.PartsShown.{Setting, rank_in, ShownFits, shown_with}
use Rattle.report_text.proofs.PartsVerdicts.{judging, VerdictFits}
use Rattle.report_text.proofs.PartsNamed.{naming, EntryFits}
use Rattle.report_text.proofs.PartsAnswer.{fresh, AnswerFits}
use Rattle.report_text.proofs.WrittenWhole.{named_feed}

-- items with the same lines
abbrev pub Same : List Item → List Item → Type 0
Same xs ys = map item_line xs ≡ map item_line ys

pub line_tail : (l m : List ℕ) (ls ms : List (List ℕ)) → l ∷ ls ≡ m ∷ ms → ls ≡ ms
line_tail l m ls ms e = cc

pub first_same : (x y : Item) (xs ys : List Item) → Same (x ∷ xs) (y ∷ ys) → item_line x ≡ item_line y
first_same x y xs ys e = first_words (item_line x) (item_line y) (map item_line xs) (map item_line ys) e

pub rest_same : (x y : Item) (xs ys : List Item) → Same (x ∷ xs) (y ∷ ys) → Same xs ys
rest_same x y xs ys e = line_tail (item_line x) (item_line y) (map item_line xs) (map item_line ys) e

words_are : (x : Item) → HasNoFeed x → words_of (item_line x) ≡ item_words x
words_are x h = let all = are_plain (x ∷ []) (h, tt) in all.0.words

-- at most one item that is due has a line
pub same_item : (d : Due) (p : Position) (x y : Item) → HasNoFeed x → HasNoFeed y → DueAt d p x → DueAt d p y → item_line x ≡ item_line y → x ≡ y
same_item d p x y h k i j e = one_item d p x y i j (sym (words_are x h) ∙ (ap words_of e ∙ words_are y k))

-- what items have in common

model_is : (w v : List Bool) → ModelLine w ≡ ModelLine v → w ≡ v
model_is w v e = cc

vector_is : (w v : List ℕ) → VectorLine w ≡ VectorLine v → w ≡ v
vector_is w v e = cc

nearest_is : (w v : List (List Bool)) → NearestLine w ≡ NearestLine v → w ≡ v
nearest_is w v e = cc

measure_is : (w v : List ℕ) → MeasureLine w ≡ MeasureLine v → w ≡ v
measure_is w v e = cc

given_is : (q : ℕ) (a b : Bool) → VerdictLine q a ≡ VerdictLine q b → a ≡ b
given_is q a b e = cc

entry_is : (s : Subject) (a b : Option (List Bool)) → named_item s a ≡ named_item s b → a ≡ b
entry_is s None None e = refl
entry_is s None (Some v) e = absurd (cc)
entry_is s (Some w) None e = absurd (cc)
entry_is s (Some w) (Some v) e = cc

shown_is : (w v : List Bool) (ds es : List ℕ) (ws vs : List (List Bool)) → w ≡ v → ds ≡ es → ws ≡ vs → shown_with w ds ws ≡ shown_with v es vs
shown_is w v ds es ws vs e f g = cc

cons_verdicts : (v u : Verdict) (vs us : List Verdict) → v ≡ u → vs ≡ us → v ∷ vs ≡ u ∷ us
cons_verdicts v u vs us e f = cc

cons_entries : (v u : Option (List Bool)) (vs us : List (Option (List Bool))) → v ≡ u → vs ≡ us → v ∷ vs ≡ u ∷ us
cons_entries v u vs us e f = cc

merged_is : (a b : Shown) (m n : List ℕ) (vs us : List Verdict) → a ≡ b → m ≡ n → vs ≡ us → Merged a m vs ≡ Merged b n us
merged_is a b m n vs us e f g = cc

inconsistent_is : (a b : Option (List Bool)) (es fs : List (Option (List Bool))) → a ≡ b → es ≡ fs → Inconsistent a es ≡ Inconsistent b fs
inconsistent_is a b es fs e f = cc

module _ (s : Setting) where
  abbrev ShownFit : Shown → Type 0
  ShownFit a = ShownFits (length s.draft.atoms) (length s.draft.agents) a

  shown_same : (a b : Shown) (xs ys : List Item) → ShownFit a → ShownFit b → Same (shown_items a ++ xs) (shown_items b ++ ys) → (a ≡ b) × Same xs ys
  shown_same a b xs ys h k e =
      let p : Position = fresh s due.Model in
      let e1 : Same (VectorLine a.vector ∷ NearestLine a.nearest ∷ xs) (VectorLine b.vector ∷ NearestLine b.nearest ∷ ys) =
      rest_same (ModelLine a.model) (ModelLine b.model) (VectorLine a.vector ∷ NearestLine a.nearest ∷ xs) (VectorLine b.vector ∷ NearestLine b.nearest ∷ ys) e in
      let e2 : Same (NearestLine a.nearest ∷ xs) (NearestLine b.nearest ∷ ys) = rest_same (VectorLine a.vector) (VectorLine b.vector) (NearestLine a.nearest ∷ xs) (NearestLine b.nearest ∷ ys) e1 in
      let model = same_item due.Model p (ModelLine a.model) (ModelLine b.model) tt tt (a.model, refl, h.model) (b.model, refl, k.model)
      (first_same (ModelLine a.model) (ModelLine b.model) (VectorLine a.vector ∷ NearestLine a.nearest ∷ xs) (VectorLine b.vector ∷ NearestLine b.nearest ∷ ys) e) in
      let vector = same_item due.Vector p (VectorLine a.vector) (VectorLine b.vector) tt tt (a.vector, refl, h.entries, recursion_from_All HasNumeral a.vector h.numbers)
      (b.vector, refl, k.entries, recursion_from_All HasNumeral b.vector k.numbers) (first_same (VectorLine a.vector) (VectorLine b.vector) (NearestLine a.nearest ∷ xs) (NearestLine b.nearest ∷ ys) e1) in
      let nearest = same_item due.Nearest p (NearestLine a.nearest) (NearestLine b.nearest) tt tt (a.nearest, refl, h.nearest, recursion_from_All (IsOver p) a.nearest h.over)
      (b.nearest, refl, k.nearest, recursion_from_All (IsOver p) b.nearest k.over) (first_same (NearestLine a.nearest) (NearestLine b.nearest) xs ys e2) in (
        shown_is a.model b.model a.vector b.vector a.nearest b.nearest (model_is a.model b.model model) (vector_is a.vector b.vector vector) (nearest_is a.nearest b.nearest nearest),
        rest_same (NearestLine a.nearest) (NearestLine b.nearest) xs ys e2,
      )

  abbrev VerdictFit : Verdict → Type 0
  VerdictFit v = VerdictFits (length s.draft.atoms) (length s.draft.agents) v

  given_same : (q : ℕ) (a b : Bool) → item_line (VerdictLine q a) ≡ item_line (VerdictLine q b) → a ≡ b
  given_same q a b e = given_is q a b (same_item due.Verdict (judging s due.Verdict q [] [] [] []) (VerdictLine q a) (VerdictLine q b) tt tt (a, refl) (b, refl) e)

  verdicts_same : (q : ℕ) (vs us : List Verdict) (xs ys : List Item) → length vs ≡ length us → AllByRecursion VerdictFit vs → AllByRecursion VerdictFit us
      → Same (verdict_items q vs ++ xs) (verdict_items q us ++ ys) → (vs ≡ us) × Same xs ys
  verdicts_same q [] [] xs ys n h k e = (refl, e)
  verdicts_same q [] (u ∷ us) xs ys n h k e = absurd (omega (arith, n))
  verdicts_same q (v ∷ vs) [] xs ys n h k e = absurd (omega (arith, n))
  verdicts_same q (Yes ∷ vs) (Yes ∷ us) xs ys n h k e =
      let r = verdicts_same (q + 1) vs us xs ys (omega (arith, n)) h.1 k.1 (rest_same (VerdictLine q true) (VerdictLine q true) (verdict_items (q + 1) vs ++ xs) (verdict_items (q + 1) us ++ ys) e) in
      (cons_verdicts Yes Yes vs us refl r.0, r.1)
  verdicts_same q (Yes ∷ vs) (No b ∷ us) xs ys n h k e =
      let f : true ≡ false = given_same q true false (first_same (VerdictLine q true) (VerdictLine q false) (verdict_items (q + 1) vs ++ xs) ((shown_items b ++ verdict_items (q + 1) us) ++ ys) e) in absurd (cc)
  verdicts_same q (No a ∷ vs) (Yes ∷ us) xs ys n h k e =
      let f : false ≡ true = given_same q false true (first_same (VerdictLine q false) (VerdictLine q true) ((shown_items a ++ verdict_items (q + 1) vs) ++ xs) (verdict_items (q + 1) us ++ ys) e) in absurd (cc)
  verdicts_same q (No a ∷ vs) (No b ∷ us) xs ys n h k e =
      let t = rest_same (VerdictLine q false) (VerdictLine q false) (shown_items a ++ (verdict_items (q + 1) vs ++ xs)) (shown_items b ++ (verdict_items (q + 1) us ++ ys)) e in
      let o = shown_same a b (verdict_items (q + 1) vs ++ xs) (verdict_items (q + 1) us ++ ys) h.0 k.0 t in
      let r = verdicts_same (q + 1) vs us xs ys (omega (arith, n)) h.1 k.1 o.1 in
      (cons_verdicts (No a) (No b) vs us (ap (λ (x : Shown). No x) o.0) r.0, r.1)

  abbrev EntryFit : Option (List Bool) → Type 0
  EntryFit a = EntryFits (length s.draft.atoms) a

  named_due : (d : Due) (t : Subject) (a : Option (List Bool)) → EntryFit a → IsNamedLine (fresh s d) t (named_item t a)
  named_due d t None h = inl refl
  named_due d t (Some w) h = inr (w, refl, h)

  base_due : (i : ℕ) (a : Option (List Bool)) → EntryFit a → DueAt due.Named (naming s due.Named i []) (named_item (BaseOf i) a)
  base_due i None h = inl refl
  base_due i (Some w) h = inr (w, refl, h)

  entries_same : (i : ℕ) (es fs : List (Option (List Bool))) (xs ys : List Item) → length es ≡ length fs → AllByRecursion EntryFit es → AllByRecursion EntryFit fs
      → Same (base_items i es ++ xs) (base_items i fs ++ ys) → (es ≡ fs) × Same xs ys
  entries_same i [] [] xs ys n h k e = (refl, e)
  entries_same i [] (b ∷ fs) xs ys n h k e = absurd (omega (arith, n))
  entries_same i (a ∷ es) [] xs ys n h k e = absurd (omega (arith, n))
  entries_same i (a ∷ es) (b ∷ fs) xs ys n h k e =
      let x : Item = named_item (BaseOf i) a in
      let y : Item = named_item (BaseOf i) b in
      let xs2 : List Item = base_items (i + 1) es ++ xs in
      let ys2 : List Item = base_items (i + 1) fs ++ ys in
      let one = same_item due.Named (naming s due.Named i []) x y (named_feed (BaseOf i) a) (named_feed (BaseOf i) b) (base_due i a h.0) (base_due i b k.0) (first_same x y xs2 ys2 e) in
      let r = entries_same (i + 1) es fs xs ys (omega (arith, n)) h.1 k.1 (rest_same x y xs2 ys2 e) in
      (cons_entries a b es fs (entry_is (BaseOf i) a b one) r.0, r.1)

  -- the first item of an answer, and those after it
  abbrev first_item : Answer → Item
  first_item (Merged best measure verdicts) = ModelLine best.model
  first_item (Inconsistent constraint agents) = named_item TheConstraint constraint
  first_item GaveUp = GaveUpLine

  later_items : Answer → List Item → List Item
  later_items (Merged best measure verdicts) xs = VectorLine best.vector ∷ NearestLine best.nearest ∷ MeasureLine measure ∷ (verdict_items 0 verdicts ++ xs)
  later_items (Inconsistent constraint agents) xs = base_items 0 agents ++ xs
  later_items GaveUp xs = xs

  items_are : (a : Answer) (xs : List Item) → answer_items a ++ xs ≡ first_item a ∷ later_items a xs
  unfolding later_items
  items_are (Merged best measure verdicts) xs = refl
  items_are (Inconsistent constraint agents) xs = refl
  items_are GaveUp xs = refl

  first_due : (a : Answer) → AnswerFits s a → IsAnswerLine (fresh s due.Asks) (first_item a)
  first_due (Merged best measure verdicts) h = let fit : ShownFit best = h.0 in inl (best.model, refl, fit.model)
  first_due (Inconsistent constraint agents) h = inr (inl (named_due due.Asks TheConstraint constraint h.0))
  first_due GaveUp h = inr (inr refl)

  first_feed : (a : Answer) → HasNoFeed (first_item a)
  first_feed (Merged best measure verdicts) = tt
  first_feed (Inconsistent constraint agents) = named_feed TheConstraint constraint
  first_feed GaveUp = tt

  first_of_same : (a b : Answer) (xs ys : List Item) → AnswerFits s a → AnswerFits s b → Same (answer_items a ++ xs) (answer_items b ++ ys) → first_item a ≡ first_item b
  first_of_same a b xs ys h k e =
      let f : Same (first_item a ∷ later_items a xs) (first_item b ∷ later_items b ys) = sym (ap (map item_line) (items_are a xs)) ∙ (e ∙ ap (map item_line) (items_are b ys)) in
      same_item due.Asks (fresh s due.Asks) (first_item a) (first_item b) (first_feed a) (first_feed b) (inr (first_due a h)) (inr (first_due b k)) (first_same (first_item a) (first_item b) (later_items a xs) (later_items b ys) f)

  model_or_entry : (w : List Bool) (a : Option (List Bool)) → ModelLine w ≡ named_item TheConstraint a → ⊥
  model_or_entry w None e = absurd (cc)
  model_or_entry w (Some v) e = absurd (cc)

  entry_or_none : (a : Option (List Bool)) → named_item TheConstraint a ≡ GaveUpLine → ⊥
  entry_or_none None e = absurd (cc)
  entry_or_none (Some v) e = absurd (cc)

  merged_same : (a b : Shown) (m n : List ℕ) (vs us : List Verdict) (xs ys : List Item) → AnswerFits s (Merged a m vs) → AnswerFits s (Merged b n us)
      → Same (answer_items (Merged a m vs) ++ xs) (answer_items (Merged b n us) ++ ys) → (Merged a m vs ≡ Merged b n us) × Same xs ys
  merged_same a b m n vs us xs ys h k e =
      let x : List Item = verdict_items 0 vs ++ xs in
      let y : List Item = verdict_items 0 us ++ ys in
      let o = shown_same a b (MeasureLine m ∷ x) (MeasureLine n ∷ y) h.0 k.0 e in
      let p : Position = judging s due.Measure 0 a.model a.vector a.vector [] in
      let size : length n ≡ length (rank_in s a.vector) = k.1 ∙ ap (λ (t : Shown). length (rank_in s t.vector)) (sym o.0) in
      let measure = same_item due.Measure p (MeasureLine m) (MeasureLine n) tt tt (m, refl, h.1, recursion_from_All HasNumeral m h.2) (n, refl, size, recursion_from_All HasNumeral n k.2)
      (first_same (MeasureLine m) (MeasureLine n) x y o.1) in
      let r = verdicts_same 0 vs us xs ys (h.3 ∙ sym k.3) h.4 k.4 (rest_same (MeasureLine m) (MeasureLine n) x y o.1) in
      (merged_is a b m n vs us o.0 (measure_is m n measure) r.0, r.1)

  pub answers_same : (a b : Answer) (xs ys : List Item) → AnswerFits s a → AnswerFits s b → Same (answer_items a ++ xs) (answer_items b ++ ys) → (a ≡ b) × Same xs ys
  answers_same (Merged a m vs) (Merged b n us) xs ys h k e = merged_same a b m n vs us xs ys h k e
  answers_same (Inconsistent a es) (Inconsistent b fs) xs ys h k e =
      let one = first_of_same (Inconsistent a es) (Inconsistent b fs) xs ys h k e in
      let r = entries_same 0 es fs xs ys (h.1 ∙ sym k.1) h.2 k.2 (rest_same (named_item TheConstraint a) (named_item TheConstraint b) (base_items 0 es ++ xs) (base_items 0 fs ++ ys) e) in
      (inconsistent_is a b es fs (entry_is TheConstraint a b one) r.0, r.1)
  answers_same GaveUp GaveUp xs ys h k e = (refl, rest_same GaveUpLine GaveUpLine xs ys e)
  answers_same (Merged a m vs) (Inconsistent b fs) xs ys h k e = absurd (model_or_entry a.model b (first_of_same (Merged a m vs) (Inconsistent b fs) xs ys h k e))
  answers_same (Inconsistent b fs) (Merged a m vs) xs ys h k e = absurd (model_or_entry a.model b (sym (first_of_same (Inconsistent b fs) (Merged a m vs) xs ys h k e)))
  answers_same (Inconsistent b fs) GaveUp xs ys h k e = absurd (entry_or_none b (first_of_same (Inconsistent b fs) GaveUp xs ys h k e))
  answers_same GaveUp (Inconsistent b fs) xs ys h k e = absurd (entry_or_none b (sym (first_of_same GaveUp (Inconsistent b fs) xs ys h k e)))
  answers_same (Merged a m vs) GaveUp xs ys h k e = let f = first_of_same (Merged a m vs) GaveUp xs ys h k e in absurd (cc)
  answers_same GaveUp (Merged a m vs) xs ys h k e = let f = first_of_same GaveUp (Merged a m vs) xs ys h k e in absurd (cc)
