-- The verdicts of an answer that merges, and the whole of such an answer.
use Rattle.std.proofs.Common.{◌≡◌, ℕ, suc, ◌+◌, ◌-◌, ◌<◌, ◌==◌, nat_lt, Bool, true, false, not, ◌||◌, List, [], ◌∷◌, ◌++◌, length, drop, get_or, refl, ap, sym, subst, ◌∙◌, append_assoc, append-nil, length-drop, drop-cons, add-one, arith}
use Rattle.std.specs.Prelude.{if◌then◌else◌}
use Rattle.std.specs.List.{AllZip, AllByRecursion}
use Rattle.std.specs.Str.{bytes_eq}
use Rattle.std.proofs.lemmas.Bool.Decides.{nat_tests}
use Rattle.std.proofs.lemmas.Slice.Eq.{bytes_eq-Decides}
use Rattle.std.proofs.lemmas.Bool.{not-true}
use Rattle.clause_store.proofs.Truths.{and_left, and_right}
use Rattle.formulas.specs.declared.formula.Formula.{Formula}
use Rattle.formulas.specs.declared.formula.Formula as formula
use Rattle.formulas.specs.Formulas as formulas
use Rattle.merge_model.specs.declared.answer.Shown.{Shown}
use Rattle.merge_model.specs.declared.answer.Verdict.{Verdict}
use Rattle.merge_model.specs.declared.answer.Verdict.TheVariants.{Yes, No}
use Rattle.merge_encoding.specs.Claims.{NoBreaker, ask_at}
use Rattle.report_lines.specs.declared.kinds.Due.{Due}
use Rattle.report_lines.specs.declared.kinds.Due.TheVariants as due
use Rattle.report_lines.specs.declared.kinds.Kind.{Kind}
use Rattle.report_lines.specs.declared.kinds.Kind.TheVariants as kind
use Rattle.report_lines.specs.ClaimsDue.{DueClaim, of_first, far_claims, verdict_claims}
use Rattle.report_lines.specs.Accepted.{IsWitness, IsWitnessedVerdict}
use Rattle.report_lines.specs.Items.{Item, ModelLine, VectorLine, NearestLine, VerdictLine}
use Rattle.report_lines.specs.Places.{Position, DueAt}
use Rattle.report_lines.specs.Holding.{breaks}
use Rattle.report_lines.specs.Following.{LeadsTo, after}
use Rattle.report_lines.specs.Judged.{Run}
use Rattle.report_lines.specs.Parts.{shown_items, verdict_items}
use Rattle.report_text.proofs.PartsPlaces.{Next, next, first_is}
use Rattle.report_text.proofs.PartsMain.{Tail, main_rest}
use Rattle.report_text.proofs.PartsShown.{Setting, profile_in, op_in, main_in, values_of, rank_in, ShownFits, shown_with, Block, shown_rest}
use Rattle.log_checker.proofs.Chains.{true_lt}

-- the place before a verdict or the main line
abbrev pub judging : Setting → Due → ℕ → List Bool → List ℕ → List ℕ → List DueClaim → Position
judging s d q model vector best claims = record {
  due = d;
  distance = s.distance;
  aggregator = s.aggregator;
  conflicts = s.conflicts;
  draft = s.draft;
  kind = kind.Merged;
  model = model;
  vector = vector;
  best = best;
  verdicts = q;
  named = 0;
  claims = claims;
  steps = [];
}

-- what is due once so many verdicts are given
abbrev pub due_from : Setting → ℕ → Due
due_from s q = if nat_lt q (length s.draft.asks) then due.Verdict else due.Main

abbrev pub VerdictFits : ℕ → ℕ → Verdict → Type 0
VerdictFits atoms agents Yes = Unit {0}
VerdictFits atoms agents (No shown) = ShownFits atoms agents shown

-- verdicts on these queries, those from q on, and what follows them
pub record VerdictRest (last : Kind) (s : Setting) (best : List ℕ) (q : ℕ) (claims : List DueClaim) (asks : List Formula) (xs : List Item) : Type 0 where
  pub verdicts : List Verdict
  pub tail : List Item
  pub items : xs ≡ verdict_items q verdicts ++ tail
  pub is_tail : Tail last (main_in s) s.conflicts kind.Merged (claims ++ verdict_claims (values_of s best) q verdicts) tail
  pub judged : AllZip (IsWitnessedVerdict (op_in s) (profile_in s) (rank_in s best)) asks verdicts
  pub fits : AllByRecursion (VerdictFits (length s.draft.atoms) (length s.draft.agents)) verdicts

-- what is left of a list from a place on

pub past_end : {A : Type 0} (xs : List A) (q : ℕ) → [] ≡ drop q xs → nat_lt q (length xs) ≡ false
past_end xs q e = let n : 0 ≡ length xs - q = ap length e ∙ length-drop q xs in grind (arith, nat_tests)

pub record Splits {A : Type 0} (xs : List A) (q : ℕ) (y : A) (ys : List A) (d : A) : Type 0 where
  pub within : nat_lt q (length xs) ≡ true
  pub here : get_or xs q d ≡ y
  pub rest : ys ≡ drop (q + 1) xs

cons_head : {A : Type 0} (a b : A) (xs ys : List A) → a ∷ xs ≡ b ∷ ys → a ≡ b
cons_head a b xs ys e = cc

cons_tail : {A : Type 0} (a b : A) (xs ys : List A) → a ∷ xs ≡ b ∷ ys → xs ≡ ys
cons_tail a b xs ys e = cc

is_within : (q n k : ℕ) → suc k ≡ n - q → q < n
is_within q n k e = omega arith

pub splits : {A : Type 0} (xs : List A) (q : ℕ) (y : A) (ys : List A) (d : A) → y ∷ ys ≡ drop q xs → Splits xs q y ys d
splits xs q y ys d e =
    let n : suc (length ys) ≡ length xs - q = ap length e ∙ length-drop q xs in
    let lt : q < length xs = is_within q (length xs) (length ys) n in
    let cut : drop q xs ≡ get_or xs q d ∷ drop (q + 1) xs = rw add-one (drop-cons xs q d lt) in
    let both : y ∷ ys ≡ get_or xs q d ∷ drop (q + 1) xs = e ∙ cut in
    record { within = true_lt q (length xs) lt; here = sym (cons_head y (get_or xs q d) ys (drop (q + 1) xs) both); rest = cons_tail y (get_or xs q d) ys (drop (q + 1) xs) both }

more_not_zero : (q : ℕ) → (q + 1 == 0) ≡ false
more_not_zero q = grind (arith, nat_tests)

or_right : (a b : Bool) → a ≡ false → (a || b) ≡ true → b ≡ true
or_right true b e h = absurd (cc)
or_right false b e h = h

module _ (s : Setting) (best : List ℕ) where
  abbrev Rest : Position → ℕ → List DueClaim → List Formula → List Item → Type 0
  Rest end q claims asks xs = VerdictRest end.kind s best q claims asks xs

  -- yes: the claim is due, and the next verdict
  yes_rest : (end : Position) (q : ℕ) (claims : List DueClaim) (f : Formula) (fs : List Formula) (xs : List Item) → Rest end (q + 1) (claims ++ of_first (NoBreaker q (values_of s best)) ∷ []) fs xs
      → Rest end q claims (f ∷ fs) (VerdictLine q true ∷ xs)
  yes_rest end q claims f fs xs r = record {
    verdicts = Yes ∷ r.verdicts;
    tail = r.tail;
    items = ap (λ (ys : List Item). VerdictLine q true ∷ ys) r.items;
    is_tail = subst (λ (cs : List DueClaim). Tail end.kind (main_in s) s.conflicts kind.Merged cs r.tail) (append_assoc claims (of_first (NoBreaker q (values_of s best)) ∷ []) (verdict_claims (values_of s best) (q + 1) r.verdicts)) r.is_tail;
    judged = (tt, r.judged);
    fits = (tt, r.fits);
  }

  -- no: the model is shown, and the next verdict
  no_rest : (end : Position) (q : ℕ) (claims : List DueClaim) (f : Formula) (fs : List Formula) (shown : Shown) (xs rest : List Item) → xs ≡ shown_items shown ++ rest → ShownFits (length s.draft.atoms) (length s.draft.agents) shown
      → IsWitness (op_in s) (profile_in s) shown → rank_in s best ≡ rank_in s shown.vector → formulas.holds f shown.model ≡ false
      → Rest end (q + 1) (claims ++ far_claims (q + 1) shown.model shown.vector) fs rest → Rest end q claims (f ∷ fs) (VerdictLine q false ∷ xs)
  no_rest end q claims f fs shown xs rest e fits witness good breaks_it r = record {
    verdicts = No shown ∷ r.verdicts;
    tail = r.tail;
    items = ap (λ (ys : List Item). VerdictLine q false ∷ ys) (e ∙ ap (λ (ys : List Item). shown_items shown ++ ys) r.items);
    is_tail = subst (λ (cs : List DueClaim). Tail end.kind (main_in s) s.conflicts kind.Merged cs r.tail) (append_assoc claims (far_claims (q + 1) shown.model shown.vector) (verdict_claims (values_of s best) (q + 1) r.verdicts)) r.is_tail;
    judged = ((witness, good, breaks_it), r.judged);
    fits = (fits, r.fits);
  }

  -- the last query is false in the model of its no
  broken : (q : ℕ) (f : Formula) (w : List Bool) → ask_at s.draft.asks q ≡ f → ((q + 1 == 0) || not (formulas.holds (ask_at s.draft.asks (q + 1 - 1)) w)) ≡ true → formulas.holds f w ≡ false
  broken q f w here e =
      let n : q + 1 - 1 ≡ q = omega arith in
      let h : not (formulas.holds (ask_at s.draft.asks (q + 1 - 1)) w) ≡ true = or_right (q + 1 == 0) (not (formulas.holds (ask_at s.draft.asks (q + 1 - 1)) w)) (more_not_zero q) e in
      sym (ap (λ (g : Formula). formulas.holds g w) here) ∙ (ap (λ (k : ℕ). formulas.holds (ask_at s.draft.asks k) w) (sym n) ∙ not-true (formulas.holds (ask_at s.draft.asks (q + 1 - 1)) w) h)

  as_good : (q : ℕ) (ds : List ℕ) → ((q + 1 == 0) || bytes_eq (rank_in s ds) (rank_in s best)) ≡ true → rank_in s best ≡ rank_in s ds
  as_good q ds e = sym ((bytes_eq-Decides (rank_in s ds) (rank_in s best)).0 (or_right (q + 1 == 0) (bytes_eq (rank_in s ds) (rank_in s best)) (more_not_zero q) e))

  abbrev AtVerdict : ℕ → List Formula → Position → Type 0
  AtVerdict q asks end = (model : List Bool) (vector : List ℕ) (claims : List DueClaim) (xs : List Item) → Run (judging s (due_from s q) q model vector best claims) xs end → Rest end q claims asks xs

  verdict_by : (given : Bool) (q : ℕ) (model : List Bool) (vector : List ℕ) (claims : List DueClaim) (f : Formula) (fs : List Formula) (xs : List Item) (end : Position) → ask_at s.draft.asks q ≡ f → end.due ≡ due.Over
      → AtVerdict (q + 1) fs end → Run (after (judging s due.Verdict q model vector best claims) (VerdictLine q given)) xs end → Rest end q claims (f ∷ fs) (VerdictLine q given ∷ xs)
  verdict_by true q model vector claims f fs xs end here over again r =
      yes_rest end q claims f fs xs (again model vector (claims ++ of_first (NoBreaker q (values_of s best)) ∷ []) xs r)
  verdict_by false q model vector claims f fs xs end here over again r =
      let p : Position = judging s due.Model (q + 1) model vector best claims in
      let n : Next due.Model p end xs = next due.Model p end xs refl refl over r in
      let d : DueAt due.Model p n.item = n.of in
      let w : List Bool = d.0 in
      let l : LeadsTo p (ModelLine w) n.place = subst (λ (y : Item). LeadsTo p y n.place) d.1 n.leads in
      let r2 : Run (after p (ModelLine w)) n.rest end = subst (λ (m : Position). Run m n.rest end) l.1 n.run in
      let is_model : formulas.holds (profile_in s).constraint w ≡ true = and_left (formulas.holds (profile_in s).constraint w) (breaks p w) l.0 in
      let breaks_it : breaks p w ≡ true = and_right (formulas.holds (profile_in s).constraint w) (breaks p w) l.0 in
      let b : Block p false w end n.rest = shown_rest p end false w n.rest (more_not_zero q) d.2 is_model r2 over in
      let shown : Shown = shown_with w b.vector b.nearest in
      let more = again w b.vector (claims ++ far_claims (q + 1) w b.vector) b.rest b.run in
      let whole : xs ≡ shown_items shown ++ b.rest = first_is n.item (ModelLine w) xs n.rest (VectorLine b.vector ∷ NearestLine b.nearest ∷ b.rest) n.whole d.1 b.items in
      no_rest end q claims f fs shown xs b.rest whole b.fits b.witness (as_good q b.vector b.good) (broken q f w here breaks_it) more

  pub verdicts_rest : (asks : List Formula) (q : ℕ) (end : Position) → asks ≡ drop q s.draft.asks → end.due ≡ due.Over → AtVerdict q asks end
  verdicts_rest [] q end e over model vector claims xs r =
      let p : Position = judging s (due_from s q) q model vector best claims in
      let main : p.due ≡ due.Main = ap (λ (b : Bool). if b then due.Verdict else due.Main) (past_end s.draft.asks q e) in
      record {
        verdicts = [];
        tail = xs;
        items = refl;
        is_tail = subst (λ (cs : List DueClaim). Tail end.kind (main_in s) s.conflicts kind.Merged cs xs) (sym (append-nil claims)) (main_rest p end xs r main refl over);
        judged = tt;
        fits = tt;
      }
  verdicts_rest (f ∷ fs) q end e over model vector claims xs r =
      let c : Splits s.draft.asks q f fs formula.Top = splits s.draft.asks q f fs formula.Top e in
      let p : Position = judging s due.Verdict q model vector best claims in
      let r1 : Run p xs end = subst (λ (b : Bool). Run (judging s (if b then due.Verdict else due.Main) q model vector best claims) xs end) c.within r in
      let n : Next due.Verdict p end xs = next due.Verdict p end xs refl refl over r1 in
      let d : DueAt due.Verdict p n.item = n.of in
      let l : LeadsTo p (VerdictLine q d.0) n.place = subst (λ (y : Item). LeadsTo p y n.place) d.1 n.leads in
      let r2 : Run (after p (VerdictLine q d.0)) n.rest end = subst (λ (m : Position). Run m n.rest end) l.1 n.run in
      subst (λ (ys : List Item). Rest end q claims (f ∷ fs) ys) (sym (n.whole ∙ ap (λ (y : Item). y ∷ n.rest) d.1))
      (verdict_by d.0 q model vector claims f fs n.rest end c.here over (verdicts_rest fs (q + 1) end c.rest over) r2)
