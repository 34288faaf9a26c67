-- The answer that names which formulas have no model.
use Rattle.std.proofs.Common.{◌≡◌, ℕ, suc, ◌+◌, ◌<◌, nat_lt, Bool, true, false, ◌||◌, inl, inr, List, [], ◌∷◌, ◌++◌, length, drop, Option, None, Some, refl, ap, sym, subst, ◌∙◌, append_assoc, append-nil, length-append, arith}
use Rattle.std.specs.Prelude.{Contains, MatchOption, if◌then◌else◌}
use Rattle.std.specs.List.{AllZip, AllByRecursion}
use Rattle.std.proofs.lemmas.Bool.Decides.{nat_tests}
use Rattle.std.proofs.lemmas.List.{length-map}
use Rattle.clause_store.proofs.Truths.{and_left, and_right}
use Rattle.formulas.specs.declared.formula.Formula.{Formula}
use Rattle.formulas.specs.declared.formula.Formula as formula
use Rattle.formulas.specs.Formulas as formulas
use Rattle.merge_model.specs.declared.agent.Agent.{Agent}
use Rattle.merge_encoding.specs.Claims.{base_at}
use Rattle.report_lines.specs.declared.kinds.Due.{Due}
use Rattle.report_lines.specs.declared.kinds.Due.TheVariants as due
use Rattle.report_lines.specs.declared.kinds.Kind.{Kind}
use Rattle.report_lines.specs.declared.kinds.Kind.TheVariants as kind
use Rattle.report_lines.specs.declared.kinds.Subject.TheVariants.{BaseOf}
use Rattle.report_lines.specs.ClaimsDue.{DueClaim, of_first, lack_of, base_claims}
use Rattle.report_lines.specs.Accepted.{IsWitnessedEntry}
use Rattle.report_lines.specs.Items.{Item, NoModelLine, HasModelLine}
use Rattle.report_lines.specs.Places.{Position, IsNamedLine}
use Rattle.report_lines.specs.Following.{LeadsTo, after}
use Rattle.report_lines.specs.Judged.{Run}
use Rattle.report_lines.specs.Parts.{base_items}
use Rattle.report_text.proofs.PartsPlaces.{Next, next}
use Rattle.report_text.proofs.PartsMain.{Tail, main_rest}
use Rattle.report_text.proofs.PartsShown.{Setting, profile_in, main_in}
use Rattle.report_text.proofs.PartsVerdicts.{past_end, Splits, splits}

-- what is due once so many agents are named
abbrev pub due_named : Setting → ℕ → Due
due_named s i = if nat_lt i (length s.draft.agents) then due.Named else due.Main

-- the place before the next named formula or the main line
abbrev pub naming : Setting → Due → ℕ → List DueClaim → Position
naming s d i claims = record {
  due = d;
  distance = s.distance;
  aggregator = s.aggregator;
  conflicts = s.conflicts;
  draft = s.draft;
  kind = kind.Inconsistent;
  model = [];
  vector = [];
  best = [];
  verdicts = 0;
  named = i;
  claims = claims;
  steps = [];
}

-- a claim is due, or an agent is still to be named
abbrev pub is_open : Setting → ℕ → List DueClaim → Bool
is_open s i claims = nat_lt i (length s.draft.agents) || nat_lt 0 (length claims)

abbrev pub EntryFits : ℕ → Option (List Bool) → Type 0
EntryFits n entry = MatchOption entry (Unit {0}) (λ w. length w ≡ n)

-- the entries of the bases from i on, and what follows them
pub record NamedRest (last : Kind) (s : Setting) (i : ℕ) (claims : List DueClaim) (bases : List Formula) (xs : List Item) : Type 0 where
  pub entries : List (Option (List Bool))
  pub tail : List Item
  pub items : xs ≡ base_items i entries ++ tail
  pub is_tail : Tail last (main_in s) s.conflicts kind.Inconsistent (claims ++ base_claims i entries) tail
  pub witnessed : AllZip (IsWitnessedEntry (length s.draft.atoms)) bases entries
  pub fits : AllByRecursion (EntryFits (length s.draft.atoms)) entries
  pub some_claim : 0 < length (claims ++ base_claims i entries)

is_positive : (n : ℕ) → nat_lt 0 n ≡ true → 0 < n
is_positive n e = grind (arith, nat_tests)

lt_zero : (n : ℕ) → 0 < n → nat_lt 0 n ≡ true
lt_zero n h = grind (arith, nat_tests)

or_right : (a b : Bool) → a ≡ false → (a || b) ≡ true → b ≡ true
or_right true b e h = absurd (cc)
or_right false b e h = h

or_last : (a b : Bool) → b ≡ true → (a || b) ≡ true
or_last true b e = refl
or_last false b e = e

one_more : (claims : List DueClaim) (c : DueClaim) → nat_lt 0 (length (claims ++ c ∷ [])) ≡ true
one_more claims c = let n : length (claims ++ c ∷ []) ≡ length claims + 1 = length-append claims (c ∷ []) in lt_zero (length (claims ++ c ∷ [])) (omega (arith, n))

-- a claim of a base is there for one without a model
pub none_there : (i : ℕ) (entries : List (Option (List Bool))) → 0 < length (base_claims i entries) → Contains entries None
none_there i [] h = absurd (omega arith)
none_there i (None ∷ entries) h = (0, omega arith, refl)
none_there i (Some w ∷ entries) h =
    let r = none_there (i + 1) entries h in
    let lt : r.0 < length entries = r.1 in
    (suc r.0, omega (arith, lt), r.2)

module _ (s : Setting) where
  -- a formula without a model
  none_rest : (end : Position) (i : ℕ) (claims : List DueClaim) (f : Formula) (fs : List Formula) (xs : List Item) → NamedRest end.kind s (i + 1) (claims ++ of_first (lack_of (BaseOf i)) ∷ []) fs xs
      → NamedRest end.kind s i claims (f ∷ fs) (NoModelLine (BaseOf i) ∷ xs)
  none_rest end i claims f fs xs r =
      let flat : (claims ++ of_first (lack_of (BaseOf i)) ∷ []) ++ base_claims (i + 1) r.entries ≡ claims ++ of_first (lack_of (BaseOf i)) ∷ base_claims (i + 1) r.entries =
      append_assoc claims (of_first (lack_of (BaseOf i)) ∷ []) (base_claims (i + 1) r.entries) in
      record {
        entries = None ∷ r.entries;
        tail = r.tail;
        items = ap (λ (ys : List Item). NoModelLine (BaseOf i) ∷ ys) r.items;
        is_tail = subst (λ (cs : List DueClaim). Tail end.kind (main_in s) s.conflicts kind.Inconsistent cs r.tail) flat r.is_tail;
        witnessed = (tt, r.witnessed);
        fits = (tt, r.fits);
        some_claim = subst (λ (cs : List DueClaim). 0 < length cs) flat r.some_claim;
      }

  -- a formula with a model
  some_rest : (end : Position) (i : ℕ) (claims : List DueClaim) (f : Formula) (fs : List Formula) (w : List Bool) (xs : List Item) → length w ≡ length s.draft.atoms → formulas.holds f w ≡ true
      → NamedRest end.kind s (i + 1) claims fs xs → NamedRest end.kind s i claims (f ∷ fs) (HasModelLine (BaseOf i) w ∷ xs)
  some_rest end i claims f fs w xs size model r = record {
    entries = Some w ∷ r.entries;
    tail = r.tail;
    items = ap (λ (ys : List Item). HasModelLine (BaseOf i) w ∷ ys) r.items;
    is_tail = r.is_tail;
    witnessed = (record { size = size; true_there = model }, r.witnessed);
    fits = (size, r.fits);
    some_claim = r.some_claim;
  }

  abbrev AtNamed : ℕ → List Formula → Position → Type 0
  AtNamed i bases end = (claims : List DueClaim) (xs : List Item) → is_open s i claims ≡ true → Run (naming s (due_named s i) i claims) xs end → NamedRest end.kind s i claims bases xs

  named_by : (i : ℕ) (claims : List DueClaim) (f : Formula) (fs : List Formula) (x : Item) (xs : List Item) (m end : Position) → base_at (profile_in s) i ≡ f
      → IsNamedLine (naming s due.Named i claims) (BaseOf i) x → LeadsTo (naming s due.Named i claims) x m → Run m xs end → AtNamed (i + 1) fs end → NamedRest end.kind s i claims (f ∷ fs) (x ∷ xs)
  named_by i claims f fs x xs m end here (inl d) l r again =
      let p : Position = naming s due.Named i claims in
      let l2 : LeadsTo p (NoModelLine (BaseOf i)) m = subst (λ (y : Item). LeadsTo p y m) d l in
      let r2 : Run (after p (NoModelLine (BaseOf i))) xs end = subst (λ (n : Position). Run n xs end) l2.1 r in
      let open_still = or_last (nat_lt (i + 1) (length s.draft.agents)) (nat_lt 0 (length (claims ++ of_first (lack_of (BaseOf i)) ∷ []))) (one_more claims (of_first (lack_of (BaseOf i)))) in
      subst (λ (y : Item). NamedRest end.kind s i claims (f ∷ fs) (y ∷ xs)) (sym d) (none_rest end i claims f fs xs (again (claims ++ of_first (lack_of (BaseOf i)) ∷ []) xs open_still r2))
  named_by i claims f fs x xs m end here (inr d) l r again =
      let p : Position = naming s due.Named i claims in
      let w : List Bool = d.0 in
      let l2 : LeadsTo p (HasModelLine (BaseOf i) w) m = subst (λ (y : Item). LeadsTo p y m) d.1 l in
      let r2 : Run (after p (HasModelLine (BaseOf i) w)) xs end = subst (λ (n : Position). Run n xs end) l2.1 r in
      let model = and_left (formulas.holds (base_at (profile_in s) i) w) (is_open s (i + 1) claims) l2.0 in
      let open_still = and_right (formulas.holds (base_at (profile_in s) i) w) (is_open s (i + 1) claims) l2.0 in
      subst (λ (y : Item). NamedRest end.kind s i claims (f ∷ fs) (y ∷ xs)) (sym d.1)
      (some_rest end i claims f fs w xs d.2 (sym (ap (λ (g : Formula). formulas.holds g w) here) ∙ model) (again claims xs open_still r2))

  pub named_rest : (bases : List Formula) (i : ℕ) (end : Position) → bases ≡ drop i (profile_in s).bases → end.due ≡ due.Over → AtNamed i bases end
  named_rest [] i end e over claims xs still r =
      let p : Position = naming s (due_named s i) i claims in
      let size : length (profile_in s).bases ≡ length s.draft.agents = length-map s.draft.agents (λ (a : Agent). a.base) in
      let no_more : nat_lt i (length s.draft.agents) ≡ false = ap (nat_lt i) (sym size) ∙ past_end (profile_in s).bases i e in
      let main : p.due ≡ due.Main = ap (λ (b : Bool). if b then due.Named else due.Main) no_more in
      let some : 0 < length claims = is_positive (length claims) (or_right (nat_lt i (length s.draft.agents)) (nat_lt 0 (length claims)) no_more still) in
      record {
        entries = [];
        tail = xs;
        items = refl;
        is_tail = subst (λ (cs : List DueClaim). Tail end.kind (main_in s) s.conflicts kind.Inconsistent cs xs) (sym (append-nil claims)) (main_rest p end xs r main refl over);
        witnessed = tt;
        fits = tt;
        some_claim = subst (λ (cs : List DueClaim). 0 < length cs) (sym (append-nil claims)) some;
      }
  named_rest (f ∷ fs) i end e over claims xs still r =
      let c : Splits (profile_in s).bases i f fs formula.Top = splits (profile_in s).bases i f fs formula.Top e in
      let size : length (profile_in s).bases ≡ length s.draft.agents = length-map s.draft.agents (λ (a : Agent). a.base) in
      let more : nat_lt i (length s.draft.agents) ≡ true = ap (nat_lt i) (sym size) ∙ c.within in
      let p : Position = naming s due.Named i claims in
      let r1 : Run p xs end = subst (λ (b : Bool). Run (naming s (if b then due.Named else due.Main) i claims) xs end) more r in
      let n : Next due.Named p end xs = next due.Named p end xs refl refl over r1 in
      subst (λ (ys : List Item). NamedRest end.kind s i claims (f ∷ fs) ys) (sym n.whole)
      (named_by i claims f fs n.item n.rest n.place end c.here n.of n.leads n.run (named_rest fs (i + 1) end c.rest over))
