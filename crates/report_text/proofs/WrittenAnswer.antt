-- The answer of accepted parts.
use Rattle.std.proofs.Common.{◌≡◌, ℕ, zero, suc, ◌+◌, ◌-◌, ◌<◌, ◌≤◌, ◌==◌, ◌⊎◌, Bool, true, false, not, ◌&&◌, ◌||◌, List, [], ◌∷◌, ◌++◌, length, map, Option, Some, None, refl, ap, sym, subst, ◌∙◌, arith, append_assoc, append-nil, inl, inr}
use Rattle.std.specs.Prelude.{nat_eq, nat_lt, nat_le, if◌then◌else◌, slice_index_or, Contains}
use Rattle.std.specs.List.{AllByRecursion, AllZip, list_all}
use Rattle.std.specs.Str.{bytes_eq}
use Rattle.std.proofs.lemmas.Bool.Decides.{nat_tests}
use Rattle.std.proofs.lemmas.List.{length-append}
use Rattle.report_words.specs.Numbers.{HasNumeral}
use Rattle.formulas.specs.declared.formula.Formula.{Formula}
use Rattle.formulas.specs.declared.formula.Formula as formula
use Rattle.formulas.specs.Formulas as formulas
use Rattle.clause_store.proofs.Each.{each_of_index}
use Rattle.clause_store.proofs.Truths.{and_both, or_left, or_right}
use Rattle.merge_model.specs.declared.answer.Answer.{Answer}
use Rattle.merge_model.specs.declared.answer.Answer.TheVariants.{Merged, Inconsistent, GaveUp}
use Rattle.merge_model.specs.declared.answer.Shown.{Shown}
use Rattle.merge_model.specs.declared.answer.Verdict.{Verdict}
use Rattle.merge_model.specs.declared.answer.Verdict.TheVariants.{Yes, No}
use Rattle.merge_model.specs.Answers.{profile_of, dist_named, most_named, rank_named}
use Rattle.merge_model.specs.Merging.{Profile, IsModel, repeated}
use Rattle.merge_encoding.specs.Claims.{NoBreaker, ask_at, base_at}
use Rattle.merge_encoding.specs.Named.{values_named}
use Rattle.report_lines.specs.declared.kinds.Due.{Due}
use Rattle.report_lines.specs.declared.kinds.Due.TheVariants as due
use Rattle.report_lines.specs.declared.kinds.Kind.{Kind}
use Rattle.report_lines.specs.declared.kinds.Kind.TheVariants as kind
use Rattle.report_lines.specs.declared.kinds.Subject.TheVariants.{TheConstraint, BaseOf}
use Rattle.report_lines.specs.Accepted.{Parts, IsWitness, IsWitnessedVerdict, IsWitnessedMerge, IsWitnessedEntry, IsWitnessedNaming, IsWitnessed, values_in}
use Rattle.report_lines.specs.ClaimsDue.{DueClaim, of_first, far_claims, least_claims, verdict_claims, lack_of, base_claims, claims_due}
use Rattle.report_lines.specs.Items.{Item, ModelLine, VectorLine, NearestLine, MeasureLine, VerdictLine, NoModelLine, HasModelLine, GaveUpLine}
use Rattle.report_lines.specs.Places.{Position, DueAt}
use Rattle.report_lines.specs.Holding.{are_near}
use Rattle.report_lines.specs.Following.{after}
use Rattle.report_lines.specs.Judged.{Run}
use Rattle.report_lines.specs.Parts.{Asked, operator_of, kind_of_answer, answer_items, verdict_items, base_items, HasShownForm, HasVerdictForm, HasEntryForm, HasAnswerForm}
use Rattle.report_lines.proofs.Elements.{eq_same}
use Rattle.report_text.proofs.WrittenPlaces.{Seen, unseen, place, begun, draft_of}
use Rattle.report_text.proofs.WrittenHead.{last_due, answer_due}
use Rattle.log_checker.proofs.Chains.{true_lt}

-- tests

le_true : (a b : ℕ) → a ≤ b → nat_le a b ≡ true
le_true a b h = grind (arith, nat_tests)

not_below : (a b : ℕ) → a ≡ b → nat_lt a b ≡ false
not_below a b e = grind (arith, nat_tests)

not_zero : (n : ℕ) → (n + 1 == 0) ≡ false
not_zero n = grind (arith, nat_tests)

bytes_same : (xs : List ℕ) → bytes_eq xs xs ≡ true
bytes_same [] = refl
bytes_same (x ∷ xs) = and_both (nat_eq x x) (bytes_eq xs xs) (eq_same x x refl) (bytes_same xs)

same_bytes : (xs ys : List ℕ) → xs ≡ ys → bytes_eq xs ys ≡ true
same_bytes xs ys e = subst (λ (zs : List ℕ). bytes_eq xs zs ≡ true) e (bytes_same xs)

all_within : (top : ℕ) (ds : List ℕ) → AllByRecursion (λ k. k ≤ top) ds → list_all (λ d. nat_le d top) ds ≡ true
all_within top [] h = refl
all_within top (d ∷ ds) h = and_both (nat_le d top) (list_all (λ k. nat_le k top) ds) (le_true d top h.0) (all_within top ds h.1)

near : (n : ℕ) (dist : List Bool → List Bool → ℕ) (model : List Bool) (bases : List Formula) (ds : List ℕ) (ws : List (List Bool)) → AllZip (IsModel n) bases ws → ds ≡ map (dist model) ws → are_near dist model bases ds ws ≡ true
near n dist model [] ds ws h e = refl
near n dist model (b ∷ bs) [] ws h e = refl
near n dist model (b ∷ bs) (d ∷ ds) [] h e = refl
near n dist model (b ∷ bs) (d ∷ ds) (w ∷ ws) h e =
    let is : IsModel n b w = h.0 in
    let first : d ≡ dist model w = cc in
    let rest : ds ≡ map (dist model) ws = cc in
    and_both (formulas.holds b w && (dist model w == d)) (are_near dist model bs ds ws) (and_both (formulas.holds b w) (dist model w == d) is.true_there (eq_same (dist model w) d (sym first))) (near n dist model bs ds ws h.1 rest)

false_not : (b : Bool) → b ≡ false → not b ≡ true
false_not true e = absurd (cc)
false_not false e = refl

module _ (asked : Asked) (r : Parts) where
  abbrev profile : Profile
  profile = profile_of r.problem

  abbrev top : ℕ
  top = most_named asked.distance r.problem.atoms (length r.problem.atoms)

  abbrev rank_of_vector : List ℕ → List ℕ
  rank_of_vector ds = rank_named asked.aggregator (repeated profile.times ds)

  abbrev values : List ℕ → List ℕ
  values ds = values_named asked.aggregator (repeated profile.times ds) top

  abbrev here : Due → Kind → Seen → List DueClaim → Position
  here now answer seen claims = place asked (draft_of r.problem) now answer seen claims []

  abbrev seen_by : List Bool → List ℕ → List ℕ → ℕ → Seen
  seen_by model vector best verdicts = record { model = model; vector = vector; best = best; verdicts = verdicts; named = 0 }

  -- due once so many verdicts are given, and once so many agents are named
  abbrev verdict_due : ℕ → Due
  verdict_due k = if nat_lt k (length r.problem.asks) then due.Verdict else due.Main

  abbrev named_due : ℕ → Due
  named_due i = if nat_lt i (length r.problem.agents) then due.Named else due.Main

  verdict_next : (k : ℕ) → k < length r.problem.asks → due.Verdict ≡ verdict_due k
  verdict_next k lt = ap (λ (t : Bool). if t then due.Verdict else due.Main) (sym (true_lt k (length r.problem.asks) lt))

  verdicts_over : (k : ℕ) → k ≡ length r.problem.asks → verdict_due k ≡ due.Main
  verdicts_over k e = ap (λ (t : Bool). if t then due.Verdict else due.Main) (not_below k (length r.problem.asks) e)

  named_next : (k : ℕ) → k < length r.problem.agents → due.Named ≡ named_due k
  named_next k lt = ap (λ (t : Bool). if t then due.Named else due.Main) (sym (true_lt k (length r.problem.agents) lt))

  named_over : (k : ℕ) → k ≡ length r.problem.agents → named_due k ≡ due.Main
  named_over k e = ap (λ (t : Bool). if t then due.Named else due.Main) (not_below k (length r.problem.agents) e)

  -- the first model

  abbrev after_first : Shown → Seen
  after_first shown = seen_by shown.model shown.vector shown.vector 0

  first_run : (shown : Shown) (items : List Item) (q : Position) → IsWitness (operator_of asked r) profile shown → HasShownForm r shown →
      Run (here due.Measure kind.Merged (after_first shown) (far_claims 0 shown.model shown.vector)) items q →
      Run (begun asked (draft_of r.problem) (last_due r.problem.asks)) (ModelLine shown.model ∷ VectorLine shown.vector ∷ NearestLine shown.nearest ∷ items) q
  first_run shown items q is form run =
      let m : IsModel profile.atoms profile.constraint shown.model = is.model in
      let p0 : Position = begun asked (draft_of r.problem) (last_due r.problem.asks) in
      let within : list_all (λ d. nat_le d top) shown.vector ≡ true = all_within top shown.vector (each_of_index (λ k. k ≤ top) shown.vector is.within) in (
        here due.Vector kind.Merged (seen_by shown.model [] [] 0) [],
        answer_due r.problem.asks p0 (ModelLine shown.model) (inl (shown.model, refl, form.model)),
        (and_both (formulas.holds profile.constraint shown.model) true m.true_there refl, refl),
        (
          here due.Nearest kind.Merged (after_first shown) (far_claims 0 shown.model shown.vector),
          (shown.vector, refl, form.entries, each_of_index HasNumeral shown.vector form.numbers),
          (and_both (list_all (λ d. nat_le d top) shown.vector) true within refl, refl),
          (
            here due.Measure kind.Merged (after_first shown) (far_claims 0 shown.model shown.vector),
            (shown.nearest, refl, form.nearest, each_of_index (λ w. length w ≡ length r.problem.atoms) shown.nearest form.over),
            (near profile.atoms (dist_named asked.distance r.problem.atoms) shown.model profile.bases shown.vector shown.nearest is.nearest is.vector, refl),
            run,
          ),
        ),
      )

  -- the model of a no

  no_run : (shown : Shown) (q : ℕ) (ask : Formula) (model : List Bool) (vector best measure : List ℕ) (claims : List DueClaim) (items : List Item) (end : Position) →
      IsWitnessedVerdict (operator_of asked r) profile measure ask (No shown) → HasShownForm r shown → measure ≡ rank_of_vector best → ask_at r.problem.asks (q + 1 - 1) ≡ ask →
      Run (here (verdict_due (q + 1)) kind.Merged (seen_by shown.model shown.vector best (q + 1)) (claims ++ far_claims (q + 1) shown.model shown.vector)) items end →
      Run (here due.Model kind.Merged (seen_by model vector best (q + 1)) claims) (ModelLine shown.model ∷ VectorLine shown.vector ∷ NearestLine shown.nearest ∷ items) end
  no_run shown q ask model vector best measure claims items end is form measured which run =
      let w : IsWitness (operator_of asked r) profile shown = is.0 in
      let m : IsModel profile.atoms profile.constraint shown.model = w.model in
      let within : list_all (λ d. nat_le d top) shown.vector ≡ true = all_within top shown.vector (each_of_index (λ k. k ≤ top) shown.vector w.within) in
      let breaks_it : not (formulas.holds (ask_at r.problem.asks (q + 1 - 1)) shown.model) ≡ true =
      false_not (formulas.holds (ask_at r.problem.asks (q + 1 - 1)) shown.model) (ap (λ (f : Formula). formulas.holds f shown.model) which ∙ is.2) in
      let as_good : bytes_eq (rank_of_vector shown.vector) (rank_of_vector best) ≡ true = same_bytes (rank_of_vector shown.vector) (rank_of_vector best) (sym is.1 ∙ measured) in
      let more : List DueClaim = claims ++ far_claims (q + 1) shown.model shown.vector in
      let p2 : Position = here due.Vector kind.Merged (seen_by shown.model vector best (q + 1)) claims in
      let p3 : Position = here due.Nearest kind.Merged (seen_by shown.model shown.vector best (q + 1)) more in
      let p4 : Position = here (verdict_due (q + 1)) kind.Merged (seen_by shown.model shown.vector best (q + 1)) more in
      let same3 : p3 ≡ after p2 (VectorLine shown.vector) =
      ap (λ (t : Bool). here due.Nearest kind.Merged (seen_by shown.model shown.vector (if t then shown.vector else best) (q + 1)) more) (sym (not_zero q)) in
      let same4 : p4 ≡ after p3 (NearestLine shown.nearest) =
      ap (λ (t : Bool). here (if t then due.Measure else verdict_due (q + 1)) kind.Merged (seen_by shown.model shown.vector best (q + 1)) more) (sym (not_zero q)) in (
        p2,
        (shown.model, refl, form.model),
        (and_both (formulas.holds profile.constraint shown.model) ((q + 1 == 0) || not (formulas.holds (ask_at r.problem.asks (q + 1 - 1)) shown.model)) m.true_there (or_right (q + 1 == 0) (not (formulas.holds (ask_at r.problem.asks (q + 1 - 1)) shown.model)) breaks_it), refl),
        (
          p3,
          (shown.vector, refl, form.entries, each_of_index HasNumeral shown.vector form.numbers),
          (and_both (list_all (λ d. nat_le d top) shown.vector) ((q + 1 == 0) || bytes_eq (rank_of_vector shown.vector) (rank_of_vector best)) within (or_right (q + 1 == 0) (bytes_eq (rank_of_vector shown.vector) (rank_of_vector best)) as_good), same3),
          (
            p4,
            (shown.nearest, refl, form.nearest, each_of_index (λ v. length v ≡ length r.problem.atoms) shown.nearest form.over),
            (near profile.atoms (dist_named asked.distance r.problem.atoms) shown.model profile.bases shown.vector shown.nearest w.nearest w.vector, same4),
            run,
          ),
        ),
      )

  -- a run up to the main line
  abbrev pub RunsTo : Position → List Item → Kind → List DueClaim → Type 0
  RunsTo p items answer claims = (end : Seen) × Run p items (here due.Main answer end claims)

  claims_next : (p : Position) (items : List Item) (answer : Kind) (front middle back : List DueClaim) → RunsTo p items answer ((front ++ middle) ++ back) → RunsTo p items answer (front ++ (middle ++ back))
  claims_next p items answer front middle back h = (h.0, subst (λ (cs : List DueClaim). Run p items (here due.Main answer h.0 cs)) (append_assoc front middle back) h.1)

  -- the verdicts

  module _ (best measure : List ℕ) (measured : measure ≡ rank_of_vector best) where
    ask_next : (q : ℕ) (ask : Formula) (asks : List Formula) → ((k : ℕ) → ask_at r.problem.asks (q + k) ≡ slice_index_or (ask ∷ asks) k formula.Top) → (k : ℕ) → ask_at r.problem.asks (q + 1 + k) ≡ slice_index_or asks k formula.Top
    ask_next q ask asks known k = let e : q + 1 + k ≡ q + suc k = omega arith in ap (ask_at r.problem.asks) e ∙ known (suc k)

    ask_here : (q : ℕ) (ask : Formula) (asks : List Formula) → ((k : ℕ) → ask_at r.problem.asks (q + k) ≡ slice_index_or (ask ∷ asks) k formula.Top) → ask_at r.problem.asks (q + 1 - 1) ≡ ask
    ask_here q ask asks known = let e : q + 1 - 1 ≡ q + 0 = omega arith in ap (ask_at r.problem.asks) e ∙ known 0

    verdicts_run : (verdicts : List Verdict) (asks : List Formula) (q : ℕ) (model : List Bool) (vector : List ℕ) (claims : List DueClaim) → q + length verdicts ≡ length r.problem.asks →
        ((k : ℕ) → ask_at r.problem.asks (q + k) ≡ slice_index_or asks k formula.Top) → AllZip (IsWitnessedVerdict (operator_of asked r) profile measure) asks verdicts → AllByRecursion (HasVerdictForm r) verdicts →
        RunsTo (here (verdict_due q) kind.Merged (seen_by model vector best q) claims) (verdict_items q verdicts) kind.Merged (claims ++ verdict_claims (values best) q verdicts)
    verdicts_run [] asks q model vector claims count known is form =
        let over : verdict_due q ≡ due.Main = verdicts_over q (omega arith) in
        let none : claims ++ [] ≡ claims = append-nil claims in (
          seen_by model vector best q,
          ap (λ (d : Due). here d kind.Merged (seen_by model vector best q) claims) over ∙ ap (λ (cs : List DueClaim). here due.Main kind.Merged (seen_by model vector best q) cs) (sym none),
        )
    verdicts_run (v ∷ verdicts) [] q model vector claims count known is form = absurd is
    verdicts_run (Yes ∷ verdicts) (ask ∷ asks) q model vector claims count known is form =
        let p : Position = here (verdict_due q) kind.Merged (seen_by model vector best q) claims in
        let claim : List DueClaim = of_first (NoBreaker q (values best)) ∷ [] in
        let m : Position = here (verdict_due (q + 1)) kind.Merged (seen_by model vector best (q + 1)) (claims ++ claim) in
        let is_due : DueAt (verdict_due q) p (VerdictLine q true) = subst (λ (d : Due). DueAt d p (VerdictLine q true)) (verdict_next q (omega arith)) (true, refl) in
        let rest = verdicts_run verdicts asks (q + 1) model vector (claims ++ claim) (omega arith) (ask_next q ask asks known) is.1 form.1 in
        claims_next p (VerdictLine q true ∷ verdict_items (q + 1) verdicts) kind.Merged claims claim (verdict_claims (values best) (q + 1) verdicts) (rest.0, (m, is_due, (refl, refl), rest.1))
    verdicts_run (No shown ∷ verdicts) (ask ∷ asks) q model vector claims count known is form =
        let p : Position = here (verdict_due q) kind.Merged (seen_by model vector best q) claims in
        let far : List DueClaim = far_claims (q + 1) shown.model shown.vector in
        let m : Position = here due.Model kind.Merged (seen_by model vector best (q + 1)) claims in
        let is_due : DueAt (verdict_due q) p (VerdictLine q false) = subst (λ (d : Due). DueAt d p (VerdictLine q false)) (verdict_next q (omega arith)) (false, refl) in
        let rest = verdicts_run verdicts asks (q + 1) shown.model shown.vector (claims ++ far) (omega arith) (ask_next q ask asks known) is.1 form.1 in
        let end : Position = here due.Main kind.Merged rest.0 ((claims ++ far) ++ verdict_claims (values best) (q + 1) verdicts) in
        claims_next p (VerdictLine q false ∷ ModelLine shown.model ∷ VectorLine shown.vector ∷ NearestLine shown.nearest ∷ verdict_items (q + 1) verdicts) kind.Merged claims far (verdict_claims (values best) (q + 1) verdicts)
        (rest.0, (m, is_due, (refl, refl), no_run shown q ask model vector best measure claims (verdict_items (q + 1) verdicts) end is.0 form.0 measured (ask_here q ask asks known) rest.1))

  same_ask : (k : ℕ) → ask_at r.problem.asks (0 + k) ≡ slice_index_or r.problem.asks k formula.Top
  same_ask k = let e : 0 + k ≡ k = omega arith in ap (ask_at r.problem.asks) e

  merged_run : (best : Shown) (measure : List ℕ) (verdicts : List Verdict) → IsWitnessedMerge (operator_of asked r) profile r.problem.asks best measure verdicts → HasAnswerForm asked r (Merged best measure verdicts) →
      RunsTo (begun asked (draft_of r.problem) (last_due r.problem.asks)) (answer_items (Merged best measure verdicts)) kind.Merged (claims_due (values_in (operator_of asked r) profile) (Merged best measure verdicts))
  merged_run best measure verdicts is form =
      let far : List DueClaim = far_claims 0 best.model best.vector in
      let least : List DueClaim = least_claims (values best.vector) in
      let count : 0 + length verdicts ≡ length r.problem.asks = omega (arith, form.3) in
      let rest = verdicts_run best.vector measure is.measured verdicts r.problem.asks 0 best.model best.vector (far ++ least) count same_ask is.judged (each_of_index (HasVerdictForm r) verdicts form.4) in
      let end : Position = here due.Main kind.Merged rest.0 ((far ++ least) ++ verdict_claims (values best.vector) 0 verdicts) in
      let m : Position = here (verdict_due 0) kind.Merged (after_first best) (far ++ least) in
      let held : bytes_eq measure (rank_of_vector best.vector) ≡ true = same_bytes measure (rank_of_vector best.vector) is.measured in
      claims_next (begun asked (draft_of r.problem) (last_due r.problem.asks)) (answer_items (Merged best measure verdicts)) kind.Merged far least (verdict_claims (values best.vector) 0 verdicts)
      (rest.0, first_run best (MeasureLine measure ∷ verdict_items 0 verdicts) end is.first form.0 (m, (measure, refl, form.1, each_of_index HasNumeral measure form.2), (held, refl), rest.1))

  -- formulas without a model

  abbrev seen_named : ℕ → Seen
  seen_named i = record { model = []; vector = []; best = []; verdicts = 0; named = i }

  base_next : (i : ℕ) (base : Formula) (bases : List Formula) → ((k : ℕ) → base_at profile (i + k) ≡ slice_index_or (base ∷ bases) k formula.Top) → (k : ℕ) → base_at profile (i + 1 + k) ≡ slice_index_or bases k formula.Top
  base_next i base bases known k = let e : i + 1 + k ≡ i + suc k = omega arith in ap (base_at profile) e ∙ known (suc k)

  base_here : (i : ℕ) (base : Formula) (bases : List Formula) → ((k : ℕ) → base_at profile (i + k) ≡ slice_index_or (base ∷ bases) k formula.Top) → base_at profile i ≡ base
  base_here i base bases known = let e : i ≡ i + 0 = omega arith in ap (base_at profile) e ∙ known 0

  -- some formula so far has no model, or one of the bases still to be named
  abbrev SomeNone : List DueClaim → List (Option (List Bool)) → Type 0
  SomeNone claims entries = (nat_lt 0 (length claims) ≡ true) ⊎ Contains entries None

  some_claim : (claims : List DueClaim) (c : DueClaim) → nat_lt 0 (length (claims ++ c ∷ [])) ≡ true
  some_claim claims c = true_lt 0 (length (claims ++ c ∷ [])) (omega (arith, length-append claims (c ∷ [])))

  none_later : (claims : List DueClaim) (w : List Bool) (entries : List (Option (List Bool))) → SomeNone claims (Some w ∷ entries) → SomeNone claims entries
  none_later claims w entries (inl h) = inl h
  none_later claims w entries (inr (zero, lt, e)) = absurd (cc)
  none_later claims w entries (inr (suc k, lt, e)) = inr (k, omega arith, e)

  may_name_by : (claims : List DueClaim) (entries : List (Option (List Bool))) (i : ℕ) → SomeNone claims entries → i + 1 + length entries ≡ length r.problem.agents → (nat_lt (i + 1) (length r.problem.agents) || nat_lt 0 (length claims)) ≡ true
  may_name_by claims entries i (inl h) count = or_right (nat_lt (i + 1) (length r.problem.agents)) (nat_lt 0 (length claims)) h
  may_name_by claims entries i (inr (k, lt, e)) count = or_left (nat_lt (i + 1) (length r.problem.agents)) (nat_lt 0 (length claims)) (true_lt (i + 1) (length r.problem.agents) (omega arith))

  bases_run : (entries : List (Option (List Bool))) (bases : List Formula) (i : ℕ) (claims : List DueClaim) → i + length entries ≡ length r.problem.agents → ((k : ℕ) → base_at profile (i + k) ≡ slice_index_or bases k formula.Top) →
      AllZip (IsWitnessedEntry profile.atoms) bases entries → AllByRecursion (HasEntryForm r) entries → SomeNone claims entries →
      RunsTo (here (named_due i) kind.Inconsistent (seen_named i) claims) (base_items i entries) kind.Inconsistent (claims ++ base_claims i entries)
  bases_run [] bases i claims count known is form some =
      let over : named_due i ≡ due.Main = named_over i (omega arith) in
      let none : claims ++ [] ≡ claims = append-nil claims in
      (seen_named i, ap (λ (d : Due). here d kind.Inconsistent (seen_named i) claims) over ∙ ap (λ (cs : List DueClaim). here due.Main kind.Inconsistent (seen_named i) cs) (sym none))
  bases_run (e ∷ entries) [] i claims count known is form some = absurd is
  bases_run (None ∷ entries) (base ∷ bases) i claims count known is form some =
      let p : Position = here (named_due i) kind.Inconsistent (seen_named i) claims in
      let claim : DueClaim = of_first (lack_of (BaseOf i)) in
      let m : Position = here (named_due (i + 1)) kind.Inconsistent (seen_named (i + 1)) (claims ++ claim ∷ []) in
      let is_due : DueAt (named_due i) p (NoModelLine (BaseOf i)) = subst (λ (d : Due). DueAt d p (NoModelLine (BaseOf i))) (named_next i (omega arith)) (inl refl) in
      let rest = bases_run entries bases (i + 1) (claims ++ claim ∷ []) (omega arith) (base_next i base bases known) is.1 form.1 (inl (some_claim claims claim)) in
      claims_next p (NoModelLine (BaseOf i) ∷ base_items (i + 1) entries) kind.Inconsistent claims (claim ∷ []) (base_claims (i + 1) entries) (rest.0, (m, is_due, (refl, refl), rest.1))
  bases_run (Some w ∷ entries) (base ∷ bases) i claims count known is form some =
      let p : Position = here (named_due i) kind.Inconsistent (seen_named i) claims in
      let m : Position = here (named_due (i + 1)) kind.Inconsistent (seen_named (i + 1)) claims in
      let model : IsModel profile.atoms base w = is.0 in
      let later : SomeNone claims entries = none_later claims w entries some in
      let is_due : DueAt (named_due i) p (HasModelLine (BaseOf i) w) = subst (λ (d : Due). DueAt d p (HasModelLine (BaseOf i) w)) (named_next i (omega arith)) (inr (w, refl, model.size)) in
      let held : (formulas.holds (base_at profile i) w && (nat_lt (i + 1) (length r.problem.agents) || nat_lt 0 (length claims))) ≡ true =
      and_both (formulas.holds (base_at profile i) w) (nat_lt (i + 1) (length r.problem.agents) || nat_lt 0 (length claims)) (ap (λ (f : Formula). formulas.holds f w) (base_here i base bases known) ∙ model.true_there) (may_name_by claims entries i later (omega arith)) in
      let rest = bases_run entries bases (i + 1) claims (omega arith) (base_next i base bases known) is.1 form.1 later in
      (rest.0, (m, is_due, (held, refl), rest.1))

  same_base : (k : ℕ) → base_at profile (0 + k) ≡ slice_index_or profile.bases k formula.Top
  same_base k = let e : 0 + k ≡ k = omega arith in ap (base_at profile) e

  naming_run : (constraint : Option (List Bool)) (agents : List (Option (List Bool))) → IsWitnessedNaming profile constraint agents → HasAnswerForm asked r (Inconsistent constraint agents) →
      RunsTo (begun asked (draft_of r.problem) (last_due r.problem.asks)) (answer_items (Inconsistent constraint agents)) kind.Inconsistent (claims_due (values_in (operator_of asked r) profile) (Inconsistent constraint agents))
  naming_run None agents is form =
      let p : Position = begun asked (draft_of r.problem) (last_due r.problem.asks) in
      let claim : DueClaim = of_first (lack_of TheConstraint) in
      let m : Position = here (named_due 0) kind.Inconsistent (seen_named 0) (claim ∷ []) in
      let rest = bases_run agents profile.bases 0 (claim ∷ []) (omega (arith, form.1)) same_base is.base_entries (each_of_index (HasEntryForm r) agents form.2) (inl refl) in
      (rest.0, (m, answer_due r.problem.asks p (NoModelLine TheConstraint) (inr (inl (inl refl))), (refl, refl), rest.1))
  naming_run (Some w) agents is form =
      let p : Position = begun asked (draft_of r.problem) (last_due r.problem.asks) in
      let m : Position = here (named_due 0) kind.Inconsistent (seen_named 0) [] in
      let model : IsModel profile.atoms profile.constraint w = is.constraint_entry in
      let later : SomeNone [] agents = elim is.some_none [ inl e ↦ absurd (cc) | inr c ↦ inr c ] in
      let held : (formulas.holds profile.constraint w && (nat_lt 0 (length r.problem.agents) || false)) ≡ true =
      and_both (formulas.holds profile.constraint w) (nat_lt 0 (length r.problem.agents) || false) model.true_there (or_left (nat_lt 0 (length r.problem.agents)) false (true_lt 0 (length r.problem.agents) (let some = r.problem.limits.some_agent in omega arith))) in
      let rest = bases_run agents profile.bases 0 [] (omega (arith, form.1)) same_base is.base_entries (each_of_index (HasEntryForm r) agents form.2) later in
      (rest.0, (m, answer_due r.problem.asks p (HasModelLine TheConstraint w) (inr (inl (inr (w, refl, model.size)))), (held, refl), rest.1))

  -- an answer of the search that gave up has no claim
  pub gave_up_run : RunsTo (begun asked (draft_of r.problem) (last_due r.problem.asks)) (GaveUpLine ∷ []) kind.Spent []
  gave_up_run =
      let p : Position = begun asked (draft_of r.problem) (last_due r.problem.asks) in
      (unseen, (here due.Main kind.Spent unseen [], answer_due r.problem.asks p GaveUpLine (inr (inr refl)), (refl, refl), refl))

  pub answer_run : (answer : Answer) → IsWitnessed (operator_of asked r) profile r.problem.asks answer → HasAnswerForm asked r answer →
      RunsTo (begun asked (draft_of r.problem) (last_due r.problem.asks)) (answer_items answer) (kind_of_answer answer) (claims_due (values_in (operator_of asked r) profile) answer)
  answer_run (Merged best measure verdicts) is form = merged_run best measure verdicts is form
  answer_run (Inconsistent constraint agents) is form = naming_run constraint agents is form
  answer_run GaveUp is form = absurd is
