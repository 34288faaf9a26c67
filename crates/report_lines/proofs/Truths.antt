-- What an accepted answer says is true.
use Rattle.std.proofs.Common.{◌≡◌, ℕ, zero, suc, ◌+◌, ◌<◌, ◌≤◌, Bool, true, false, List, [], ◌∷◌, ◌++◌, length, map, refl, sym, ap, ◌∙◌, subst, arith, All, Option, None, Some}
use Rattle.std.specs.Prelude.{slice_index, slice_index_or}
use Rattle.std.specs.List.{AllZip}
use Rattle.std.specs.Cmp.Lexicographic.{slice_cmp}
use Rattle.std.specs.Ordering.{is_gt, nat_cmp}
use Rattle.std.proofs.lemmas.List.{length-map}
use Rattle.std.proofs.lemmas.List.Elements.{All-map}
use Rattle.formulas.specs.declared.formula.Formula.{Formula}
use Rattle.formulas.specs.declared.formula.Formula as formula
use Rattle.formulas.specs.Formulas.{holds}
use Rattle.formulas.specs.Limits.{valuation_limit}
use Rattle.merge_model.specs.declared.answer.Shown.{Shown}
use Rattle.merge_model.specs.declared.answer.Verdict.{Verdict}
use Rattle.merge_model.specs.declared.answer.Verdict.TheVariants.{Yes, No}
use Rattle.merge_model.specs.Answers.{IsShown, IsVerdict, IsRightMerge, IsNamedEntry, NamesModels}
use Rattle.merge_model.specs.Merging.{Profile, IsModel, HasModel, IsClosest, IsEntailed, away, vector_of, repeated, full_of}
use Rattle.clause_store.proofs.Fresh.{length-fresh_lits}
use Rattle.merge_model.proofs.Fulls.{away_within, repeated_small}
use Rattle.aggregators.specs.Levels.{FitLevels}
use Rattle.merge_encoding.specs.MainDues.{MainDue, IsLimited, IsMain}
use Rattle.merge_encoding.specs.Claims.{Assertion, NoModelOfConstraint, NoModelOfBase, NoNearer, NoBetter, NoBreaker, IsCandidate, IsBetterAt, AreUpTo, IsTrueThat, base_at, ask_at, values_at}
use Rattle.merge_encoding.specs.Assumptions.{NoneSatisfies, assumed}
use Rattle.merge_encoding.proofs.Same.{IsProperOf}
use Rattle.report_lines.specs.declared.kinds.Subject.TheVariants.{TheConstraint}
use Rattle.report_lines.specs.ClaimsDue.{of_first, far_claims, least_claims, verdict_claims, unless_some, base_claims}
use Rattle.report_lines.specs.Accepted.{Operator, values_in, IsWitness, IsWitnessedVerdict, IsWitnessedMerge, IsWitnessedEntry, IsWitnessedNaming}
use Rattle.merge_encoding.proofs.ValueOrders.{NotAbove, one_list, no_first_lower, none_below_zero, up_itself}
use Rattle.merge_encoding.proofs.Signs.{fit_length}
use Rattle.report_lines.proofs.Refuted.{IsOut, AreOut, out_front, numbered_out, IsVerdictOut, verdict_out, base_out}
use Rattle.report_lines.proofs.Witnesses.{away_size, models_long, copies_within, vector_exact, shown_nearest, full_long}
use Rattle.merge_model.proofs.Nearest.{nearest_copies, have_models}

-- what a distance and an aggregator keep
pub record AreLaws (op : Operator) : Type 0 where
  pub within : (v w : List Bool) → length v ≡ length w → 1 ≤ length v → length v ≤ valuation_limit → op.dist v w ≤ op.most (length v)
  pub in_order : (top : ℕ) (u w : List ℕ) → All (λ k. k ≤ top) u → All (λ k. k ≤ top) w → length u ≡ length w →
      slice_cmp nat_cmp (op.levels_of u top) (op.levels_of w top) ≡ slice_cmp nat_cmp (op.rank u) (op.rank w)

-- there is a shared literal for each atom
pub shared_size : {dist : List Bool → List Bool → ℕ} {top : ℕ} {values_of : List ℕ → ℕ → List ℕ} {p : Profile} {asks : List Formula} {main : MainDue} → IsMain dist top values_of p asks main → length main.shared ≡ p.atoms
shared_size {p = p} m = ap length m.shared_are ∙ length-fresh_lits 0 p.atoms

unless_false : (b : Bool) → (b ≡ false → ⊥) → b ≡ true
unless_false true h = refl
unless_false false h = absurd (h refl)

module _ (op : Operator) (laws : AreLaws op) (p : Profile) (asks : List Formula) (lim : IsLimited p asks) (main : MainDue) (m : IsMain op.dist (op.most p.atoms) op.levels_of p asks main) (true_there : (claim : Assertion) → IsProperOf main p.atoms claim → NoneSatisfies main (assumed main claim) → IsTrueThat op.dist (op.most p.atoms) op.levels_of p asks claim) where
  abbrev pub values_of : List Bool → List (List Bool) → List ℕ
  values_of v ws = values_at op.dist (op.most p.atoms) op.levels_of p v ws

  abbrev pub truths_of : List Bool → List ℕ
  truths_of v = values_in op p (vector_of op.dist p.bases v)

  -- no model of a base is nearer than the entry
  far_by : (q : ℕ) (shown : Shown) → IsWitness op p shown → AreOut main (far_claims q shown.model shown.vector) → (j k : ℕ) → slice_index shown.vector j ≡ k → (u : List Bool) → j < length p.bases → IsModel p.atoms (base_at p j) u → k ≤ op.dist shown.model u
  far_by q shown wit out j zero e u lt mu = omega arith
  far_by q shown wit out j (suc k) e u lt mu =
      let model = wit.model in
      let within : j < length main.copies = omega (arith, m.size) in
      let long : length shown.vector ≡ length p.bases = ap length wit.vector ∙ length-map shown.nearest (op.dist shown.model) ∙ models_long p.atoms p.bases shown.nearest wit.nearest in
      let small : slice_index shown.vector j ≤ op.most p.atoms = wit.within j 0 (omega arith) in
      let size = away_size (op.most p.atoms) main.copies j m.counters_sized within in
      let same : 0 + j ≡ j = omega arith in
      let here = subst (λ (i : ℕ). IsOut main (NoNearer i shown.model (suc k))) same (numbered_out main (λ i d. record { model = q; says = NoNearer i shown.model d }) 0 shown.vector out j k (omega arith) e) in
      true_there (NoNearer j shown.model (suc k)) (within, model.size, omega arith, omega arith) here u mu

  -- the vector is exact
  pub exact : (q : ℕ) (shown : Shown) → IsWitness op p shown → AreOut main (far_claims q shown.model shown.vector) → shown.vector ≡ vector_of op.dist p.bases shown.model
  exact q shown wit out =
      let model = wit.model in
      wit.vector ∙ vector_exact op.dist p.atoms shown.model model.size p.bases shown.nearest wit.nearest
      (λ j u lt mu. far_by q shown wit out j (slice_index (map (op.dist shown.model) shown.nearest) j) (ap (λ ks. slice_index ks j) wit.vector) u lt mu)

  pub is_shown : (q : ℕ) (shown : Shown) → IsWitness op p shown → AreOut main (far_claims q shown.model shown.vector) → IsShown op.dist p shown
  is_shown q shown wit out =
      let model = wit.model in
      let e = exact q shown wit out in
      record { vector = e; nearest = shown_nearest op.dist p.atoms shown.model model.size p.bases shown.nearest wit.nearest (sym wit.vector ∙ e) }

  pub dist_within : (v w : List Bool) → length v ≡ p.atoms → length v ≡ length w → op.dist v w ≤ op.most p.atoms
  dist_within v w size same =
      let lo : 1 ≤ length v = omega (arith, lim.some_atom) in
      let hi : length v ≤ valuation_limit = omega (arith, lim.few_atoms) in
      subst (λ n. op.dist v w ≤ op.most n) size (laws.within v w same lo hi)

  pub values_fit : (v : List Bool) (ws : List (List Bool)) → IsCandidate p v ws → FitLevels (values_of v ws) main.levels
  values_fit v ws c =
      let model = c.model in
      m.levels_fit (map (op.dist v) ws) (length-map ws (op.dist v) ∙ models_long p.atoms p.bases ws c.models)
      (copies_within op.dist p.atoms v model.size (op.most p.atoms) (λ w same. dist_within v w model.size same) p.bases ws c.models)

  pub values_long : (v : List Bool) (ws : List (List Bool)) → IsCandidate p v ws → length (values_of v ws) ≡ length main.levels
  values_long v ws c = fit_length (values_of v ws) main.levels (values_fit v ws c)

  better_by : (values : List ℕ) → FitLevels values main.levels → length values ≡ length main.levels → AreOut main (least_claims values) → (j k : ℕ) → slice_index values j ≡ k → j < length values →
      (u : List Bool) (us : List (List Bool)) → IsCandidate p u us → IsBetterAt j (values_of u us) values → ⊥
  better_by values fit long out j zero e lt u us c b = none_below_zero j (values_of u us) values e b
  better_by values fit long out j (suc k) e lt u us c b =
      let same : 0 + j ≡ j = omega arith in
      let here = subst (λ (i : ℕ). IsOut main (NoBetter i values)) same (numbered_out main (λ i d. of_first (NoBetter i values)) 0 values out j k lt e) in
      true_there (NoBetter j values) (omega arith, fit, omega arith) here u us c b

  -- no candidate has values below
  below : (v : List Bool) (ws : List (List Bool)) → IsCandidate p v ws → AreOut main (least_claims (values_of v ws)) → (u : List Bool) (us : List (List Bool)) → IsCandidate p u us → NotAbove (values_of v ws) (values_of u us)
  below v ws cv out u us cu =
      no_first_lower (values_of u us) (values_of v ws) (values_long u us cu ∙ sym (values_long v ws cv))
      (λ j lt b. better_by (values_of v ws) (values_fit v ws cv) (values_long v ws cv) out j (slice_index (values_of v ws) j) refl lt u us cu b)

  -- each model of the constraint is a candidate with its true values
  pub truth_there : All (HasModel p.atoms) p.bases → (u : List Bool) → IsModel p.atoms p.constraint u → (us : List (List Bool)) × IsCandidate p u us × (values_of u us ≡ truths_of u)
  truth_there have u mu =
      let c = nearest_copies op.dist p.atoms u mu.size p.bases have in
      (c.0, record { model = mu; models = c.1 }, ap (λ ks. values_in op p ks) c.2)

  pub full_within : (u : List Bool) → length u ≡ p.atoms → All (λ k. k ≤ op.most p.atoms) (full_of op.dist p u)
  full_within u size =
      let lo : 1 ≤ length u = omega (arith, lim.some_atom) in
      let hi : length u ≤ valuation_limit = omega (arith, lim.few_atoms) in
      repeated_small (op.most p.atoms) p.times (vector_of op.dist p.bases u)
      (All-map (λ k. k ≤ op.most p.atoms) (away op.dist u) p.bases (λ i f lt. away_within op.dist (op.most p.atoms) u _ (λ w same. subst (λ n. op.dist u w ≤ op.most n) size (laws.within u w same lo hi))))

  pub truths_order : (u w : List Bool) → length u ≡ p.atoms → length w ≡ p.atoms → slice_cmp nat_cmp (truths_of u) (truths_of w) ≡ slice_cmp nat_cmp (op.rank (full_of op.dist p u)) (op.rank (full_of op.dist p w))
  truths_order u w eu ew =
      laws.in_order (op.most p.atoms) (full_of op.dist p u) (full_of op.dist p w) (full_within u eu) (full_within w ew)
      (full_long p.times (vector_of op.dist p.bases u) (vector_of op.dist p.bases w) (length-map p.bases (away op.dist u) ∙ sym (length-map p.bases (away op.dist w))))

  -- the first valuation of a report
  module _ (best : Shown) (wit : IsWitness op p best) (far : AreOut main (far_claims 0 best.model best.vector)) (least : AreOut main (least_claims (values_in op p best.vector))) where
    have : All (HasModel p.atoms) p.bases
    have = have_models p.atoms p.bases best.nearest wit.nearest

    candidate : IsCandidate p best.model best.nearest
    candidate = record { model = wit.model; models = wit.nearest }

    copies : values_in op p best.vector ≡ values_of best.model best.nearest
    copies = ap (λ ks. values_in op p ks) wit.vector

    truth : truths_of best.model ≡ values_of best.model best.nearest
    truth = ap (λ ks. values_in op p ks) (sym (exact 0 best wit far)) ∙ copies

    lowest : (u : List Bool) → IsModel p.atoms p.constraint u → NotAbove (truths_of best.model) (truths_of u)
    lowest u mu =
        let c = truth_there have u mu in
        subst (λ ks. NotAbove ks (truths_of u)) (sym truth)
        (subst (λ ks. NotAbove (values_of best.model best.nearest) ks) c.2 (below best.model best.nearest candidate (subst (λ ks. AreOut main (least_claims ks)) copies least) u c.0 c.1))

    pub is_closest : IsClosest op.dist op.rank p best.model
    is_closest =
        let model = wit.model in
        record {
          consistent = have;
          model = model;
          best = λ u mu. ap is_gt (sym (truths_order best.model u model.size mu.size)) ∙ lowest u mu;
        }

    -- a closest valuation has the values of the report
    same_truths : (u : List Bool) → IsClosest op.dist op.rank p u → truths_of u ≡ truths_of best.model
    same_truths u h =
        let mu = h.model in
        let model = wit.model in
        let cu = truth_there have u mu in
        let cb = truth_there have best.model model in
        one_list (truths_of u) (truths_of best.model)
        (ap length (sym cu.2) ∙ values_long u cu.0 cu.1 ∙ sym (values_long best.model cb.0 cb.1) ∙ ap length cb.2)
        (ap is_gt (truths_order u best.model mu.size model.size) ∙ h.best best.model model)
        (lowest u mu)

    pub is_entailed : (q : ℕ) → q < length asks → IsOut main (NoBreaker q (values_in op p best.vector)) → IsEntailed op.dist op.rank p (ask_at asks q)
    is_entailed q lt out u h =
        let mu = h.model in
        let c = truth_there have u mu in
        let fit : FitLevels (values_in op p best.vector) main.levels = subst (λ ks. FitLevels ks main.levels) (sym copies) (values_fit best.model best.nearest candidate) in
        let is : values_of u c.0 ≡ values_in op p best.vector = c.2 ∙ same_truths u h ∙ truth ∙ sym copies in
        let within : q < length main.asks = omega (arith, m.asks_size) in
        unless_false (holds (ask_at asks q) u) (λ off.
        true_there (NoBreaker q (values_in op p best.vector)) (within, fit) out u c.0 c.1 off
        (subst (λ ks. AreUpTo (values_of u c.0) ks) is (up_itself (values_of u c.0))))

    -- a valuation with the rank of the first is closest too
    as_good : (q : ℕ) (shown : Shown) → IsWitness op p shown → AreOut main (far_claims q shown.model shown.vector) → op.rank (repeated p.times best.vector) ≡ op.rank (repeated p.times shown.vector) → IsClosest op.dist op.rank p shown.model
    as_good q shown other out e =
        let ranks : op.rank (full_of op.dist p best.model) ≡ op.rank (full_of op.dist p shown.model) =
        ap (λ ks. op.rank (repeated p.times ks)) (sym (exact 0 best wit far)) ∙ e ∙ ap (λ ks. op.rank (repeated p.times ks)) (exact q shown other out) in
        record {
          consistent = have;
          model = other.model;
          best = λ u mu. subst (λ ks. is_gt (slice_cmp nat_cmp ks (op.rank (full_of op.dist p u))) ≡ false) ranks (is_closest.best u mu);
        }

    one_verdict : (measure : List ℕ) → measure ≡ op.rank (repeated p.times best.vector) → (q : ℕ) → q < length asks → (verdict : Verdict) → IsWitnessedVerdict op p measure (ask_at asks q) verdict → IsVerdictOut main (values_in op p best.vector) q verdict → IsVerdict op.dist op.rank p (ask_at asks q) verdict
    one_verdict measure e q lt Yes w out = is_entailed q lt out
    one_verdict measure e q lt (No shown) w out = (as_good (q + 1) shown w.0 out (sym e ∙ w.1), is_shown (q + 1) shown w.0 out, w.2)

  judged : (P Q : Formula → Verdict → Type 0) (fs : List Formula) (verdicts : List Verdict) → AllZip P fs verdicts → ((i : ℕ) → i < length fs → P (slice_index_or fs i formula.Top) (slice_index_or verdicts i Yes) → Q (slice_index_or fs i formula.Top) (slice_index_or verdicts i Yes)) → AllZip Q fs verdicts
  judged P Q [] [] h to = tt
  judged P Q [] (v ∷ vs) h to = absurd h
  judged P Q (f ∷ fs) [] h to = absurd h
  judged P Q (f ∷ fs) (v ∷ vs) h to = (to 0 (omega arith) h.0, judged P Q fs vs h.1 (λ i lt r. to (suc i) (omega arith) r))

  zip_size : (P : Formula → Verdict → Type 0) (fs : List Formula) (verdicts : List Verdict) → AllZip P fs verdicts → length fs ≡ length verdicts
  zip_size P [] [] h = refl
  zip_size P [] (v ∷ vs) h = absurd h
  zip_size P (f ∷ fs) [] h = absurd h
  zip_size P (f ∷ fs) (v ∷ vs) h = ap suc (zip_size P fs vs h.1)

  pub merged_right : (best : Shown) (measure : List ℕ) (verdicts : List Verdict) → IsWitnessedMerge op p asks best measure verdicts →
      AreOut main (far_claims 0 best.model best.vector ++ (least_claims (values_in op p best.vector) ++ verdict_claims (values_in op p best.vector) 0 verdicts)) → IsRightMerge op.dist op.rank p asks best measure verdicts
  merged_right best measure verdicts w out =
      let values = values_in op p best.vector in
      let front = out_front main (far_claims 0 best.model best.vector) (least_claims values ++ verdict_claims values 0 verdicts) out in
      let back = out_front main (least_claims values) (verdict_claims values 0 verdicts) front.1 in
      let size = zip_size (IsWitnessedVerdict op p measure) asks verdicts w.judged in
      record {
        closest = is_closest best w.first front.0 back.0;
        shown = is_shown 0 best w.first front.0;
        measured = w.measured;
        judged = judged (IsWitnessedVerdict op p measure) (IsVerdict op.dist op.rank p) asks verdicts w.judged (λ i lt r.
            let same : 0 + i ≡ i = omega arith in
            one_verdict best w.first front.0 back.0 measure w.measured i lt (slice_index_or verdicts i Yes) r
            (subst (λ (k : ℕ). IsVerdictOut main values k (slice_index_or verdicts i Yes)) same (verdict_out main values 0 verdicts back.1 i (omega arith))));
      }

  -- an entry says of its formula what is true
  entry_by : (f : Formula) (entry : Option (List Bool)) → IsWitnessedEntry p.atoms f entry → (entry ≡ None → HasModel p.atoms f → ⊥) → IsNamedEntry p.atoms f entry
  entry_by f None w none = none refl
  entry_by f (Some v) w none = w

  entries_by : (fs : List Formula) (entries : List (Option (List Bool))) → AllZip (IsWitnessedEntry p.atoms) fs entries →
      ((j : ℕ) → j < length fs → slice_index_or entries j None ≡ None → HasModel p.atoms (slice_index_or fs j formula.Top) → ⊥) → AllZip (IsNamedEntry p.atoms) fs entries
  entries_by [] [] h none = tt
  entries_by [] (e ∷ es) h none = absurd h
  entries_by (f ∷ fs) [] h none = absurd h
  entries_by (f ∷ fs) (e ∷ es) h none = (entry_by f e h.0 (λ is. none 0 (omega arith) is), entries_by fs es h.1 (λ j lt is. none (suc j) (omega arith) is))

  entries_size : (fs : List Formula) (entries : List (Option (List Bool))) → AllZip (IsWitnessedEntry p.atoms) fs entries → length fs ≡ length entries
  entries_size [] [] h = refl
  entries_size [] (e ∷ es) h = absurd h
  entries_size (f ∷ fs) [] h = absurd h
  entries_size (f ∷ fs) (e ∷ es) h = ap suc (entries_size fs es h.1)

  constraint_by : (entry : Option (List Bool)) → AreOut main (unless_some TheConstraint entry) → entry ≡ None → HasModel p.atoms p.constraint → ⊥
  constraint_by None out is = true_there NoModelOfConstraint tt out.0
  constraint_by (Some v) out is = absurd (cc)

  pub named_right : (constraint : Option (List Bool)) (agents : List (Option (List Bool))) → IsWitnessedNaming p constraint agents → AreOut main (unless_some TheConstraint constraint ++ base_claims 0 agents) → NamesModels p constraint agents
  named_right constraint agents w out =
      let front = out_front main (unless_some TheConstraint constraint) (base_claims 0 agents) out in
      let size = entries_size p.bases agents w.base_entries in
      record {
        constraint_named = entry_by p.constraint constraint w.constraint_entry (constraint_by constraint front.0);
        bases_named = entries_by p.bases agents w.base_entries (λ j lt is.
            let same : 0 + j ≡ j = omega arith in
            let within : j < length main.copies = omega (arith, m.size) in
            true_there (NoModelOfBase j) within (subst (λ (i : ℕ). IsOut main (NoModelOfBase i)) same (base_out main 0 agents front.1 j (omega arith) is)));
        some_none = w.some_none;
      }
