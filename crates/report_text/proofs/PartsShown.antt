-- A valuation that an answer shows: its model line, its vector and the nearest models.
use Rattle.std.proofs.Common.{◌≡◌, ℕ, ◌≤◌, ◌==◌, nat_le, Bool, true, ◌&&◌, List, [], ◌∷◌, ◌++◌, length, map, unwrap_or, refl, sym, subst, ◌∙◌, arith}
use Rattle.std.specs.Prelude.{All, if◌then◌else◌}
use Rattle.std.specs.List.{AllZip, AllByRecursion, list_all}
use Rattle.std.proofs.lemmas.List.{length-map}
use Rattle.std.proofs.lemmas.List.Elements.{All-from_recursion}
use Rattle.clause_store.proofs.Truths.{and_left, and_right}
use Rattle.formulas.specs.declared.formula.Formula.{Formula}
use Rattle.formulas.specs.declared.formula.Formula as formula
use Rattle.formulas.specs.Formulas as formulas
use Rattle.merge_model.specs.declared.agent.Agent.{Agent}
use Rattle.merge_model.specs.declared.answer.Shown.{Shown}
use Rattle.merge_model.specs.declared.operator.AggregatorName.{AggregatorName}
use Rattle.merge_model.specs.declared.operator.DistanceName.{DistanceName}
use Rattle.merge_model.specs.Answers.{dist_named, rank_named}
use Rattle.merge_model.specs.Merging.{Profile, IsModel, repeated}
use Rattle.merge_encoding.specs.MainDues.{MainDue}
use Rattle.merge_encoding.specs.Named.{main_named}
use Rattle.problem_reading.specs.Drafts.{Draft}
use Rattle.report_words.specs.Numbers.{HasNumeral}
use Rattle.report_lines.specs.declared.kinds.Due.TheVariants as due
use Rattle.report_lines.specs.ClaimsDue.{far_claims}
use Rattle.report_lines.specs.Accepted.{Operator, IsWitness, values_in}
use Rattle.report_lines.specs.Operators.{operator_named}
use Rattle.report_lines.specs.Items.{Item, ModelLine, VectorLine, NearestLine}
use Rattle.report_lines.specs.Places.{Position, DueAt, IsOver, atoms_at, agents_at, profile_at, top_at}
use Rattle.report_lines.specs.Holding.{are_near, is_as_good}
use Rattle.report_lines.specs.Following.{LeadsTo, after, due_after_verdicts}
use Rattle.report_lines.specs.Judged.{Run}
use Rattle.report_lines.proofs.Elements.{eq_is}
use Rattle.report_text.proofs.PartsPlaces.{Next, next}
use Rattle.log_lines.proofs.Narrow.{le_is}

-- what is asked, and what the lines of the problem declare
pub record Setting : Type 0 where
  pub distance : DistanceName
  pub aggregator : AggregatorName
  pub conflicts : ℕ
  pub draft : Draft

abbrev pub setting_at : Position → Setting
setting_at p = record { distance = p.distance; aggregator = p.aggregator; conflicts = p.conflicts; draft = p.draft }

abbrev pub profile_in : Setting → Profile
profile_in s = record {
  atoms = length s.draft.atoms;
  constraint = unwrap_or s.draft.constraint formula.Top;
  times = map (λ agent. agent.times) s.draft.agents;
  bases = map (λ agent. agent.base) s.draft.agents;
}

abbrev pub op_in : Setting → Operator
op_in s = operator_named s.distance s.aggregator s.draft.atoms

abbrev pub main_in : Setting → MainDue
main_in s = main_named s.distance s.aggregator (profile_in s) s.draft.asks

abbrev pub values_of : Setting → List ℕ → List ℕ
values_of s vector = values_in (op_in s) (profile_in s) vector

abbrev pub rank_in : Setting → List ℕ → List ℕ
rank_in s vector = rank_named s.aggregator (repeated (profile_in s).times vector)

-- how many entries there are, for so many atoms and agents
pub record ShownFits (atoms agents : ℕ) (shown : Shown) : Type 0 where
  pub model : length shown.model ≡ atoms
  pub entries : length shown.vector ≡ agents
  pub numbers : All HasNumeral shown.vector
  pub nearest : length shown.nearest ≡ agents
  pub over : All (λ w. length w ≡ atoms) shown.nearest

abbrev pub shown_with : List Bool → List ℕ → List (List Bool) → Shown
shown_with w ds ws = record { model = w; vector = ds; nearest = ws }

all_within : (top : ℕ) (ds : List ℕ) → list_all (λ d. nat_le d top) ds ≡ true → AllByRecursion (λ d. d ≤ top) ds
all_within top [] e = tt
all_within top (d ∷ ds) e = (le_is d top (and_left (nat_le d top) (list_all (λ k. nat_le k top) ds) e), all_within top ds (and_right (nat_le d top) (list_all (λ k. nat_le k top) ds) e))

both_numbers : (a b : ℕ) (xs ys : List ℕ) → a ≡ b → xs ≡ ys → a ∷ xs ≡ b ∷ ys
both_numbers a b xs ys e f = cc

module _ (n : ℕ) (dist : List Bool → List Bool → ℕ) (model : List Bool) where
  near_are : (bases : List Formula) (ds : List ℕ) (ws : List (List Bool)) → length ds ≡ length bases → length ws ≡ length bases → AllByRecursion (λ w. length w ≡ n) ws
      → are_near dist model bases ds ws ≡ true → AllZip (IsModel n) bases ws × (ds ≡ map (dist model) ws)
  near_are [] [] [] a b o e = (tt, refl)
  near_are [] [] (w ∷ ws) a b o e = absurd (omega (arith, b))
  near_are [] (d ∷ ds) ws a b o e = absurd (omega (arith, a))
  near_are (f ∷ fs) [] ws a b o e = absurd (omega (arith, a))
  near_are (f ∷ fs) (d ∷ ds) [] a b o e = absurd (omega (arith, b))
  near_are (f ∷ fs) (d ∷ ds) (w ∷ ws) a b o e =
      let here = and_left (formulas.holds f w && dist model w == d) (are_near dist model fs ds ws) e in
      let there = and_right (formulas.holds f w && dist model w == d) (are_near dist model fs ds ws) e in
      let r = near_are fs ds ws (omega (arith, a)) (omega (arith, b)) o.1 there in
      let far : dist model w ≡ d = eq_is (dist model w) d (and_right (formulas.holds f w) (dist model w == d) here) in
      ((record { size = o.0; true_there = and_left (formulas.holds f w) (dist model w == d) here }, r.0), both_numbers d (dist model w) ds (map (dist model) ws) (sym far) r.1)

-- the place after a model, its vector and the nearest models; `first` says that no verdict was given before
abbrev pub shown_place : Position → Bool → List Bool → List ℕ → Position
shown_place p first w ds = record p {
  due = if first then due.Measure else due_after_verdicts p p.verdicts;
  model = w;
  vector = ds;
  best = if first then ds else p.best;
  claims = p.claims ++ far_claims p.verdicts w ds;
}

pub record Block (p : Position) (first : Bool) (w : List Bool) (q : Position) (xs : List Item) : Type 0 where
  pub vector : List ℕ
  pub nearest : List (List Bool)
  pub rest : List Item
  pub items : xs ≡ VectorLine vector ∷ NearestLine nearest ∷ rest
  pub fits : ShownFits (length (setting_at p).draft.atoms) (length (setting_at p).draft.agents) (shown_with w vector nearest)
  pub witness : IsWitness (op_in (setting_at p)) (profile_in (setting_at p)) (shown_with w vector nearest)
  pub good : is_as_good p vector ≡ true
  pub run : Run (shown_place p first w vector) rest q

two_items : (v n x y : Item) (xs ys zs : List Item) → xs ≡ v ∷ ys → v ≡ x → ys ≡ n ∷ zs → n ≡ y → xs ≡ x ∷ y ∷ zs
two_items v n x y xs ys zs e f g h = cc

pub shown_rest : (p q : Position) (first : Bool) (w : List Bool) (xs : List Item) → (p.verdicts == 0) ≡ first → IsOver p w → formulas.holds (profile_at p).constraint w ≡ true
    → Run (after p (ModelLine w)) xs q → q.due ≡ due.Over → Block p first w q xs
shown_rest p q first w xs e size model r over =
    let p1 : Position = after p (ModelLine w) in
    let v : Next due.Vector p1 q xs = next due.Vector p1 q xs refl refl over r in
    let dv : DueAt due.Vector p1 v.item = v.of in
    let ds : List ℕ = dv.0 in
    let lv : LeadsTo p1 (VectorLine ds) v.place = subst (λ (y : Item). LeadsTo p1 y v.place) dv.1 v.leads in
    let p2 : Position = after p1 (VectorLine ds) in
    let r2 : Run p2 v.rest q = subst (λ (m : Position). Run m v.rest q) lv.1 v.run in
    let n : Next due.Nearest p2 q v.rest = next due.Nearest p2 q v.rest refl refl over r2 in
    let dn : DueAt due.Nearest p2 n.item = n.of in
    let ws : List (List Bool) = dn.0 in
    let ln : LeadsTo p2 (NearestLine ws) n.place = subst (λ (y : Item). LeadsTo p2 y n.place) dn.1 n.leads in
    let r3 : Run (after p2 (NearestLine ws)) n.rest q = subst (λ (m : Position). Run m n.rest q) ln.1 n.run in
    let bases : length (profile_at p).bases ≡ agents_at p = length-map p.draft.agents (λ (a : Agent). a.base) in
    let near = near_are (atoms_at p) (dist_named p.distance p.draft.atoms) w (profile_at p).bases ds ws (dv.2 ∙ sym bases) (dn.2 ∙ sym bases) dn.3 ln.0 in
    let within : list_all (λ d. nat_le d (top_at p)) ds ≡ true = and_left (list_all (λ d. nat_le d (top_at p)) ds) (is_as_good p ds) lv.0 in
    record {
      vector = ds;
      nearest = ws;
      rest = n.rest;
      items = two_items v.item n.item (VectorLine ds) (NearestLine ws) xs v.rest n.rest v.whole dv.1 n.whole dn.1;
      fits = record { model = size; entries = dv.2; numbers = All-from_recursion HasNumeral ds dv.3; nearest = dn.2; over = All-from_recursion (IsOver p) ws dn.3 };
      witness = record {
        model = record { size = size; true_there = model };
        within = All-from_recursion (λ d. d ≤ top_at p) ds (all_within (top_at p) ds within);
        nearest = near.0;
        vector = near.1;
      };
      good = and_right (list_all (λ d. nat_le d (top_at p)) ds) (is_as_good p ds) lv.0;
      run = subst (λ (b : Bool). Run (record p { due = if b then due.Measure else due_after_verdicts p p.verdicts; model = w; vector = ds; best = if b then ds else p.best; claims = p.claims ++ far_claims p.verdicts w ds }) n.rest q) e r3;
    }
