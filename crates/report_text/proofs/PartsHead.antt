-- The head of a report and the first lines of its problem.
use Rattle.std.proofs.Common.{◌≡◌, ◌≤◌, List, [], ◌∷◌, ◌++◌, length, codes, refl, ap, sym, subst, ◌∙◌, arith}
use Rattle.problem_reading.specs.declared.said.Said.{Said}
use Rattle.problem_reading.specs.declared.said.Said.TheVariants.{Names, Condition}
use Rattle.problem_reading.specs.Canonical.{IsWritten}
use Rattle.problem_reading.specs.Drafts.{Draft, empty_draft}
use Rattle.problem_reading.specs.Faults.{line_form}
use Rattle.problem_reading.specs.Saying as saying
use Rattle.problem_reading.specs.Spelling.{no_lines}
use Rattle.problem_laws.specs.CanonicalOrder.{after_atoms, in_agents, no_line, atoms_come, constraint_comes}
use Rattle.merge_model.specs.declared.operator.AggregatorName.{AggregatorName}
use Rattle.merge_model.specs.declared.operator.AggregatorName.TheVariants.{Sum}
use Rattle.merge_model.specs.declared.operator.DistanceName.{DistanceName}
use Rattle.merge_model.specs.declared.operator.DistanceName.TheVariants.{Drastic}
use Rattle.report_lines.specs.declared.kinds.Due.{Due}
use Rattle.report_lines.specs.declared.kinds.Due.TheVariants as due
use Rattle.report_lines.specs.Items.{Item, HeadLine, DistanceLine, AggregatorLine, ConflictsLine, ProblemLine}
use Rattle.report_lines.specs.Places.{Position, DueAt, start, conflict_limit}
use Rattle.report_lines.specs.Following.{LeadsTo, after_said}
use Rattle.report_lines.specs.Judged.{Run}
use Rattle.report_lines.specs.Parts.{Asked, head_items}
use Rattle.report_text.proofs.PartsPlaces.{Next, next, first_is}
use Rattle.report_text.proofs.PartsAnswer.{fresh}
use Rattle.report_text.proofs.PartsProblem.{Line, setting, Begins, begins, names_said, condition_said, comes, declared, State, ProblemRest, line_more, agent_by, agents_rest}

-- a place in the head
abbrev pub headed : Due → DistanceName → AggregatorName → Position
headed now distance aggregator = record start { due = now; distance = distance; aggregator = aggregator }

-- the four lines of the head, and what follows them
pub record HeadRest (end : Position) (xs : List Item) : Type 0 where
  pub asked : Asked
  pub rest : List Item
  pub items : xs ≡ head_items asked ++ rest
  pub some : 1 ≤ asked.conflicts
  pub few : asked.conflicts ≤ conflict_limit
  pub run : Run (fresh (setting asked empty_draft) due.Atoms) rest end

module _ (end : Position) (over : end.due ≡ due.Over) where
  -- the rest of a head, after items that came before
  conflicts_rest : (d : DistanceName) (a : AggregatorName) (xs : List Item) → Run (headed due.Conflicts d a) xs end → HeadRest end (HeadLine ∷ DistanceLine d ∷ AggregatorLine a ∷ xs)
  conflicts_rest d a xs r =
      let p : Position = headed due.Conflicts d a in
      let n : Next due.Conflicts p end xs = next due.Conflicts p end xs refl refl over r in
      let i : DueAt due.Conflicts p n.item = n.of in
      let l : LeadsTo p (ConflictsLine i.0) n.place = subst (λ (y : Item). LeadsTo p y n.place) i.1 n.leads in
      record {
        asked = record { distance = d; aggregator = a; conflicts = i.0 };
        rest = n.rest;
        items = ap (λ (ys : List Item). HeadLine ∷ DistanceLine d ∷ AggregatorLine a ∷ ys) (first_is n.item (ConflictsLine i.0) xs n.rest n.rest n.whole i.1 refl);
        some = i.2;
        few = i.3;
        run = subst (λ (m : Position). Run m n.rest end) l.1 n.run;
      }

  aggregator_rest : (d : DistanceName) (xs : List Item) → Run (headed due.Aggregator d Sum) xs end → HeadRest end (HeadLine ∷ DistanceLine d ∷ xs)
  aggregator_rest d xs r =
      let p : Position = headed due.Aggregator d Sum in
      let n : Next due.Aggregator p end xs = next due.Aggregator p end xs refl refl over r in
      let i : DueAt due.Aggregator p n.item = n.of in
      let l : LeadsTo p (AggregatorLine i.0) n.place = subst (λ (y : Item). LeadsTo p y n.place) i.1 n.leads in
      subst (λ (ys : List Item). HeadRest end (HeadLine ∷ DistanceLine d ∷ ys)) (sym (first_is n.item (AggregatorLine i.0) xs n.rest n.rest n.whole i.1 refl))
      (conflicts_rest d i.0 n.rest (subst (λ (m : Position). Run m n.rest end) l.1 n.run))

  distance_rest : (xs : List Item) → Run (headed due.Distance Drastic Sum) xs end → HeadRest end (HeadLine ∷ xs)
  distance_rest xs r =
      let p : Position = headed due.Distance Drastic Sum in
      let n : Next due.Distance p end xs = next due.Distance p end xs refl refl over r in
      let i : DueAt due.Distance p n.item = n.of in
      let l : LeadsTo p (DistanceLine i.0) n.place = subst (λ (y : Item). LeadsTo p y n.place) i.1 n.leads in
      subst (λ (ys : List Item). HeadRest end (HeadLine ∷ ys)) (sym (first_is n.item (DistanceLine i.0) xs n.rest n.rest n.whole i.1 refl))
      (aggregator_rest i.0 n.rest (subst (λ (m : Position). Run m n.rest end) l.1 n.run))

  pub head_rest : (xs : List Item) → Run start xs end → HeadRest end xs
  head_rest xs r =
      let n : Next due.Head start end xs = next due.Head start end xs refl refl over r in
      let i : DueAt due.Head start n.item = n.of in
      let l : LeadsTo start HeadLine n.place = subst (λ (y : Item). LeadsTo start y n.place) i n.leads in
      subst (λ (ys : List Item). HeadRest end ys) (sym (first_is n.item HeadLine xs n.rest n.rest n.whole i refl)) (distance_rest n.rest (subst (λ (m : Position). Run m n.rest end) l.1 n.run))

-- a canonical line of atoms names one
some_names : (line : Line) (atoms : List Line) → saying.Says empty_draft line (Names atoms) → IsWritten empty_draft line (Names atoms) → 1 ≤ length atoms
some_names line [] s w = absurd (subst (λ (l : Line). saying.IsSaid empty_draft (line_form l) (Names [])) w s.said)
some_names line (a ∷ atoms) s w = omega arith

module _ (asked : Asked) (end : Position) (over : end.due ≡ due.Over) where
  first_agent : (lines : List Line) (d : Draft) (xs : List Item) → State in_agents lines d → 1 ≤ length d.atoms → Run (fresh (setting asked d) due.FirstAgent) xs end → ProblemRest end.kind asked lines xs
  first_agent lines d xs s atom r =
      let p : Position = fresh (setting asked d) due.FirstAgent in
      let n : Next due.FirstAgent p end xs = next due.FirstAgent p end xs refl refl over r in
      subst (λ (ys : List Item). ProblemRest end.kind asked lines ys) (sym n.whole)
      (agent_by asked end over due.FirstAgent lines d n.item n.rest n.place s atom n.of n.leads n.run (agents_rest asked end over n.rest))

  constraint_rest : (lines : List Line) (d : Draft) (xs : List Item) → State after_atoms lines d → 1 ≤ length d.atoms → Run (fresh (setting asked d) due.Constraint) xs end → ProblemRest end.kind asked lines xs
  constraint_rest lines d xs s atom r =
      let p : Position = fresh (setting asked d) due.Constraint in
      let n : Next due.Constraint p end xs = next due.Constraint p end xs refl refl over r in
      let i : DueAt due.Constraint p n.item = n.of in
      let line : Line = i.0 in
      let l : LeadsTo p (ProblemLine line) n.place = subst (λ (y : Item). LeadsTo p y n.place) i.1 n.leads in
      let b : Begins line (codes "constraint") = begins line (codes "constraint") i.2 in
      let q = condition_said d line l.0 b l.1.1 in
      let says : saying.Says d line (Condition q.0) = subst (λ (t : Said). saying.Says d line t) q.1 l.1.0 in
      let written : IsWritten d line (Condition q.0) = subst (λ (t : Said). IsWritten d line t) q.1 l.1.1 in
      let e : Draft = saying.after d (Condition q.0) in
      let place : n.place ≡ fresh (setting asked e) due.FirstAgent = l.2 ∙ ap (λ (t : Said). after_said p t) q.1 in
      let state : State in_agents (lines ++ line ∷ []) e =
      record { order = constraint_comes line s.order (comes lines d line (codes "constraint") (Condition q.0) s.declares b says written); declares = declared lines d line (Condition q.0) s.declares says } in
      subst (λ (ys : List Item). ProblemRest end.kind asked lines ys) (sym (n.whole ∙ ap (λ (y : Item). y ∷ n.rest) i.1))
      (line_more end.kind asked lines line n.rest (first_agent (lines ++ line ∷ []) e n.rest state atom (subst (λ (m : Position). Run m n.rest end) place n.run)))

  pub problem_rest : (xs : List Item) → Run (fresh (setting asked empty_draft) due.Atoms) xs end → ProblemRest end.kind asked [] xs
  problem_rest xs r =
      let d : Draft = empty_draft in
      let p : Position = fresh (setting asked d) due.Atoms in
      let n : Next due.Atoms p end xs = next due.Atoms p end xs refl refl over r in
      let i : DueAt due.Atoms p n.item = n.of in
      let line : Line = i.0 in
      let l : LeadsTo p (ProblemLine line) n.place = subst (λ (y : Item). LeadsTo p y n.place) i.1 n.leads in
      let b : Begins line (codes "atoms") = begins line (codes "atoms") i.2 in
      let q = names_said d line l.0 b l.1.1 in
      let says : saying.Says d line (Names q.0) = subst (λ (t : Said). saying.Says d line t) q.1 l.1.0 in
      let written : IsWritten d line (Names q.0) = subst (λ (t : Said). IsWritten d line t) q.1 l.1.1 in
      let e : Draft = saying.after d (Names q.0) in
      let place : n.place ≡ fresh (setting asked e) due.Constraint = l.2 ∙ ap (λ (t : Said). after_said p t) q.1 in
      let state : State after_atoms (line ∷ []) e =
      record { order = atoms_come line no_line (comes [] d line (codes "atoms") (Names q.0) no_lines b says written); declares = declared [] d line (Names q.0) no_lines says } in
      subst (λ (ys : List Item). ProblemRest end.kind asked [] ys) (sym (n.whole ∙ ap (λ (y : Item). y ∷ n.rest) i.1))
      (line_more end.kind asked [] line n.rest (constraint_rest (line ∷ []) e n.rest state (some_names line q.0 says written) (subst (λ (m : Position). Run m n.rest end) place n.run)))
