-- The lines of the problem in a report.
use Rattle.std.proofs.Common.{◌≡◌, ℕ, zero, suc, ◌≤◌, true, inl, inr, List, [], ◌∷◌, ◌++◌, length, map, take, codes, not, refl, ap, sym, subst, ◌∙◌, append_assoc, append-nil, length-append, arith}
use Rattle.std.specs.Prelude.{nat_eq}
use Rattle.std.specs.List.{starts_with, prefix_len}
use Rattle.std.proofs.lemmas.Slice.Eq.{bytes_eq-Decides}
use Rattle.formulas.specs.declared.formula.Formula.{Formula}
use Rattle.line_tokens.specs.Bytes.{is_blank}
use Rattle.merge_model.specs.declared.agent.Agent.{Agent}
use Rattle.problem_reading.specs.declared.said.Said.{Said}
use Rattle.problem_reading.specs.declared.said.Said.TheVariants.{Nothing, Names, Condition, Belief, Query}
use Rattle.problem_reading.specs.Canonical.{IsWritten}
use Rattle.problem_reading.specs.Drafts.{Draft}
use Rattle.problem_reading.specs.Saying as saying
use Rattle.problem_reading.specs.Spelling.{Declares, one_more}
use Rattle.problem_laws.specs.CanonicalOrder.{Place, in_agents, in_asks, ComesNext, InOrder, agent_comes, first_ask, ask_comes}
use Rattle.report_lines.specs.declared.kinds.Due.{Due}
use Rattle.report_lines.specs.declared.kinds.Due.TheVariants as due
use Rattle.report_lines.specs.declared.kinds.Kind.{Kind}
use Rattle.report_lines.specs.Items.{Item, ProblemLine}
use Rattle.report_lines.specs.Places.{Position, DueAt, IsProblemLine, first_word}
use Rattle.report_lines.specs.Following.{LeadsTo, after_said}
use Rattle.report_lines.specs.Judged.{Run}
use Rattle.report_lines.specs.Parts.{Asked}
use Rattle.report_text.proofs.PartsShown.{Setting}
use Rattle.report_text.proofs.PartsAnswer.{fresh, Answered, answer_rest}

abbrev pub Line : Type 0
Line = List ℕ

abbrev pub setting : Asked → Draft → Setting
setting asked d = record { distance = asked.distance; aggregator = asked.aggregator; conflicts = asked.conflicts; draft = d }

-- a line begins with its first word

take_again : {A : Type 0} (n : ℕ) (xs : List A) → take (length (take n xs)) xs ≡ take n xs
take_again zero xs = refl
take_again (suc n) [] = refl
take_again {A = A} (suc n) (x ∷ xs) = ap (λ (ys : List A). x ∷ ys) (take_again n xs)

abbrev pub Begins : Line → Line → Type 0
Begins line word = starts_with nat_eq line word ≡ true

pub begins : (line word : Line) → first_word line ≡ word → Begins line word
begins line word e =
    let n : ℕ = prefix_len (λ b. not (is_blank b)) line in
    let same : word ≡ take (length word) line = sym e ∙ (sym (take_again n line) ∙ ap (λ (w : Line). take (length w) line) e) in
    (bytes_eq-Decides word (take (length word) line)).1 same

-- what a canonical line says, by its first word

pub names_said : (d : Draft) (line : Line) (said : Said) → Begins line (codes "atoms") → IsWritten d line said → (atoms : List Line) × (said ≡ Names atoms)
names_said d line Nothing b w = absurd w
names_said d line (Names atoms) b w = (atoms, refl)
names_said d line (Condition f) b w = let none = sym b ∙ ap (λ l. starts_with nat_eq l (codes "atoms")) w in absurd (cc)
names_said d line (Belief a) b w = let none = sym b ∙ ap (λ l. starts_with nat_eq l (codes "atoms")) w in absurd (cc)
names_said d line (Query f) b w = let none = sym b ∙ ap (λ l. starts_with nat_eq l (codes "atoms")) w in absurd (cc)

pub condition_said : (d : Draft) (line : Line) (said : Said) → Begins line (codes "constraint") → IsWritten d line said → (f : Formula) × (said ≡ Condition f)
condition_said d line Nothing b w = absurd w
condition_said d line (Names atoms) b w = let none = sym b ∙ ap (λ l. starts_with nat_eq l (codes "constraint")) w in absurd (cc)
condition_said d line (Condition f) b w = (f, refl)
condition_said d line (Belief a) b w = let none = sym b ∙ ap (λ l. starts_with nat_eq l (codes "constraint")) w in absurd (cc)
condition_said d line (Query f) b w = let none = sym b ∙ ap (λ l. starts_with nat_eq l (codes "constraint")) w in absurd (cc)

pub belief_said : (d : Draft) (line : Line) (said : Said) → Begins line (codes "agent") → IsWritten d line said → (a : Agent) × (said ≡ Belief a)
belief_said d line Nothing b w = absurd w
belief_said d line (Names atoms) b w = let none = sym b ∙ ap (λ l. starts_with nat_eq l (codes "agent")) w in absurd (cc)
belief_said d line (Condition f) b w = let none = sym b ∙ ap (λ l. starts_with nat_eq l (codes "agent")) w in absurd (cc)
belief_said d line (Belief a) b w = (a, refl)
belief_said d line (Query f) b w = let none = sym b ∙ ap (λ l. starts_with nat_eq l (codes "agent")) w in absurd (cc)

pub query_said : (d : Draft) (line : Line) (said : Said) → Begins line (codes "ask") → IsWritten d line said → (f : Formula) × (said ≡ Query f)
query_said d line Nothing b w = absurd w
query_said d line (Names atoms) b w = let none = sym b ∙ ap (λ l. starts_with nat_eq l (codes "ask")) w in absurd (cc)
query_said d line (Condition f) b w = let none = sym b ∙ ap (λ l. starts_with nat_eq l (codes "ask")) w in absurd (cc)
query_said d line (Belief a) b w = let none = sym b ∙ ap (λ l. starts_with nat_eq l (codes "ask")) w in absurd (cc)
query_said d line (Query f) b w = (f, refl)

-- the lines so far, in order, and what they declare
pub record State (place : Place) (lines : List Line) (d : Draft) : Type 0 where
  pub order : InOrder place lines
  pub declares : Declares lines d

pub comes : (lines : List Line) (d : Draft) (line word : Line) (said : Said) → Declares lines d → Begins line word → saying.Says d line said → IsWritten d line said → ComesNext lines line word
comes lines d line word said h b s w = record { first = b; next = (d, said, h, s, w) }

pub declared : (lines : List Line) (d : Draft) (line : Line) (said : Said) → Declares lines d → saying.Says d line said → Declares (lines ++ line ∷ []) (saying.after d said)
declared lines d line said h s = one_more line (saying.after d said) h (said, s, refl)

-- lines of the problem after these, and what follows them
pub record ProblemRest (last : Kind) (asked : Asked) (lines : List Line) (xs : List Item) : Type 0 where
  pub more : List Line
  pub draft : Draft
  pub tail : List Item
  pub items : xs ≡ map ProblemLine more ++ tail
  pub place : Place
  pub state : State place (lines ++ more) draft
  pub some_atom : 1 ≤ length draft.atoms
  pub some_agent : 1 ≤ length draft.agents
  pub answered : Answered last (setting asked draft) tail

pub line_more : (last : Kind) (asked : Asked) (lines : List Line) (line : Line) (xs : List Item) → ProblemRest last asked (lines ++ line ∷ []) xs → ProblemRest last asked lines (ProblemLine line ∷ xs)
line_more last asked lines line xs r = record {
  more = line ∷ r.more;
  draft = r.draft;
  tail = r.tail;
  items = ap (λ (ys : List Item). ProblemLine line ∷ ys) r.items;
  place = r.place;
  state = subst (λ (ls : List Line). State r.place ls r.draft) (append_assoc lines (line ∷ []) r.more) r.state;
  some_atom = r.some_atom;
  some_agent = r.some_agent;
  answered = r.answered;
}

pub at_answer : (last : Kind) (asked : Asked) (place : Place) (lines : List Line) (d : Draft) (xs : List Item) → State place lines d → 1 ≤ length d.atoms → 1 ≤ length d.agents → Answered last (setting asked d) xs → ProblemRest last asked lines xs
at_answer last asked place lines d xs s atom agent a = record {
  more = [];
  draft = d;
  tail = xs;
  items = refl;
  place = place;
  state = subst (λ (ls : List Line). State place ls d) (sym (append-nil lines)) s;
  some_atom = atom;
  some_agent = agent;
  answered = a;
}

module _ (asked : Asked) (end : Position) (over : end.due ≡ due.Over) where
  abbrev At : Due → Draft → Position
  At dd d = fresh (setting asked d) dd

  abbrev FromAsks : List Item → Type 0
  FromAsks xs = (lines : List Line) (d : Draft) → State in_asks lines d → 1 ≤ length d.atoms → 1 ≤ length d.agents → Run (At due.Asks d) xs end → ProblemRest end.kind asked lines xs

  -- a query
  ask_by : (dd : Due) (lines : List Line) (d : Draft) (x : Item) (xs : List Item) (m : Position) → Declares lines d
      → ((line : Line) → ComesNext lines line (codes "ask") → InOrder in_asks (lines ++ line ∷ [])) → 1 ≤ length d.atoms → 1 ≤ length d.agents
      → IsProblemLine (codes "ask") x → LeadsTo (At dd d) x m → Run m xs end → FromAsks xs → ProblemRest end.kind asked lines (x ∷ xs)
  ask_by dd lines d x xs m h grows atom agent i l r again =
      let line : Line = i.0 in
      let l2 : LeadsTo (At dd d) (ProblemLine line) m = subst (λ (y : Item). LeadsTo (At dd d) y m) i.1 l in
      let b : Begins line (codes "ask") = begins line (codes "ask") i.2 in
      let q = query_said d line l2.0 b l2.1.1 in
      let says : saying.Says d line (Query q.0) = subst (λ (s : Said). saying.Says d line s) q.1 l2.1.0 in
      let written : IsWritten d line (Query q.0) = subst (λ (s : Said). IsWritten d line s) q.1 l2.1.1 in
      let place : m ≡ At due.Asks (saying.after d (Query q.0)) = l2.2 ∙ ap (λ (s : Said). after_said (At dd d) s) q.1 in
      let state : State in_asks (lines ++ line ∷ []) (saying.after d (Query q.0)) =
      record { order = grows line (comes lines d line (codes "ask") (Query q.0) h b says written); declares = declared lines d line (Query q.0) h says } in
      subst (λ (y : Item). ProblemRest end.kind asked lines (y ∷ xs)) (sym i.1)
      (line_more end.kind asked lines line xs (again (lines ++ line ∷ []) (saying.after d (Query q.0)) state atom agent (subst (λ (n : Position). Run n xs end) place r)))

  asks_by : (lines : List Line) (d : Draft) (x : Item) (xs : List Item) (m : Position) → State in_asks lines d → 1 ≤ length d.atoms → 1 ≤ length d.agents → DueAt due.Asks (At due.Asks d) x → LeadsTo (At due.Asks d) x m → Run m xs end
      → FromAsks xs → ProblemRest end.kind asked lines (x ∷ xs)
  asks_by lines d x xs m s atom agent (inl i) l r again = ask_by due.Asks lines d x xs m s.declares (λ line c. ask_comes line s.order c) atom agent i l r again
  asks_by lines d x xs m s atom agent (inr i) l r again = at_answer end.kind asked in_asks lines d (x ∷ xs) s atom agent (answer_rest (setting asked d) due.Asks x xs m end i l r over)

  asks_rest : (xs : List Item) → FromAsks xs
  asks_rest [] lines d s atom agent r = let h : due.Asks ≡ due.Over = ap (λ (n : Position). n.due) r ∙ over in absurd (cc)
  asks_rest (x ∷ xs) lines d s atom agent r = asks_by lines d x xs r.0 s atom agent r.1 r.2 r.3 (asks_rest xs)

  abbrev FromAgents : List Item → Type 0
  FromAgents xs = (lines : List Line) (d : Draft) → State in_agents lines d → 1 ≤ length d.atoms → 1 ≤ length d.agents → Run (At due.Agents d) xs end → ProblemRest end.kind asked lines xs

  -- an agent
  pub agent_by : (dd : Due) (lines : List Line) (d : Draft) (x : Item) (xs : List Item) (m : Position) → State in_agents lines d → 1 ≤ length d.atoms
      → IsProblemLine (codes "agent") x → LeadsTo (At dd d) x m → Run m xs end → FromAgents xs → ProblemRest end.kind asked lines (x ∷ xs)
  agent_by dd lines d x xs m t atom i l r again =
      let line : Line = i.0 in
      let l2 : LeadsTo (At dd d) (ProblemLine line) m = subst (λ (y : Item). LeadsTo (At dd d) y m) i.1 l in
      let b : Begins line (codes "agent") = begins line (codes "agent") i.2 in
      let q = belief_said d line l2.0 b l2.1.1 in
      let says : saying.Says d line (Belief q.0) = subst (λ (s : Said). saying.Says d line s) q.1 l2.1.0 in
      let written : IsWritten d line (Belief q.0) = subst (λ (s : Said). IsWritten d line s) q.1 l2.1.1 in
      let place : m ≡ At due.Agents (saying.after d (Belief q.0)) = l2.2 ∙ ap (λ (s : Said). after_said (At dd d) s) q.1 in
      let state : State in_agents (lines ++ line ∷ []) (saying.after d (Belief q.0)) =
      record { order = agent_comes line t.order (comes lines d line (codes "agent") (Belief q.0) t.declares b says written); declares = declared lines d line (Belief q.0) t.declares says } in
      let some : 1 ≤ length (d.agents ++ q.0 ∷ []) = omega (arith, length-append d.agents (q.0 ∷ [])) in
      subst (λ (y : Item). ProblemRest end.kind asked lines (y ∷ xs)) (sym i.1)
      (line_more end.kind asked lines line xs (again (lines ++ line ∷ []) (saying.after d (Belief q.0)) state atom some (subst (λ (n : Position). Run n xs end) place r)))

  agents_by : (lines : List Line) (d : Draft) (x : Item) (xs : List Item) (m : Position) → State in_agents lines d → 1 ≤ length d.atoms → 1 ≤ length d.agents → DueAt due.Agents (At due.Agents d) x → LeadsTo (At due.Agents d) x m → Run m xs end
      → FromAgents xs → ProblemRest end.kind asked lines (x ∷ xs)
  agents_by lines d x xs m s atom agent (inl i) l r again = agent_by due.Agents lines d x xs m s atom i l r again
  agents_by lines d x xs m s atom agent (inr (inl i)) l r again = ask_by due.Agents lines d x xs m s.declares (λ line c. first_ask line s.order c) atom agent i l r (asks_rest xs)
  agents_by lines d x xs m s atom agent (inr (inr i)) l r again = at_answer end.kind asked in_agents lines d (x ∷ xs) s atom agent (answer_rest (setting asked d) due.Agents x xs m end i l r over)

  pub agents_rest : (xs : List Item) → FromAgents xs
  agents_rest [] lines d s atom agent r = let h : due.Agents ≡ due.Over = ap (λ (n : Position). n.due) r ∙ over in absurd (cc)
  agents_rest (x ∷ xs) lines d s atom agent r = agents_by lines d x xs r.0 s atom agent r.1 r.2 r.3 (agents_rest xs)
